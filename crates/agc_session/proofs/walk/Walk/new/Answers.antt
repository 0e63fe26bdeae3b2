use Rattle.std.proofs.Common.{◌∙◌, refl}
use Rattle.agc_session.proofs.Pieces.{at_first, none_taken}
use Rattle.agc_session.proofs.walk.Walk.new.Goals as goal

pub returns-clause-pieces : goal.returns-clause-pieces
returns-clause-pieces c =
    at_first c.args.bench.now _ _ _ _ _ _ c.script.ensures c.workers.ensures.value c.devices.ensures.value
    (c.as_slice.ensures.value ∙ c.key.ensures.value) (c.as_slice-2.ensures.value ∙ c.radar.ensures.value)

pub returns-clause-all : goal.returns-clause-all
returns-clause-all c = none_taken _ _ refl refl (returns-clause-pieces c)
