use Rattle.std.proofs.Common.{◌∙◌, append-nil, refl}
use Rattle.agc_session.specs.Pieces.{asks_in, script_piece}
use Rattle.agc_session.proofs.Pieces.{none_taken, one_piece}
use Rattle.agc_session.proofs.walk.Walk.of_script.Goals as goal

pub returns : goal.returns
returns c =
    none_taken _ _ refl refl (one_piece _ refl refl refl refl refl refl) ∙ append-nil (asks_in (script_piece c.args.script.now))
