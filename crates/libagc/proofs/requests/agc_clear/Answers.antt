use Rattle.std.proofs.Common.{refl}
use Rattle.libagc.proofs.Emptying.{fresh}
use Rattle.libagc.proofs.requests.agc_clear.Goals as goal

pub returns-in-Some-clause-served : goal.returns-in-Some-clause-served
returns-in-Some-clause-served c =
    λ served.
    fresh c.in-Some.count c.args.sets c.args.words.now c.write_back.new.array c.new-image.result c.start_afresh.new.e (c.in-Some.ensures.valid.0 refl) c.in-Some.ensures.value c.new-image.ensures c.start_afresh.ensures.empties c.start_afresh.ensures.lawful c.start_afresh.ensures.size c.write_back.ensures
