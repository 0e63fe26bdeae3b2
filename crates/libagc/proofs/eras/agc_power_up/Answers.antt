use Rattle.std.proofs.Common.{ℕ, List, refl, subst}
use Rattle.libagc.specs.Stepping.{PowersUp}
use Rattle.libagc.proofs.eras.agc_power_up.Goals as goal

pub returns-in-None-plan_lacks-clause-served : goal.returns-in-None-plan_lacks-clause-served
returns-in-None-plan_lacks-clause-served c = λ zero.
    subst (λ (p : List ℕ). PowersUp c.args.sets c.args.entries.now p c.args.words.now c.rise.new.words c.rise.result.number) c.in-Some-twelve.ensures.words
    (c.rise.ensures.served c.args.sets (c.in-Some.ensures.valid.0 refl) c.in-Some.ensures.value)
