use Rattle.std.proofs.Common.{◌∙◌, arith, refl}
use Rattle.agc_phase.proofs.table.failreg.Goals as goal

pub returns-clause-codes : goal.returns-clause-codes
returns-clause-codes c = λ lawful.
    rw (c.get.ensures.value ∙ lawful.spelled 0 (omega arith), c.get-2.ensures.value ∙ lawful.spelled 1 (omega arith), c.get-3.ensures.value ∙ lawful.spelled 2 (omega arith)) refl
