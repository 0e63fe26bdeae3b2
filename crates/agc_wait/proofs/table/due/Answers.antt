use Rattle.std.proofs.Common.{◌≡◌, ◌≢◌, ◌==◌, ◌∙◌, ap, sym, arith, false}
use mathlib.Core.Bool.{not}
use Rattle.std.proofs.lemmas.Grind.{common_steps}
use Rattle.agc_wait.specs.Waits.{is_due}
use Rattle.agc_wait.specs.Table.{waits_of, at_in, time3}
use Rattle.agc_wait.proofs.Standing.{tells}
use Rattle.agc_wait.proofs.Tables.{Carries-lawful}
use Rattle.agc_wait.proofs.Counting.{is_due-carried, Carries-none}
use Rattle.agc_wait.proofs.table.due.Goals as goal

pub returns-then-bits-ne0 : goal.returns-then-bits-ne0
returns-then-bits-ne0 c =
    let ne : at_in c.args.e.now 0 ≢ 0 = grind (arith, common_steps) in
    let is : is_due (waits_of c.args.e.now) ≡ (time3 c.args.e.now == 0) = is_due-carried c.args.e.now (waits_of c.args.e.now) (Carries-lawful c.args.e.now c.requires) ne in
    let bits : c.bits-then-bits-ne0.result ≡ time3 c.args.e.now = c.bits-then-bits-ne0.ensures.value ∙ c.get-then-bits-ne0.ensures.value in
    tells c.args.e.now _ c.requires (ap (λ b. b == 0) bits ∙ sym is)

pub returns-else-bits-ne0 : goal.returns-else-bits-ne0
returns-else-bits-ne0 c =
    let empty : at_in c.args.e.now 0 ≡ 0 = sym (c.bits.ensures.value ∙ c.get.ensures.value) ∙ c.if-bits-ne0.false in
    let apart : is_due (waits_of c.args.e.now) ≡ false = ap is_due (Carries-none c.args.e.now (waits_of c.args.e.now) (Carries-lawful c.args.e.now c.requires) empty) in
    tells c.args.e.now _ c.requires (ap (λ b. not (b == 0)) c.if-bits-ne0.false ∙ sym apart)
