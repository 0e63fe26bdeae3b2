-- The row of a task in a caller's rows, and a plan that has no fault.
use Rattle.std.proofs.Common.{◌≡◌, ℕ, suc, ◌<◌, List, ◌∷◌, length, drop, get_or, drop-cons, ap, ◌∙◌, refl, true, false, None, arith}
use Rattle.std.proofs.lemmas.Grind.{common_steps}
use Rattle.agc_plan.specs.declared.request.Action.{Action}
use Rattle.agc_plan.specs.declared.request.Task.{Task}
use Rattle.agc_plan.specs.Begins.{Begins}
use Rattle.agc_plan.specs.Plans.{Rows, actions_in, has_task, task_twice, phase_twice, all_want, fault_of}
use Rattle.libagc.specs.declared.plans.AgcRow.{AgcRow}
use Rattle.libagc.specs.Plans.{actions_from_c, row_from_c, rows_from_c}

hit : (row : Task × List Action) (rows : Rows) (task : Task) → row.0.at ≡ task.at → row.0.bank ≡ task.bank → actions_in (row ∷ rows) task ≡ row.1
hit row rows task at bank = grind (arith, common_steps)

pub first_row : (rows : List AgcRow) (k : ℕ) (or : AgcRow) (task : Task) → k < length rows → (get_or rows k or).at ≡ task.at → (get_or rows k or).bank ≡ task.bank → actions_in (rows_from_c (drop k rows)) task ≡ actions_from_c (get_or rows k or)
first_row rows k or task lt at bank =
    ap (λ (l : List AgcRow). actions_in (rows_from_c l) task) (drop-cons rows k or lt) ∙ hit _ _ task at bank

has_hit : (row : Task × List Action) (rows : Rows) (task : Task) → row.0.at ≡ task.at → row.0.bank ≡ task.bank → has_task (row ∷ rows) task ≡ true
has_hit row rows task at bank = grind (arith, common_steps)

pub has_first : (rows : List AgcRow) (k : ℕ) (or : AgcRow) (task : Task) → k < length rows → (get_or rows k or).at ≡ task.at → (get_or rows k or).bank ≡ task.bank → has_task (rows_from_c (drop k rows)) task ≡ true
has_first rows k or task lt at bank =
    ap (λ (l : List AgcRow). has_task (rows_from_c l) task) (drop-cons rows k or lt) ∙ has_hit (row_from_c (get_or rows k or)) (rows_from_c (drop (suc k) rows)) task at bank

pub no_fault : (rows : Rows) (entries : List Begins) → task_twice rows ≡ false → phase_twice entries ≡ false → all_want entries ≡ false → fault_of rows entries ≡ None
no_fault rows entries task phase areas = rw task (rw phase (rw areas refl))
