-- Of proofs alone: the numbers of tasks' rows, by task.
use Rattle.std.specs.Prelude.{◌≡◌, ℕ, ◌+◌, Bool, if◌then◌else◌, ◌||◌, [], ◌∷◌, drop}
use Rattle.std.specs.Prelude.{Option, Some, None, is_some}
use Rattle.std.specs.List.{list_any}
use Rattle.std.specs.Option.{option_or}
use Rattle.std.specs.Ordering.{ordering_then, nat_cmp}
use Rattle.std.specs.declared.cmp.Ordering.{Ordering}
use Rattle.std.specs.BTreeMap.{BTreeMap, get}
use Rattle.agc_plan.specs.declared.request.Task.{Task}
use Rattle.agc_plan.specs.Plans.{Rows, same_task, task_twice}

-- two pairs by their first numbers, and by their second where those are the same
abbrev pub pair_order : ℕ × ℕ → ℕ × ℕ → Ordering
pair_order one other = ordering_then (nat_cmp one.0 other.0) (nat_cmp one.1 other.1)

-- the number of a task's row, by an index
abbrev pub indexed : BTreeMap (ℕ × ℕ) ℕ → Task → Option ℕ
indexed index task = get pair_order index (task.at, task.bank)

-- the number of a task's row, among rows of which the first has this number
abbrev pub number_from : ℕ → Rows → Task → Option ℕ
number_from n [] task = None
number_from n (row ∷ rows) task =
    if same_task row.0 task then Some n else number_from (n + 1) rows task

-- the index of these rows
abbrev pub IsIndex : Rows → BTreeMap (ℕ × ℕ) ℕ → Type 0
IsIndex rows index = (task : Task) → indexed index task ≡ number_from 0 rows task

-- whether any row is of an indexed task
abbrev pub any_indexed : BTreeMap (ℕ × ℕ) ℕ → Rows → Bool
any_indexed index rows = list_any (λ row. is_some (indexed index row.0)) rows

-- the index of the first rows, so many, of which no two are of one task
pub record IndexesFirst (n : ℕ) (rows : Rows) (index : BTreeMap (ℕ × ℕ) ℕ) : Type 0 where
  pub numbers : (task : Task) → option_or (indexed index task) (number_from n (drop n rows) task)
      ≡ number_from 0 rows task
  pub twice : (any_indexed index (drop n rows) || task_twice (drop n rows)) ≡ task_twice rows
