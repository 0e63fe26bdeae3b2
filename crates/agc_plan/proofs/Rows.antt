-- The numbers of tasks' rows, by task.
use Rattle.std.proofs.Common.{◌≡◌, ℕ, zero, suc, ◌+◌, ◌-◌, ◌<◌, ◌≤◌, ◌==◌, ◌||◌, Bool, true, false, if◌then◌else◌, List, [], ◌∷◌, length, get_or, drop, Some, None, refl, sym, ap, ◌∙◌, inl, inr, arith}
use Rattle.std.specs.Prelude.{cond, is_some, slice_get}
use Rattle.std.specs.Option.{option_or}
use Rattle.std.specs.Cmp.{both_tied, unsigned_tied}
use Rattle.std.specs.Ordering.{nat_cmp}
use Rattle.std.specs.BTreeMap.{BTreeMap, get, is_at}
use Rattle.std.proofs.lemmas.Bool.{cases_Bool}
use Rattle.std.proofs.lemmas.Option.{same_Some, slice_get-get_or}
use Rattle.std.proofs.lemmas.Grind.{common_steps}
use Rattle.agc_plan.specs.declared.request.Action.{Action}
use Rattle.agc_plan.specs.declared.request.Task.{Task}
use Rattle.agc_plan.specs.Plans.{Rows, same_task, has_task, task_twice, actions_in}
use Rattle.agc_plan.proofs.Lists.{next_is}
use Rattle.agc_plan.specs.Index.{pair_order, indexed, number_from, any_indexed, IndexesFirst}

-- two tasks are the same where the order finds them equal
pub tied : (one other : Task) → same_task one other ≡ is_at (pair_order (one.at, one.bank)) (other.at, other.bank)
tied one other = both_tied (one.at == other.at) (one.bank == other.bank) (nat_cmp one.at other.at) (nat_cmp one.bank other.bank) (sym (unsigned_tied one.at other.at)) (sym (unsigned_tied one.bank other.bank))

-- what an index has once a task's row is in it
abbrev Inserts : BTreeMap (ℕ × ℕ) ℕ → BTreeMap (ℕ × ℕ) ℕ → Task → ℕ → Type 0
Inserts old new task n = (other : Task) → indexed new other ≡ (if same_task task other then Some n else indexed old other)

inserted : (old new : BTreeMap (ℕ × ℕ) ℕ) (task : Task) (n : ℕ) → ((q : ℕ × ℕ) → get pair_order new q ≡ cond (is_at (pair_order (task.at, task.bank)) q) (Some n) (get pair_order old q)) → Inserts old new task n
inserted old new task n is other = is (other.at, other.bank) ∙ ap (λ b. cond b (Some n) (indexed old other)) (sym (tied task other))

-- none is indexed at first
unindexed : (index : BTreeMap (ℕ × ℕ) ℕ) (task : Task) → index.entries ≡ [] → indexed index task ≡ None
unindexed index task none = rw none refl

none_indexed : (rows : Rows) (index : BTreeMap (ℕ × ℕ) ℕ) → index.entries ≡ [] → any_indexed index rows ≡ false
none_indexed [] index none = refl
none_indexed (row ∷ rows) index none = ap (λ o. is_some o || any_indexed index rows) (unindexed index row.0 none) ∙ none_indexed rows index none

pub starts : (rows : Rows) (index : BTreeMap (ℕ × ℕ) ℕ) → index.entries ≡ [] → IndexesFirst 0 rows index
starts rows index none = record {
  numbers = λ task. ap (λ o. option_or o (number_from 0 rows task)) (unindexed index task none);
  twice = ap (λ b. b || task_twice rows) (none_indexed rows index none);
}

-- the same task has the same number
same_number : (index : BTreeMap (ℕ × ℕ) ℕ) (one other : Task) → same_task one other ≡ true → indexed index one ≡ indexed index other
same_number index one other same =
    let at : one.at ≡ other.at = grind (arith, common_steps) in
    let bank : one.bank ≡ other.bank = grind (arith, common_steps) in
    ap (λ n. get pair_order index (n, one.bank)) at ∙ ap (λ n. get pair_order index (other.at, n)) bank

same_turned : (one other : Task) → same_task one other ≡ same_task other one
same_turned one other = elim (cases_Bool (same_task one other)) [
  | inl same ↦ let turned : same_task other one ≡ true = grind (arith, common_steps) in same ∙ sym turned
  | inr differ ↦ let turned : same_task other one ≡ false = grind (arith, common_steps) in differ ∙ sym turned
]

-- the numbers stay what they were once the next row is in the index
numbers_on : (n : ℕ) (row : Task × List Action) (rows : Rows) (old new : BTreeMap (ℕ × ℕ) ℕ) → indexed old row.0 ≡ None → Inserts old new row.0 n → (task : Task) → option_or (indexed new task) (number_from (n + 1) rows task) ≡ option_or (indexed old task) (number_from n (row ∷ rows) task)
numbers_on n row rows old new fresh is task = elim (cases_Bool (same_task row.0 task)) [
  | inl same ↦
      let none : indexed old task ≡ None = sym (same_number old row.0 task same) ∙ fresh in
      ap (λ o. option_or o (number_from (n + 1) rows task)) (is task ∙ ap (λ b. if b then Some n else indexed old task) same)
      ∙ sym (ap (λ o. option_or o (number_from n (row ∷ rows) task)) none ∙ ap (λ b. if b then Some n else number_from (n + 1) rows task) same)
  | inr differ ↦
      ap (λ o. option_or o (number_from (n + 1) rows task)) (is task ∙ ap (λ b. if b then Some n else indexed old task) differ)
      ∙ sym (ap (λ b. option_or (indexed old task) (if b then Some n else number_from (n + 1) rows task)) differ)
]

-- so does whether two are of one task
or_swap : (o h a : Bool) → (o || (h || a)) ≡ (h || (o || a))
or_swap true true a = refl
or_swap true false a = refl
or_swap false true a = refl
or_swap false false a = refl

or_turn : (h a t : Bool) → ((h || a) || t) ≡ (a || (h || t))
or_turn true true t = refl
or_turn true false t = refl
or_turn false true t = refl
or_turn false false t = refl

any_on : (n : ℕ) (task : Task) (rows : Rows) (old new : BTreeMap (ℕ × ℕ) ℕ) → Inserts old new task n → any_indexed new rows ≡ (has_task rows task || any_indexed old rows)
any_on n task [] old new is = refl
any_on n task (row ∷ rows) old new is =
    ap (λ o. is_some o || any_indexed new rows) (is row.0)
    ∙ ap (λ a. is_some (if same_task task row.0 then Some n else indexed old row.0) || a) (any_on n task rows old new is)
    ∙ elim (cases_Bool (same_task task row.0)) [
      | inl same ↦
          ap (λ b. is_some (if b then Some n else indexed old row.0) || (has_task rows task || any_indexed old rows)) same
          ∙ sym (ap (λ b. (b || has_task rows task) || any_indexed old (row ∷ rows)) (same_turned row.0 task ∙ same))
      | inr differ ↦
          ap (λ b. is_some (if b then Some n else indexed old row.0) || (has_task rows task || any_indexed old rows)) differ
          ∙ or_swap (is_some (indexed old row.0)) (has_task rows task) (any_indexed old rows)
          ∙ sym (ap (λ b. (b || has_task rows task) || any_indexed old (row ∷ rows)) (same_turned row.0 task ∙ differ))
    ]

twice_on : (n : ℕ) (row : Task × List Action) (rows : Rows) (old new : BTreeMap (ℕ × ℕ) ℕ) → indexed old row.0 ≡ None → Inserts old new row.0 n → (any_indexed new rows || task_twice rows) ≡ (any_indexed old (row ∷ rows) || task_twice (row ∷ rows))
twice_on n row rows old new fresh is =
    ap (λ a. a || task_twice rows) (any_on n row.0 rows old new is)
    ∙ or_turn (has_task rows row.0) (any_indexed old rows) (task_twice rows)
    ∙ sym (ap (λ o. (is_some o || any_indexed old rows) || task_twice (row ∷ rows)) fresh)

-- the next row is in the index
pub next_indexed : (rows : Rows) (n : ℕ) (row : Task × List Action) (old new : BTreeMap (ℕ × ℕ) ℕ) → n < length rows → row ≡ get_or rows n row → IndexesFirst n rows old → indexed old row.0 ≡ None → ((q : ℕ × ℕ) → get pair_order new q ≡ cond (is_at (pair_order (row.0.at, row.0.bank)) q) (Some n) (get pair_order old q)) → IndexesFirst (n + 1) rows new
next_indexed rows n row old new l at left fresh updates =
    let is : Inserts old new row.0 n = inserted old new row.0 n updates in
    let next : drop n rows ≡ row ∷ drop (n + 1) rows = next_is rows n row l at in
    record {
      numbers = λ task. numbers_on n row (drop (n + 1) rows) old new fresh is task ∙ ap (λ more. option_or (indexed old task) (number_from n more task)) (sym next) ∙ left.numbers task;
      twice = twice_on n row (drop (n + 1) rows) old new fresh is ∙ ap (λ more. any_indexed old more || task_twice more) (sym next) ∙ left.twice;
    }

-- it is there already
pub there_twice : (rows : Rows) (n : ℕ) (row : Task × List Action) (index : BTreeMap (ℕ × ℕ) ℕ) (number : ℕ) → n < length rows → row ≡ get_or rows n row → IndexesFirst n rows index → indexed index row.0 ≡ Some number → task_twice rows ≡ true
there_twice rows n row index number l at left there =
    sym left.twice
    ∙ ap (λ more. any_indexed index more || task_twice more) (next_is rows n row l at)
    ∙ ap (λ o. (is_some o || any_indexed index (drop (n + 1) rows)) || task_twice (row ∷ drop (n + 1) rows)) there

-- the row of a number has the task's actions
pub record IsRow (n : ℕ) (rows : Rows) (task : Task) (number : ℕ) : Type 0 where
  pub from : n ≤ number
  pub within : number < n + length rows
  pub actions : (none : Task × List Action) → (get_or rows (number - n) none).1 ≡ actions_in rows task

pub row_of : (n : ℕ) (rows : Rows) (task : Task) (number : ℕ) → number_from n rows task ≡ Some number → IsRow n rows task number
row_of n [] task number is = absurd (cc)
row_of n (row ∷ rows) task number is = elim (cases_Bool (same_task row.0 task)) [
  | inl same ↦
      let here : n ≡ number = same_Some n number (sym (ap (λ b. if b then Some n else number_from (n + 1) rows task) same) ∙ is) in
      let first : number - n ≡ 0 = omega (arith, here) in
      record {
        from = omega (arith, here);
        within = omega (arith, here);
        actions = λ none. ap (λ k. (get_or (row ∷ rows) k none).1) first ∙ sym (ap (λ b. if b then row.1 else actions_in rows task) same);
      }
  | inr differ ↦
      let later : IsRow (n + 1) rows task number = row_of (n + 1) rows task number (sym (ap (λ b. if b then Some n else number_from (n + 1) rows task) differ) ∙ is) in
      let low : n + 1 ≤ number = later.from in
      let most : number < n + 1 + length rows = later.within in
      let next : number - n ≡ suc (number - (n + 1)) = omega (arith, low) in
      record {
        from = omega (arith, low);
        within = omega (arith, most);
        actions = λ none. ap (λ k. (get_or (row ∷ rows) k none).1) next ∙ later.actions none ∙ sym (ap (λ b. if b then row.1 else actions_in rows task) differ);
      }
]

pub no_row : (n : ℕ) (rows : Rows) (task : Task) → number_from n rows task ≡ None → [] ≡ actions_in rows task
no_row n [] task is = refl
no_row n (row ∷ rows) task is = elim (cases_Bool (same_task row.0 task)) [
  | inl same ↦ absurd (let no : Some n ≡ None = sym (ap (λ b. if b then Some n else number_from (n + 1) rows task) same) ∙ is in cc)
  | inr differ ↦
      no_row (n + 1) rows task (sym (ap (λ b. if b then Some n else number_from (n + 1) rows task) differ) ∙ is)
      ∙ sym (ap (λ b. if b then row.1 else actions_in rows task) differ)
]

-- a task that has one of the rows has a row
has_there : (rows : Rows) (k : ℕ) (row : Task × List Action) (task : Task) → slice_get rows k ≡ Some row → same_task row.0 task ≡ true → has_task rows task ≡ true
has_there [] k row task at same = absurd (cc)
has_there (first ∷ rows) zero row task at same =
    let is : first ≡ row = same_Some first row at in
    ap (λ b. b || has_task rows task) (ap (λ (r : Task × List Action). same_task r.0 task) is ∙ same)
has_there (first ∷ rows) (suc k) row task at same =
    let later : has_task rows task ≡ true = has_there rows k row task at same in
    elim (cases_Bool (same_task first.0 task)) [
      | inl here ↦ ap (λ b. b || has_task rows task) here
      | inr not ↦ ap (λ b. b || has_task rows task) not ∙ later
    ]

same_both : (row first task : Task) → same_task row task ≡ true → same_task first task ≡ true → same_task row first ≡ true
same_both row first task one other = grind (arith, common_steps)

-- where no task has two rows, a row of the task has its actions
pub row_known : (rows : Rows) (k : ℕ) (row : Task × List Action) (task : Task) → task_twice rows ≡ false → slice_get rows k ≡ Some row → same_task row.0 task ≡ true → row.1 ≡ actions_in rows task
row_known [] k row task once at same = absurd (cc)
row_known (first ∷ rows) zero row task once at same =
    let is : first ≡ row = same_Some first row at in
    let here : same_task first.0 task ≡ true = ap (λ (r : Task × List Action). same_task r.0 task) is ∙ same in
    sym (ap (λ (r : Task × List Action). r.1) is) ∙ sym (ap (λ b. if b then first.1 else actions_in rows task) here)
row_known (first ∷ rows) (suc k) row task once at same = elim (cases_Bool (same_task first.0 task)) [
  | inl here ↦
      let twice : has_task rows first.0 ≡ true = has_there rows k row first.0 at (same_both row.0 first.0 task same here) in
      absurd (let no : true ≡ false = sym (ap (λ b. b || task_twice rows) twice) ∙ once in cc)
  | inr differ ↦
      let rest : task_twice rows ≡ false = or_right (has_task rows first.0) (task_twice rows) once in
      row_known rows k row task rest at same ∙ sym (ap (λ b. if b then first.1 else actions_in rows task) differ)
]
  where
    or_right : (a b : Bool) → (a || b) ≡ false → b ≡ false
    or_right true b is = absurd (cc)
    or_right false b is = is

pub row_at : (rows : Rows) (k : ℕ) (one other : Task × List Action) (task : Task) → task_twice rows ≡ false → k < length rows → same_task (get_or rows k one).0 task ≡ true → (get_or rows k other).1 ≡ actions_in rows task
row_at rows k one other task once lt same =
    let here : slice_get rows k ≡ Some (get_or rows k one) = slice_get-get_or rows k one lt in
    let there : slice_get rows k ≡ Some (get_or rows k other) = slice_get-get_or rows k other lt in
    ap (λ (row : Task × List Action). row.1) (same_Some _ _ (sym there ∙ here)) ∙ row_known rows k (get_or rows k one) task once here same
