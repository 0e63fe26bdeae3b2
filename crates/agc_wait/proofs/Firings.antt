-- What firing leaves and what fires.
use Rattle.std.proofs.Common.{◌≡◌, ◌≢◌, ℕ, zero, suc, ◌+◌, ◌<◌, ◌≤◌, ◌==◌, true, false, cond, List, [], ◌∷◌, ◌++◌, Option, Some, None, IsSome, drop, length, refl, ap, sym, ◌∙◌, inl, inr, arith, append_assoc, subst}
use Rattle.std.proofs.lemmas.Bool.{cases_eq, cases_lt}
use Rattle.std.proofs.lemmas.List.{append-nil}
use Rattle.std.proofs.lemmas.Grind.{common_steps}
use Rattle.agc_plan.specs.declared.request.Action.{Action}
use Rattle.agc_plan.specs.declared.request.Task.{Task}
use Rattle.agc_plan.specs.Eras.{Work}
use Rattle.agc_plan.specs.Steps.{Fires, dispatched_work, later_work, fire, fire_first, tick_fires}
use Rattle.agc_plan.specs.Tasks.{Pending, due_at, first_due, without_first_due, count_due, InOrder, RisesFrom}
use Rattle.agc_wait.specs.Runs.{first_of, FiresInOrder}
use Rattle.agc_wait.proofs.Orders.{NoneBefore, first_due-at, due_at-without, InOrder-first, InOrder-rest, InOrder-nil, InOrder-none_due}
use Rattle.agc_wait.proofs.Dues.{count_due-at}

count_due-skip : (time : ℕ) (x : Pending) (xs : List Pending) → time < x.due → count_due time (x ∷ xs) ≡ count_due time xs
count_due-skip time x xs lt = grind (arith, common_steps)

first_due-skip : (time : ℕ) (x : Pending) (xs : List Pending) → time < x.due → first_due time (x ∷ xs) ≡ first_due time xs
first_due-skip time x xs lt = grind (arith, common_steps)

without_first_due-skip : (time : ℕ) (x : Pending) (xs : List Pending) → time < x.due → without_first_due time (x ∷ xs) ≡ x ∷ without_first_due time xs
without_first_due-skip time x xs lt = grind (arith, common_steps)

without_first_due-here : (time : ℕ) (x : Pending) (xs : List Pending) → x.due ≤ time → without_first_due time (x ∷ xs) ≡ xs
without_first_due-here time x xs le = grind (arith, common_steps)

count_due-here : (time : ℕ) (x : Pending) (xs : List Pending) → x.due ≤ time → count_due time (x ∷ xs) ≡ suc (count_due time xs)
count_due-here time x xs le = grind (arith, common_steps)

-- one that is due taken out is one fewer
count_due-without : (time : ℕ) (task : Task) (tasks : List Pending) → first_due time tasks ≡ Some task → count_due time tasks ≡ suc (count_due time (without_first_due time tasks))
count_due-without time task [] e = absurd (cc)
count_due-without time task (x ∷ xs) e = elim (cases_lt time x.due) [
  | inl lt ↦
      let rest : count_due time xs ≡ suc (count_due time (without_first_due time xs)) = count_due-without time task xs (sym (first_due-skip time x xs lt) ∙ e) in
      count_due-skip time x xs lt ∙ rest ∙ ap suc (sym (count_due-skip time x (without_first_due time xs) lt) ∙ sym (ap (count_due time) (without_first_due-skip time x xs lt)))
  | inr le ↦ count_due-here time x xs le ∙ ap suc (sym (ap (count_due time) (without_first_due-here time x xs le)))
]

abbrev due_in : Work → ℕ
due_in work = count_due work.agenda.time work.agenda.tasks

unsome : {o : Option Task} → o ≡ None → IsSome o → ⊥
unsome e some = let k : false ≡ true = rw e at some in absurd (cc)

-- where nothing is overdue, firing by arrival is firing in order
pub FiresInOrder-is : (time : ℕ) (tasks ordered : List Pending) → InOrder tasks ordered → RisesFrom time ordered → FiresInOrder time tasks ordered
FiresInOrder-is time tasks [] in_order rises =
    let none : tasks ≡ [] = InOrder-nil tasks in_order in
    let e : first_due time tasks ≡ None = ap (first_due time) none in
    record { first = λ s. e; rest = λ s. absurd (unsome e s) }
FiresInOrder-is time tasks (x ∷ rest) in_order rises = elim (cases_eq x.due time) [
  | inl e ↦ record {
    first = λ s. ap (λ t. first_due t tasks) (sym e) ∙ InOrder-first tasks x rest in_order;
    rest = λ s. (let P : ℕ → Type 0 = λ t. InOrder (without_first_due t tasks) rest in subst P e (InOrder-rest tasks x rest in_order));
  }
  | inr ne ↦
      let ge : time ≤ x.due = rises.0 in
      let none : first_due time tasks ≡ None = InOrder-none_due tasks x rest time in_order (omega arith) in
      record { first = λ s. absurd (unsome none s); rest = λ s. absurd (unsome none s) }
]

-- the tasks of a list
abbrev pub tasks_of : List Pending → List Task
tasks_of [] = []
tasks_of (x ∷ xs) = x.task ∷ tasks_of xs

-- where no task has an action and none is overdue: those that are due fire, in order of arrival,
-- and the others stay
pub record FiresDue (work : Work) (fired : List Task) (fires : Fires) : Type 0 where
  pub time_is : fires.work.agenda.time ≡ work.agenda.time
  pub fired_is : fires.fired ≡ fired ++ tasks_of (due_at work.agenda.time work.agenda.tasks)
  pub left : (t : ℕ) → due_at t fires.work.agenda.tasks ≡ cond (t == work.agenda.time) [] (due_at t work.agenda.tasks)

nil_from : (l : List Pending) → length l ≡ 0 → l ≡ []
nil_from [] e = refl
nil_from (x ∷ xs) e = absurd (omega arith)

pub at_time : (t i : ℕ) → t ≡ i → (k l : List Pending) → cond (t == i) k l ≡ k
at_time t i e k l = grind (arith, common_steps)

pub at_other : (t i : ℕ) → t ≢ i → (k l : List Pending) → cond (t == i) k l ≡ l
at_other t i ne k l = grind (arith, common_steps)

FiresDue-none : (work : Work) (fired : List Task) (acts : List (List Action)) → NoneBefore work.agenda.time work.agenda.tasks → due_in work ≡ 0 → FiresDue work fired (record { work = work; fired = fired; acts = acts; alarm = None })
FiresDue-none work fired acts before is =
    let none : length (due_at work.agenda.time work.agenda.tasks) ≡ 0 = sym (count_due-at work.agenda.time work.agenda.tasks before) ∙ is in
    let empty : due_at work.agenda.time work.agenda.tasks ≡ [] = nil_from (due_at work.agenda.time work.agenda.tasks) none in
    record {
      time_is = refl;
      fired_is = sym (append-nil fired) ∙ ap (λ l. fired ++ tasks_of l) (sym empty);
      left = λ t. elim (cases_eq t work.agenda.time) [
        | inl e ↦ ap (λ i. due_at i work.agenda.tasks) e ∙ empty ∙ sym (at_time t work.agenda.time e [] (due_at t work.agenda.tasks))
        | inr ne ↦ sym (at_other t work.agenda.time ne [] (due_at t work.agenda.tasks))
      ];
    }

FiresDue-more : (n : ℕ) (work : Work) (fired : List Task) (acts : List (List Action)) → NoneBefore work.agenda.time work.agenda.tasks → due_in work ≡ suc n → ((w : Work) (f : List Task) (a : List (List Action)) → NoneBefore w.agenda.time w.agenda.tasks → due_in w ≡ n → FiresDue w f (fire n [] w f a)) → (l : List Pending) → due_at work.agenda.time work.agenda.tasks ≡ l → FiresDue work fired (fire (suc n) [] work fired acts)
FiresDue-more n work fired acts before is again [] e =
    let none : count_due work.agenda.time work.agenda.tasks ≡ 0 = count_due-at work.agenda.time work.agenda.tasks before ∙ ap length e in
    absurd (omega arith)
FiresDue-more n work fired acts before is again (x ∷ xs) e =
    let first : first_due work.agenda.time work.agenda.tasks ≡ Some x.task = first_due-at work.agenda.time work.agenda.tasks before ∙ ap first_of e in
    let goes : fire (suc n) [] work fired acts ≡ fire n [] (dispatched_work work) (fired ++ x.task ∷ []) (acts ++ [] ∷ []) = ap (λ (o : Option Task). fire_first o [] work fired acts (fire n [])) first in
    let without : (t : ℕ) → due_at t (without_first_due work.agenda.time work.agenda.tasks) ≡ cond (t == work.agenda.time) (drop 1 (due_at t work.agenda.tasks)) (due_at t work.agenda.tasks) = (λ t. due_at-without work.agenda.time t work.agenda.tasks before) in
    let now : due_at work.agenda.time (without_first_due work.agenda.time work.agenda.tasks) ≡ xs = without work.agenda.time ∙ at_time work.agenda.time work.agenda.time refl _ _ ∙ ap (drop 1) e in
    let still : NoneBefore work.agenda.time (without_first_due work.agenda.time work.agenda.tasks) = (λ earlier lt. without earlier ∙ at_other earlier work.agenda.time (λ z. omega arith) _ _ ∙ before earlier lt) in
    let one : due_in work ≡ suc (due_in (dispatched_work work)) = count_due-without work.agenda.time x.task work.agenda.tasks first in
    let rest : FiresDue (dispatched_work work) (fired ++ x.task ∷ []) (fire n [] (dispatched_work work) (fired ++ x.task ∷ []) (acts ++ [] ∷ [])) = again (dispatched_work work) (fired ++ x.task ∷ []) (acts ++ [] ∷ []) still (omega arith) in
    record {
      time_is = ap (λ (f : Fires). f.work.agenda.time) goes ∙ rest.time_is;
      fired_is = ap (λ (f : Fires). f.fired) goes ∙ rest.fired_is ∙ ap (λ l. (fired ++ x.task ∷ []) ++ tasks_of l) now ∙ append_assoc fired (x.task ∷ []) (tasks_of xs) ∙ ap (λ l. fired ++ tasks_of l) (sym e);
      left = λ t. ap (λ (f : Fires). due_at t f.work.agenda.tasks) goes ∙ rest.left t ∙ elim (cases_eq t work.agenda.time) [
        | inl at ↦ at_time t work.agenda.time at [] _ ∙ sym (at_time t work.agenda.time at [] _)
        | inr ne ↦ at_other t work.agenda.time ne [] _ ∙ without t ∙ at_other t work.agenda.time ne _ _ ∙ sym (at_other t work.agenda.time ne [] _)
      ];
    }

FiresDue-is : (n : ℕ) (work : Work) (fired : List Task) (acts : List (List Action)) → NoneBefore work.agenda.time work.agenda.tasks → due_in work ≡ n → FiresDue work fired (fire n [] work fired acts)
FiresDue-is zero work fired acts before is = FiresDue-none work fired acts before is
FiresDue-is (suc n) work fired acts before is =
    FiresDue-more n work fired acts before is (λ w f a still e. FiresDue-is n w f a still e) (due_at work.agenda.time work.agenda.tasks) refl

pub tick_fires-due : (work : Work) → NoneBefore (work.agenda.time + 1) work.agenda.tasks → FiresDue (later_work work) [] (tick_fires [] work)
tick_fires-due work before = FiresDue-is (due_in (later_work work)) (later_work work) [] [] before refl
