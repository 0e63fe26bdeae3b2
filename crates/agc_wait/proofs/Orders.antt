-- A list in order, after a task arrives or is taken out.
use Rattle.std.proofs.Common.{◌≡◌, ◌≢◌, ℕ, suc, ◌+◌, ◌<◌, ◌≤◌, ◌==◌, cond, List, [], ◌∷◌, ◌++◌, Some, None, length, drop, refl, ap, sym, ◌∙◌, inl, inr, nat_lt, subst, arith}
use Rattle.std.proofs.lemmas.Bool.{cases_eq, cases_lt}
use Rattle.std.proofs.lemmas.List.{append-nil}
use Rattle.std.proofs.lemmas.Grind.{common_steps}
use Rattle.agc_plan.specs.declared.request.Task.{Task}
use Rattle.agc_wait.specs.Runs.{first_of}
use Rattle.agc_plan.specs.Tasks.{Pending, due_at, RisesFrom, InOrder, first_due, without_first_due}

pub due_at-append : (time : ℕ) (xs ys : List Pending) → due_at time (xs ++ ys) ≡ due_at time xs ++ due_at time ys
due_at-append time [] ys = refl
due_at-append time (x ∷ xs) ys =
    let rest : due_at time (xs ++ ys) ≡ due_at time xs ++ due_at time ys = due_at-append time xs ys in
    grind (arith, common_steps)

pub RisesFrom-weaker : (least time : ℕ) (xs : List Pending) → least ≤ time → RisesFrom time xs → RisesFrom least xs
RisesFrom-weaker least time [] le rises = tt
RisesFrom-weaker least time (x ∷ xs) le rises = (omega arith, rises.1)

-- nothing is due before the list begins
pub due_at-before : (time least : ℕ) (xs : List Pending) → time < least → RisesFrom least xs → due_at time xs ≡ []
due_at-before time least [] lt rises = refl
due_at-before time least (x ∷ xs) lt rises =
    let rest : due_at time xs ≡ [] = due_at-before time x.due xs (omega arith) rises.1 in
    let other : x.due ≢ time = λ e. omega arith in
    grind (arith, common_steps)

-- a task set in after all that are due no later
abbrev pub set_in : Pending → List Pending → List Pending
set_in y [] = y ∷ []
set_in y (x ∷ xs) = cond (nat_lt y.due x.due) (y ∷ x ∷ xs) (x ∷ set_in y xs)

pub RisesFrom-set_in : (least : ℕ) (y : Pending) (xs : List Pending) → least ≤ y.due → RisesFrom least xs → RisesFrom least (set_in y xs)
RisesFrom-set_in least y [] le rises = (le, tt)
RisesFrom-set_in least y (x ∷ xs) le rises = elim (cases_lt y.due x.due) [
  | inl lt ↦
      let is : set_in y (x ∷ xs) ≡ y ∷ x ∷ xs = grind (arith, common_steps) in
      rw is (le, (omega arith, rises.1))
  | inr ge ↦
      let is : set_in y (x ∷ xs) ≡ x ∷ set_in y xs = grind (arith, common_steps) in
      rw is (rises.0, RisesFrom-set_in x.due y xs ge rises.1)
]

-- it stands last of its due time
pub due_at-set_in : (time least : ℕ) (y : Pending) (xs : List Pending) → RisesFrom least xs → due_at time (set_in y xs) ≡ due_at time xs ++ due_at time (y ∷ [])
due_at-set_in time least y [] rises = refl
due_at-set_in time least y (x ∷ xs) rises = elim (cases_lt y.due x.due) [
  | inl lt ↦
      let is : set_in y (x ∷ xs) ≡ y ∷ x ∷ xs = grind (arith, common_steps) in
      elim (cases_eq y.due time) [
        | inl here ↦
            let none : due_at time (x ∷ xs) ≡ [] = due_at-before time x.due (x ∷ xs) (omega arith) (omega arith, rises.1) in
            let first : due_at time (y ∷ x ∷ xs) ≡ y ∷ due_at time (x ∷ xs) = grind (arith, common_steps) in
            let alone : due_at time (y ∷ []) ≡ y ∷ [] = grind (arith, common_steps) in
            let e : due_at time (set_in y (x ∷ xs)) ≡ y ∷ [] = ap (due_at time) is ∙ first ∙ ap (λ l. y ∷ l) none in
            let f : due_at time (x ∷ xs) ++ due_at time (y ∷ []) ≡ y ∷ [] = ap (λ l. l ++ due_at time (y ∷ [])) none ∙ alone in
            e ∙ sym f
        | inr other ↦
            let first : due_at time (y ∷ x ∷ xs) ≡ due_at time (x ∷ xs) = grind (arith, common_steps) in
            let alone : due_at time (y ∷ []) ≡ [] = grind (arith, common_steps) in
            let f : due_at time (x ∷ xs) ++ due_at time (y ∷ []) ≡ due_at time (x ∷ xs) = ap (λ l. due_at time (x ∷ xs) ++ l) alone ∙ append-nil (due_at time (x ∷ xs)) in
            ap (due_at time) is ∙ first ∙ sym f
      ]
  | inr ge ↦
      let is : set_in y (x ∷ xs) ≡ x ∷ set_in y xs = grind (arith, common_steps) in
      let rest : due_at time (set_in y xs) ≡ due_at time xs ++ due_at time (y ∷ []) = due_at-set_in time x.due y xs rises.1 in
      ap (due_at time) is ∙ more time x (set_in y xs) xs (due_at time (y ∷ [])) rest
]
  where
    more : (time : ℕ) (x : Pending) (us vs ws : List Pending) → due_at time us ≡ due_at time vs ++ ws → due_at time (x ∷ us) ≡ due_at time (x ∷ vs) ++ ws
    more time x us vs ws e = grind (arith, common_steps)

-- one more arrival
pub InOrder-append : (tasks ordered : List Pending) (y : Pending) → InOrder tasks ordered → InOrder (tasks ++ y ∷ []) (set_in y ordered)
InOrder-append tasks ordered y in_order = record {
  rises = RisesFrom-set_in 0 y ordered (omega arith) in_order.rises;
  same_at = λ time.
      due_at-set_in time 0 y ordered in_order.rises
      ∙ ap (λ l. l ++ due_at time (y ∷ [])) (in_order.same_at time)
      ∙ sym (due_at-append time tasks (y ∷ []));
}

-- nobody is due before this time
abbrev pub NoneBefore : ℕ → List Pending → Type 0
NoneBefore time tasks = (earlier : ℕ) → earlier < time → due_at earlier tasks ≡ []

pub NoneBefore-tail : (time : ℕ) (x : Pending) (xs : List Pending) → NoneBefore time (x ∷ xs) → NoneBefore time xs
NoneBefore-tail time x xs before earlier lt =
    let here : due_at earlier (x ∷ xs) ≡ [] = before earlier lt in
    elim (cases_eq x.due earlier) [
      | inl e ↦ let is : due_at earlier (x ∷ xs) ≡ x ∷ due_at earlier xs = grind (arith, common_steps) in absurd (cc)
      | inr ne ↦ grind (arith, common_steps)
    ]

pub NoneBefore-head : (time : ℕ) (x : Pending) (xs : List Pending) → NoneBefore time (x ∷ xs) → time ≤ x.due
NoneBefore-head time x xs before = elim (cases_lt x.due time) [
  | inl lt ↦
      let none : due_at x.due (x ∷ xs) ≡ [] = before x.due lt in
      let is : due_at x.due (x ∷ xs) ≡ x ∷ due_at x.due xs = grind (arith, common_steps) in absurd (cc)
  | inr ge ↦ ge
]

-- the earliest arrival that is due by now is the first of those due just now
pub first_due-at : (time : ℕ) (tasks : List Pending) → NoneBefore time tasks → first_due time tasks ≡ first_of (due_at time tasks)
first_due-at time [] before = refl
first_due-at time (x ∷ xs) before =
    let ge : time ≤ x.due = NoneBefore-head time x xs before in
    let rest : first_due time xs ≡ first_of (due_at time xs) = first_due-at time xs (NoneBefore-tail time x xs before) in
    elim (cases_eq x.due time) [
      | inl e ↦
          let a : first_due time (x ∷ xs) ≡ Some x.task = grind (arith, common_steps) in
          let b : due_at time (x ∷ xs) ≡ x ∷ due_at time xs = grind (arith, common_steps) in
          a ∙ sym (ap first_of b)
      | inr ne ↦
          let a : first_due time (x ∷ xs) ≡ first_due time xs = grind (arith, common_steps) in
          let b : due_at time (x ∷ xs) ≡ due_at time xs = grind (arith, common_steps) in
          a ∙ rest ∙ sym (ap first_of b)
    ]

-- without it, those of that time lose their first, and no other time changes
pub due_at-without : (time t : ℕ) (tasks : List Pending) → NoneBefore time tasks → due_at t (without_first_due time tasks) ≡ cond (t == time) (drop 1 (due_at t tasks)) (due_at t tasks)
due_at-without time t [] before = elim (cases_eq t time) [ inl e ↦ grind (arith, common_steps) | inr ne ↦ grind (arith, common_steps) ]
due_at-without time t (x ∷ xs) before =
    let ge : time ≤ x.due = NoneBefore-head time x xs before in
    let rest : due_at t (without_first_due time xs) ≡ cond (t == time) (drop 1 (due_at t xs)) (due_at t xs) = due_at-without time t xs (NoneBefore-tail time x xs before) in
    elim (cases_eq x.due time) [
      | inl e ↦
          let a : without_first_due time (x ∷ xs) ≡ xs = grind (arith, common_steps) in
          ap (due_at t) a ∙ elim (cases_eq t time) [
            | inl same ↦
                let b : due_at t (x ∷ xs) ≡ x ∷ due_at t xs = grind (arith, common_steps) in
                let c : drop 1 (due_at t (x ∷ xs)) ≡ due_at t xs = ap (drop 1) b in grind (arith, common_steps)
            | inr other ↦
                let b : due_at t (x ∷ xs) ≡ due_at t xs = grind (arith, common_steps) in grind (arith, common_steps)
          ]
      | inr ne ↦
          let a : without_first_due time (x ∷ xs) ≡ x ∷ without_first_due time xs = grind (arith, common_steps) in
          ap (due_at t) a ∙ elim (cases_eq t time) [
            | inl same ↦
                let b : due_at t (x ∷ without_first_due time xs) ≡ due_at t (without_first_due time xs) = grind (arith, common_steps) in
                let c : due_at t (x ∷ xs) ≡ due_at t xs = grind (arith, common_steps) in
                let d : drop 1 (due_at t (x ∷ xs)) ≡ drop 1 (due_at t xs) = ap (drop 1) c in grind (arith, common_steps)
            | inr other ↦ grind (arith, common_steps)
          ]
    ]

pub NoneBefore-in_order : (tasks : List Pending) (x : Pending) (rest : List Pending) → InOrder tasks (x ∷ rest) → NoneBefore x.due tasks
NoneBefore-in_order tasks x rest in_order earlier lt =
    sym (in_order.same_at earlier) ∙ due_at-before earlier x.due (x ∷ rest) lt (omega arith, in_order.rises.1)

-- the first in order is the earliest arrival that is due by its time
pub InOrder-first : (tasks : List Pending) (x : Pending) (rest : List Pending) → InOrder tasks (x ∷ rest) → first_due x.due tasks ≡ Some x.task
InOrder-first tasks x rest in_order =
    let is : due_at x.due (x ∷ rest) ≡ x ∷ due_at x.due rest = grind (arith, common_steps) in
    first_due-at x.due tasks (NoneBefore-in_order tasks x rest in_order) ∙ ap first_of (sym (in_order.same_at x.due) ∙ is)

-- without it, the rest is in order
pub InOrder-rest : (tasks : List Pending) (x : Pending) (rest : List Pending) → InOrder tasks (x ∷ rest) → InOrder (without_first_due x.due tasks) rest
InOrder-rest tasks x rest in_order = record {
  rises = RisesFrom-weaker 0 x.due rest (omega arith) in_order.rises.1;
  same_at = λ time.
      let e : due_at time (x ∷ rest) ≡ due_at time tasks = in_order.same_at time in
      let f : due_at time (without_first_due x.due tasks) ≡ cond (time == x.due) (drop 1 (due_at time tasks)) (due_at time tasks) = due_at-without x.due time tasks (NoneBefore-in_order tasks x rest in_order) in
      elim (cases_eq time x.due) [
        | inl same ↦
            let is : due_at time (x ∷ rest) ≡ x ∷ due_at time rest = grind (arith, common_steps) in
            let d : drop 1 (due_at time tasks) ≡ due_at time rest = ap (drop 1) (sym e ∙ is) in
            grind (arith, common_steps)
        | inr other ↦
            let is : due_at time (x ∷ rest) ≡ due_at time rest = grind (arith, common_steps) in
            grind (arith, common_steps)
      ];
}

-- before the first is due, nobody is
pub InOrder-none_due : (tasks : List Pending) (x : Pending) (rest : List Pending) (time : ℕ) → InOrder tasks (x ∷ rest) → time < x.due → first_due time tasks ≡ None
InOrder-none_due tasks x rest time in_order lt =
    first_due-at time tasks (λ earlier le. NoneBefore-in_order tasks x rest in_order earlier (omega arith))
    ∙ ap first_of (NoneBefore-in_order tasks x rest in_order time lt)

pub InOrder-nil : (tasks : List Pending) → InOrder tasks [] → tasks ≡ []
InOrder-nil [] in_order = refl
InOrder-nil (x ∷ xs) in_order =
    let none : [] ≡ due_at x.due (x ∷ xs) = in_order.same_at x.due in
    let is : due_at x.due (x ∷ xs) ≡ x ∷ due_at x.due xs = grind (arith, common_steps) in
    absurd (cc)

length-without : (time : ℕ) (task : Task) (tasks : List Pending) → first_due time tasks ≡ Some task → length tasks ≡ length (without_first_due time tasks) + 1
length-without time task [] e = absurd (cc)
length-without time task (x ∷ xs) e = elim (cases_lt time x.due) [
  | inl lt ↦
      let a : first_due time xs ≡ Some task = grind (arith, common_steps) in
      let b : without_first_due time (x ∷ xs) ≡ x ∷ without_first_due time xs = grind (arith, common_steps) in
      let rest : length xs ≡ length (without_first_due time xs) + 1 = length-without time task xs a in
      let n : length (without_first_due time (x ∷ xs)) ≡ suc (length (without_first_due time xs)) = ap length b in
      omega arith
  | inr ge ↦
      let b : without_first_due time (x ∷ xs) ≡ xs = grind (arith, common_steps) in
      let n : length (without_first_due time (x ∷ xs)) ≡ length xs = ap length b in
      omega arith
]

-- in order, there are as many
pub InOrder-length : (tasks ordered : List Pending) → InOrder tasks ordered → length ordered ≡ length tasks
InOrder-length tasks [] in_order = sym (ap length (InOrder-nil tasks in_order))
InOrder-length tasks (x ∷ rest) in_order =
    let n : length tasks ≡ length (without_first_due x.due tasks) + 1 = length-without x.due x.task tasks (InOrder-first tasks x rest in_order) in
    let m : length rest ≡ length (without_first_due x.due tasks) = InOrder-length (without_first_due x.due tasks) rest (InOrder-rest tasks x rest in_order) in
    omega arith

-- there is one order only
pub InOrder-one : (tasks xs ys : List Pending) → InOrder tasks xs → InOrder tasks ys → xs ≡ ys
InOrder-one tasks [] [] a b = refl
InOrder-one tasks [] (y ∷ ys) a b =
    let n : length (y ∷ ys) ≡ length tasks = InOrder-length tasks (y ∷ ys) b in
    let m : 0 ≡ length tasks = InOrder-length tasks [] a in
    absurd (omega arith)
InOrder-one tasks (x ∷ xs) [] a b =
    let n : length (x ∷ xs) ≡ length tasks = InOrder-length tasks (x ∷ xs) a in
    let m : 0 ≡ length tasks = InOrder-length tasks [] b in
    absurd (omega arith)
InOrder-one tasks (x ∷ xs) (y ∷ ys) a b =
    let le : x.due ≤ y.due = earlier x xs y ys a b in
    let ge : y.due ≤ x.due = earlier y ys x xs b a in
    let due : y.due ≡ x.due = omega arith in
    let is_x : due_at x.due (x ∷ xs) ≡ x ∷ due_at x.due xs = grind (arith, common_steps) in
    let is_y : due_at x.due (y ∷ ys) ≡ y ∷ due_at x.due ys = grind (arith, common_steps) in
    let both : x ∷ due_at x.due xs ≡ y ∷ due_at x.due ys = sym is_x ∙ a.same_at x.due ∙ sym (b.same_at x.due) ∙ is_y in
    let same : x ≡ y = cc in
    let rest_y : InOrder (without_first_due x.due tasks) ys = (let P : ℕ → Type 0 = λ t. InOrder (without_first_due t tasks) ys in subst P due (InOrder-rest tasks y ys b)) in
    let rest : xs ≡ ys = InOrder-one (without_first_due x.due tasks) xs ys (InOrder-rest tasks x xs a) rest_y in
    cc
  where
    earlier : (x : Pending) (xs : List Pending) (y : Pending) (ys : List Pending) → InOrder tasks (x ∷ xs) → InOrder tasks (y ∷ ys) → x.due ≤ y.due
    earlier x xs y ys a b = elim (cases_lt y.due x.due) [
      | inl lt ↦
          let none : due_at y.due tasks ≡ [] = NoneBefore-in_order tasks x xs a y.due lt in
          let some : due_at y.due (y ∷ ys) ≡ y ∷ due_at y.due ys = grind (arith, common_steps) in
          let e : y ∷ due_at y.due ys ≡ [] = sym some ∙ b.same_at y.due ∙ none in absurd (cc)
      | inr ge ↦ ge
    ]
