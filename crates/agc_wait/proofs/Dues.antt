-- How many tasks are due now, by distances and by due times.
use Rattle.std.proofs.Common.{◌≡◌, ◌≢◌, ℕ, zero, suc, ◌+◌, ◌<◌, ◌≤◌, nat_lt, true, false, List, [], ◌∷◌, length, refl, ap, sym, ◌∙◌, inl, inr, arith}
use Rattle.std.specs.List.{insert, remove}
use Rattle.std.proofs.lemmas.Bool.{cases_eq}
use Rattle.std.proofs.lemmas.Grind.{common_steps}
use Rattle.agc_plan.specs.Tasks.{Pending, Waiting, Agenda, timed, StandsFor, due_at, count_due}
use Rattle.agc_wait.specs.Waits.{is_due, due_now}
use Rattle.agc_wait.proofs.Spreading.{Spreads}
use Rattle.agc_wait.proofs.Orders.{NoneBefore, NoneBefore-head, NoneBefore-tail}
use Rattle.agc_wait.proofs.Distances.{timed_at, Spreads-not_due}

-- a later task is not counted
pub due_now-insert : (w : Waiting) (ws : List Waiting) (place : ℕ) → 1 ≤ w.distance → due_now (insert ws place w) ≡ due_now ws
due_now-insert w [] zero far = let ne : w.distance ≢ 0 = λ e. omega arith in grind (arith, common_steps)
due_now-insert w [] (suc place) far = let ne : w.distance ≢ 0 = λ e. omega arith in grind (arith, common_steps)
due_now-insert w (v ∷ vs) zero far = let ne : w.distance ≢ 0 = λ e. omega arith in grind (arith, common_steps)
due_now-insert w (v ∷ vs) (suc place) far =
    let rest : due_now (insert vs place w) ≡ due_now vs = due_now-insert w vs place far in grind (arith, common_steps)

pub due_now-within : (ws : List Waiting) → due_now ws ≤ length ws
due_now-within [] = omega arith
due_now-within (w ∷ ws) =
    let rest : due_now ws ≤ length ws = due_now-within ws in
    elim (cases_eq w.distance 0) [
      | inl e ↦ let is : due_now (w ∷ ws) ≡ suc (due_now ws) = grind (arith, common_steps) in omega arith
      | inr ne ↦ let is : due_now (w ∷ ws) ≡ due_now ws = grind (arith, common_steps) in omega arith
    ]

due_now-far : (least most : ℕ) (ws : List Waiting) → 1 ≤ least → Spreads least most ws → due_now ws ≡ 0
due_now-far least most [] far spreads = refl
due_now-far least most (w ∷ ws) far spreads =
    let low : least ≤ w.distance = spreads.0 in
    let ne : w.distance ≢ 0 = λ e. omega arith in
    let rest : due_now ws ≡ 0 = due_now-far w.distance most ws (omega arith) spreads.2 in
    grind (arith, common_steps)

-- where the first isn't due, none is
pub due_now-none : (ws : List Waiting) → is_due ws ≡ false → Spreads 0 16250 ws → due_now ws ≡ 0
due_now-none ws apart spreads = due_now-far 1 16250 ws (omega arith) (Spreads-not_due 16250 ws apart spreads)

pub is_due-none : (ws : List Waiting) → due_now ws ≡ 0 → is_due ws ≡ false
is_due-none [] e = refl
is_due-none (w ∷ ws) e = elim (cases_eq w.distance 0) [
  | inl is ↦ let more : due_now (w ∷ ws) ≡ suc (due_now ws) = grind (arith, common_steps) in absurd (omega arith)
  | inr ne ↦ grind (arith, common_steps)
]

-- the first is due where some are
pub is_due-some : (ws : List Waiting) → Spreads 0 16250 ws → is_due ws ≡ nat_lt 0 (due_now ws)
is_due-some [] spreads = refl
is_due-some (w ∷ ws) spreads = elim (cases_eq w.distance 0) [
  | inl is ↦
      let due : is_due (w ∷ ws) ≡ true = grind (arith, common_steps) in
      let more : due_now (w ∷ ws) ≡ suc (due_now ws) = grind (arith, common_steps) in
      due ∙ sym (ap (nat_lt 0) more ∙ positive (due_now ws))
  | inr ne ↦
      let apart : is_due (w ∷ ws) ≡ false = grind (arith, common_steps) in
      apart ∙ sym (ap (nat_lt 0) (due_now-none (w ∷ ws) apart spreads))
]
  where
    positive : (n : ℕ) → nat_lt 0 (suc n) ≡ true
    positive n = grind (arith, common_steps)

-- without the first, which is due, one fewer is due
pub due_now-removed : (ws : List Waiting) → is_due ws ≡ true → due_now ws ≡ due_now (remove ws 0) + 1
due_now-removed [] due = absurd (cc)
due_now-removed (w ∷ ws) due =
    let is : w.distance ≡ 0 = grind (arith, common_steps) in
    let more : due_now (w ∷ ws) ≡ suc (due_now ws) = grind (arith, common_steps) in
    omega arith

due_at-earlier : (time earlier : ℕ) (ws : List Waiting) → earlier < time → due_at earlier (timed time ws) ≡ []
due_at-earlier time earlier [] lt = refl
due_at-earlier time earlier (w ∷ ws) lt =
    let rest : due_at earlier (timed time ws) ≡ [] = due_at-earlier time earlier ws lt in
    let other : time + w.distance ≢ earlier = λ e. omega arith in
    grind (arith, common_steps)

-- nothing that an agenda has is overdue
pub StandsFor-none_before : (ws : List Waiting) (agenda : Agenda) → StandsFor ws agenda → NoneBefore agenda.time agenda.tasks
StandsFor-none_before ws agenda stands earlier lt =
    sym (stands.same_at earlier) ∙ due_at-earlier agenda.time earlier ws lt

-- where none is overdue, those that are due are due just now
pub count_due-at : (time : ℕ) (tasks : List Pending) → NoneBefore time tasks → count_due time tasks ≡ length (due_at time tasks)
count_due-at time [] before = refl
count_due-at time (x ∷ xs) before =
    let ge : time ≤ x.due = NoneBefore-head time x xs before in
    let rest : count_due time xs ≡ length (due_at time xs) = count_due-at time xs (NoneBefore-tail time x xs before) in
    elim (cases_eq x.due time) [
      | inl e ↦
          let a : count_due time (x ∷ xs) ≡ suc (count_due time xs) = grind (arith, common_steps) in
          let b : due_at time (x ∷ xs) ≡ x ∷ due_at time xs = grind (arith, common_steps) in
          a ∙ ap suc rest ∙ sym (ap length b)
      | inr ne ↦
          let a : count_due time (x ∷ xs) ≡ count_due time xs = grind (arith, common_steps) in
          let b : due_at time (x ∷ xs) ≡ due_at time xs = grind (arith, common_steps) in
          a ∙ rest ∙ sym (ap length b)
    ]

due_now-at : (time : ℕ) (ws : List Waiting) → length (due_at time (timed time ws)) ≡ due_now ws
due_now-at time [] = refl
due_now-at time (w ∷ ws) =
    let rest : length (due_at time (timed time ws)) ≡ due_now ws = due_now-at time ws in
    elim (cases_eq w.distance 0) [
      | inl e ↦
          let here : time + w.distance ≡ time = omega arith in
          let a : due_at time (timed time (w ∷ ws)) ≡ timed_at time w ∷ due_at time (timed time ws) = grind (arith, common_steps) in
          let b : due_now (w ∷ ws) ≡ suc (due_now ws) = grind (arith, common_steps) in
          ap length a ∙ ap suc rest ∙ sym b
      | inr ne ↦
          let other : time + w.distance ≢ time = λ e. omega arith in
          let a : due_at time (timed time (w ∷ ws)) ≡ due_at time (timed time ws) = grind (arith, common_steps) in
          let b : due_now (w ∷ ws) ≡ due_now ws = grind (arith, common_steps) in
          ap length a ∙ rest ∙ sym b
    ]

-- as many are due by now as have distance 0
pub count_due-is : (ws : List Waiting) (agenda : Agenda) → StandsFor ws agenda → count_due agenda.time agenda.tasks ≡ due_now ws
count_due-is ws agenda stands =
    count_due-at agenda.time agenda.tasks (StandsFor-none_before ws agenda stands) ∙ ap length (sym (stands.same_at agenda.time)) ∙ due_now-at agenda.time ws
