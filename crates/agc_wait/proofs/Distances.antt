-- Distances from now, against due times.
use Rattle.std.proofs.Common.{◌≡◌, ◌≢◌, ℕ, suc, ◌+◌, ◌-◌, ◌≤◌, true, false, List, [], ◌∷◌, map, Some, None, length, refl, ap, sym, ◌∙◌, inl, inr, arith, subst, ◌↔◌, IsSome, slice_index_or}
use Rattle.std.specs.List.{insert, remove}
use Rattle.std.proofs.lemmas.Bool.{cases_eq, cases_lt}
use Rattle.std.proofs.lemmas.Grind.{common_steps}
use Rattle.agc_plan.specs.Tasks.{Pending, Waiting, Agenda, timed, StandsFor, InOrder, RisesFrom, listed, later, dispatched, first_due, without_first_due}
use Rattle.agc_wait.specs.Waits.{is_due, place_for}
use Rattle.agc_wait.proofs.Spreading.{nearer, Spreads}
use Rattle.agc_wait.proofs.Orders.{set_in, RisesFrom-weaker, InOrder-append, InOrder-first, InOrder-rest, InOrder-none_due, InOrder-nil, InOrder-length}

abbrev pub timed_at : ℕ → Waiting → Pending
timed_at now w = record { task = w.task; due = now + w.distance }

-- the place by distances is the place by due times
pub timed-insert : (now : ℕ) (w : Waiting) (ws : List Waiting) → timed now (insert ws (place_for w.distance ws) w) ≡ set_in (timed_at now w) (timed now ws)
timed-insert now w [] = refl
timed-insert now w (v ∷ vs) =
    let rest : timed now (insert vs (place_for w.distance vs) w) ≡ set_in (timed_at now w) (timed now vs) = timed-insert now w vs in
    elim (cases_lt w.distance v.distance) [
      | inl lt ↦
          let p : place_for w.distance (v ∷ vs) ≡ 0 = grind (arith, common_steps) in
          let s : set_in (timed_at now w) (timed now (v ∷ vs)) ≡ timed_at now w ∷ timed now (v ∷ vs) = grind (arith, common_steps) in
          ap (λ k. timed now (insert (v ∷ vs) k w)) p ∙ sym s
      | inr ge ↦
          let p : place_for w.distance (v ∷ vs) ≡ suc (place_for w.distance vs) = grind (arith, common_steps) in
          let s : set_in (timed_at now w) (timed now (v ∷ vs)) ≡ timed_at now v ∷ set_in (timed_at now w) (timed now vs) = grind (arith, common_steps) in
          ap (λ k. timed now (insert (v ∷ vs) k w)) p ∙ ap (λ l. timed_at now v ∷ l) rest ∙ sym s
    ]

pub StandsFor-listed : (ws : List Waiting) (w : Waiting) (agenda : Agenda) → StandsFor ws agenda → StandsFor (insert ws (place_for w.distance ws) w) (listed w.distance w.task agenda)
StandsFor-listed ws w agenda stands =
    rw (timed-insert agenda.time w ws) (InOrder-append agenda.tasks (timed agenda.time ws) (timed_at agenda.time w) stands)

length-timed : (now : ℕ) (ws : List Waiting) → length (timed now ws) ≡ length ws
length-timed now [] = refl
length-timed now (w ∷ ws) = ap suc (length-timed now ws)

pub StandsFor-length : (ws : List Waiting) (agenda : Agenda) → StandsFor ws agenda → length agenda.tasks ≡ length ws
StandsFor-length ws agenda stands = sym (InOrder-length agenda.tasks (timed agenda.time ws) stands) ∙ length-timed agenda.time ws

-- none is due
pub Spreads-not_due : (most : ℕ) (ws : List Waiting) → is_due ws ≡ false → Spreads 0 most ws → Spreads 1 most ws
Spreads-not_due most [] e spreads = tt
Spreads-not_due most (w ∷ ws) e spreads =
    let apart : w.distance ≢ 0 = grind (arith, common_steps) in (omega arith, spreads.1, spreads.2)

-- a task is due exactly where the first is due now
pub first_due-none : (ws : List Waiting) (agenda : Agenda) → StandsFor ws agenda → is_due ws ≡ false → first_due agenda.time agenda.tasks ≡ None
first_due-none [] agenda stands apart = ap (first_due agenda.time) (InOrder-nil agenda.tasks stands)
first_due-none (w ∷ ws) agenda stands apart =
    let far : w.distance ≢ 0 = grind (arith, common_steps) in
    InOrder-none_due agenda.tasks (timed_at agenda.time w) (timed agenda.time ws) agenda.time stands (omega arith)

pub first_due-is : (w : Waiting) (ws : List Waiting) (agenda : Agenda) → StandsFor (w ∷ ws) agenda → w.distance ≡ 0 → first_due agenda.time agenda.tasks ≡ Some w.task
first_due-is w ws agenda stands zero_is =
    let now_is : agenda.time + w.distance ≡ agenda.time = omega arith in
    sym (ap (λ t. first_due t agenda.tasks) now_is) ∙ InOrder-first agenda.tasks (timed_at agenda.time w) (timed agenda.time ws) stands

pub StandsFor-dispatched : (w : Waiting) (ws : List Waiting) (agenda : Agenda) → StandsFor (w ∷ ws) agenda → w.distance ≡ 0 → StandsFor ws (dispatched agenda)
StandsFor-dispatched w ws agenda stands zero_is =
    let now_is : agenda.time + w.distance ≡ agenda.time = omega arith in
    let P : ℕ → Type 0 = λ t. InOrder (without_first_due t agenda.tasks) (timed agenda.time ws) in
    subst P now_is (InOrder-rest agenda.tasks (timed_at agenda.time w) (timed agenda.time ws) stands)

pub is_due-iff : (ws : List Waiting) (agenda : Agenda) → StandsFor ws agenda → (is_due ws ≡ true) ↔ IsSome (first_due agenda.time agenda.tasks)
is_due-iff [] agenda stands =
    let none : first_due agenda.time agenda.tasks ≡ None = first_due-none [] agenda stands refl in
    (λ e. absurd (cc), λ s. let k : false ≡ true = rw none at s in absurd (cc))
is_due-iff (w ∷ ws) agenda stands = elim (cases_eq w.distance 0) [
  | inl zero_is ↦
      let some : first_due agenda.time agenda.tasks ≡ Some w.task = first_due-is w ws agenda stands zero_is in
      (λ e. rw some refl, λ s. grind (arith, common_steps))
  | inr far ↦
      let apart : is_due (w ∷ ws) ≡ false = grind (arith, common_steps) in
      let none : first_due agenda.time agenda.tasks ≡ None = first_due-none (w ∷ ws) agenda stands apart in
      (λ e. absurd (cc), λ s. let k : false ≡ true = rw none at s in absurd (cc))
]

-- waits that are in order stand for an agenda: themselves, as they are
pub StandsFor-itself : (least most : ℕ) (ws : List Waiting) → Spreads least most ws → StandsFor ws (record { tasks = timed 0 ws; time = 0 })
StandsFor-itself least most ws spreads = record { rises = RisesFrom-weaker 0 least (timed 0 ws) (omega arith) (rises least ws spreads); same_at = λ time. refl }
  where
    rises : (least : ℕ) (ws : List Waiting) → Spreads least most ws → RisesFrom least (timed 0 ws)
    rises least [] spreads = tt
    rises least (w ∷ ws) spreads =
        let zero_plus : 0 + w.distance ≡ w.distance = omega arith in
        let low : least ≤ w.distance = spreads.0 in
        (omega arith, rw zero_plus (rises w.distance ws spreads.2))

pub StandsFor-removed : (ws : List Waiting) (agenda : Agenda) → is_due ws ≡ true → StandsFor ws agenda → StandsFor (remove ws 0) (dispatched agenda)
StandsFor-removed [] agenda due stands = absurd (cc)
StandsFor-removed (w ∷ ws) agenda due stands =
    let zero_is : w.distance ≡ 0 = grind (arith, common_steps) in
    StandsFor-dispatched w ws agenda stands zero_is

-- each one centisecond nearer, they are due at the same times
timed-nearer_by : (now least : ℕ) (ws : List Waiting) → now + 1 ≤ least → RisesFrom least (timed now ws) → timed (now + 1) (map nearer ws) ≡ timed now ws
timed-nearer_by now least [] low rises = refl
timed-nearer_by now least (w ∷ ws) low rises =
    let here : least ≤ now + w.distance = rises.0 in
    let same : now + 1 + (w.distance - 1) ≡ now + w.distance = omega arith in
    let rest : timed (now + 1) (map nearer ws) ≡ timed now ws = timed-nearer_by now (now + w.distance) ws (omega arith) rises.1 in
    cc

pub StandsFor-counted : (ws : List Waiting) (agenda : Agenda) → is_due ws ≡ false → StandsFor ws agenda → StandsFor (map nearer ws) (later agenda)
StandsFor-counted [] agenda apart stands = stands
StandsFor-counted (w ∷ ws) agenda apart stands =
    let far : w.distance ≢ 0 = grind (arith, common_steps) in
    let rises : RisesFrom 0 (timed agenda.time (w ∷ ws)) = stands.rises in
    let same : timed (agenda.time + 1) (map nearer (w ∷ ws)) ≡ timed agenda.time (w ∷ ws) = timed-nearer_by agenda.time (agenda.time + w.distance) (w ∷ ws) (omega arith) (omega arith, rises.1) in
    rw same stands

pub first_due-place : (ws : List Waiting) (agenda : Agenda) → is_due ws ≡ true → StandsFor ws agenda → first_due agenda.time agenda.tasks ≡ Some (slice_index_or ws 0 (record { task = record { at = 0; bank = 0 }; distance = 0 })).task
first_due-place [] agenda due stands = absurd (cc)
first_due-place (w ∷ ws) agenda due stands =
    let zero_is : w.distance ≡ 0 = grind (arith, common_steps) in
    first_due-is w ws agenda stands zero_is
