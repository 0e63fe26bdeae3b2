-- Runs of listings and ticks.
use Rattle.std.proofs.Common.{◌≡◌, ◌≢◌, ℕ, suc, ◌+◌, ◌≤◌, Bool, true, false, cond, List, [], ◌∷◌, ◌++◌, refl, ap, sym, ◌∙◌, inl, inr, arith}
use Rattle.std.specs.List.{All, fold}
use Rattle.std.proofs.lemmas.Bool.{cases_eq}
use Rattle.std.proofs.lemmas.List.{append-nil}
use Rattle.std.proofs.lemmas.Grind.{common_steps}
use Rattle.agc_plan.specs.declared.request.Task.{Task}
use Rattle.agc_plan.specs.Eras.{no_work}
use Rattle.agc_plan.specs.Steps.{tick_fires, later_work}
use Rattle.agc_plan.specs.Tasks.{Pending, has_room, due_at}
use Rattle.agc_wait.specs.Runs.{Move, Listing, Ticking, Run, stamped, run_listed, moved, run_of, MovesLater, FiresWhenDue}
use Rattle.agc_wait.proofs.Orders.{due_at-append, NoneBefore}
use Rattle.agc_wait.proofs.Firings.{tasks_of, at_time, at_other, FiresDue, tick_fires-due}

-- one that is due at another time
due_at-other : (time : ℕ) (y : Pending) → y.due ≢ time → due_at time (y ∷ []) ≡ []
due_at-other time y ne = grind (arith, common_steps)

due_at-more_other : (time : ℕ) (xs : List Pending) (y : Pending) → y.due ≢ time → due_at time (xs ++ y ∷ []) ≡ due_at time xs
due_at-more_other time xs y ne = due_at-append time xs (y ∷ []) ∙ ap (λ l. due_at time xs ++ l) (due_at-other time y ne) ∙ append-nil (due_at time xs)

-- those that are due at a time, by that time and by another
due_at-twice : (time : ℕ) (xs : List Pending) → due_at time (due_at time xs) ≡ due_at time xs
due_at-twice time [] = refl
due_at-twice time (x ∷ xs) =
    let rest : due_at time (due_at time xs) ≡ due_at time xs = due_at-twice time xs in
    elim (cases_eq x.due time) [
      | inl e ↦
          let a : due_at time (x ∷ xs) ≡ x ∷ due_at time xs = grind (arith, common_steps) in
          let b : due_at time (x ∷ due_at time xs) ≡ x ∷ due_at time (due_at time xs) = grind (arith, common_steps) in
          ap (due_at time) a ∙ b ∙ ap (λ l. x ∷ l) rest ∙ sym a
      | inr ne ↦
          let a : due_at time (x ∷ xs) ≡ due_at time xs = grind (arith, common_steps) in
          ap (due_at time) a ∙ rest ∙ sym a
    ]

due_at-apart : (time other : ℕ) → time ≢ other → (xs : List Pending) → due_at time (due_at other xs) ≡ []
due_at-apart time other ne [] = refl
due_at-apart time other ne (x ∷ xs) =
    let rest : due_at time (due_at other xs) ≡ [] = due_at-apart time other ne xs in
    elim (cases_eq x.due other) [
      | inl e ↦
          let a : due_at other (x ∷ xs) ≡ x ∷ due_at other xs = grind (arith, common_steps) in
          let far : x.due ≢ time = λ z. ne (sym z ∙ e) in
          let b : due_at time (x ∷ due_at other xs) ≡ due_at time (due_at other xs) = grind (arith, common_steps) in
          ap (due_at time) a ∙ b ∙ rest
      | inr far ↦
          let a : due_at other (x ∷ xs) ≡ due_at other xs = grind (arith, common_steps) in
          ap (due_at time) a ∙ rest
    ]

-- those of one time, with that time written to them, are the same
stamped-due_at : (time : ℕ) (xs : List Pending) → stamped time (tasks_of (due_at time xs)) ≡ due_at time xs
stamped-due_at time [] = refl
stamped-due_at time (x ∷ xs) =
    let rest : stamped time (tasks_of (due_at time xs)) ≡ due_at time xs = stamped-due_at time xs in
    elim (cases_eq x.due time) [
      | inl e ↦
          let a : due_at time (x ∷ xs) ≡ x ∷ due_at time xs = grind (arith, common_steps) in
          let same : ◌≡◌ {A = Pending} (record { task = x.task; due = time }) x = ap (λ t. record { task = x.task; due = t }) (sym e) in
          ap (λ l. stamped time (tasks_of l)) a ∙ ap (λ l. record { task = x.task; due = time } ∷ l) rest ∙ ap (λ (p : Pending). p ∷ due_at time xs) same ∙ sym a
      | inr ne ↦
          let a : due_at time (x ∷ xs) ≡ due_at time xs = grind (arith, common_steps) in
          ap (λ l. stamped time (tasks_of l)) a ∙ rest ∙ sym a
    ]

FiresWhenDue-listed : (delay : ℕ) (task : Task) (run : Run) → 1 ≤ delay → FiresWhenDue run → FiresWhenDue (run_listed delay task run)
FiresWhenDue-listed delay task run later so_far =
    let now : ℕ = run.work.agenda.time in
    let y : Pending = record { task = task; due = run.work.agenda.time + delay } in
    record {
      fired = λ time le. so_far.fired time le ∙ sym (due_at-more_other time run.accepted y (λ e. omega arith));
      none_early = so_far.none_early;
      waits = λ time lt. due_at-append time run.work.agenda.tasks (y ∷ []) ∙ ap (λ l. l ++ due_at time (y ∷ [])) (so_far.waits time lt) ∙ sym (due_at-append time run.accepted (y ∷ []));
      none_late = λ time le. due_at-more_other time run.work.agenda.tasks y (λ e. omega arith) ∙ so_far.none_late time le;
    }

FiresWhenDue-ticked : (run : Run) → FiresWhenDue run → FiresWhenDue (moved run Ticking)
FiresWhenDue-ticked run so_far =
    let before : NoneBefore (run.work.agenda.time + 1) run.work.agenda.tasks = (λ earlier lt. so_far.none_late earlier (omega arith)) in
    let fires : FiresDue (later_work run.work) [] (tick_fires [] run.work) = tick_fires-due run.work before in
    let after : (tick_fires [] run.work).work.agenda.time ≡ run.work.agenda.time + 1 = fires.time_is in
    let new : stamped (tick_fires [] run.work).work.agenda.time (tick_fires [] run.work).fired ≡ due_at (run.work.agenda.time + 1) run.work.agenda.tasks =
    ap (λ t. stamped t (tick_fires [] run.work).fired) after ∙ ap (stamped (run.work.agenda.time + 1)) fires.fired_is ∙ stamped-due_at (run.work.agenda.time + 1) run.work.agenda.tasks in
    let all : (time : ℕ) → due_at time (moved run Ticking).fired ≡ due_at time run.fired ++ due_at time (due_at (run.work.agenda.time + 1) run.work.agenda.tasks) =
    (λ time. due_at-append time run.fired _ ∙ ap (λ l. due_at time run.fired ++ due_at time l) new) in
    record {
      fired = λ time le. elim (cases_eq time (run.work.agenda.time + 1)) [
        | inl e ↦
            all time ∙ ap (λ l. l ++ due_at time (due_at (run.work.agenda.time + 1) run.work.agenda.tasks)) (so_far.none_early time (omega arith))
            ∙ ap (λ t. due_at t (due_at (run.work.agenda.time + 1) run.work.agenda.tasks)) e ∙ due_at-twice (run.work.agenda.time + 1) run.work.agenda.tasks ∙ ap (λ t. due_at t run.work.agenda.tasks) (sym e) ∙ so_far.waits time (omega arith)
        | inr ne ↦
            all time ∙ ap (λ l. due_at time run.fired ++ l) (due_at-apart time (run.work.agenda.time + 1) ne run.work.agenda.tasks) ∙ append-nil (due_at time run.fired) ∙ so_far.fired time (omega arith)
      ];
      none_early = λ time lt.
          all time ∙ ap (λ l. due_at time run.fired ++ l) (due_at-apart time (run.work.agenda.time + 1) (λ e. omega arith) run.work.agenda.tasks) ∙ append-nil (due_at time run.fired) ∙ so_far.none_early time (omega arith);
      waits = λ time lt. fires.left time ∙ at_other time (run.work.agenda.time + 1) (λ e. omega arith) [] _ ∙ so_far.waits time (omega arith);
      none_late = λ time le. fires.left time ∙ elim (cases_eq time (run.work.agenda.time + 1)) [
        | inl e ↦ at_time time (run.work.agenda.time + 1) e [] _
        | inr ne ↦ at_other time (run.work.agenda.time + 1) ne [] _ ∙ so_far.none_late time (omega arith)
      ];
    }

FiresWhenDue-moved : (run : Run) (move : Move) → MovesLater move → FiresWhenDue run → FiresWhenDue (moved run move)
FiresWhenDue-moved run (Listing delay task) later so_far = by_room (has_room run.work.agenda)
  where
    by_room : (b : Bool) → FiresWhenDue (cond b (run_listed delay task run) run)
    by_room true = FiresWhenDue-listed delay task run later so_far
    by_room false = so_far
FiresWhenDue-moved run Ticking later so_far = FiresWhenDue-ticked run so_far

FiresWhenDue-folded : (run : Run) (moves : List Move) → All MovesLater moves → FiresWhenDue run → FiresWhenDue (fold moved run moves)
FiresWhenDue-folded run [] all so_far = so_far
FiresWhenDue-folded run (move ∷ moves) all so_far = FiresWhenDue-folded (moved run move) moves (λ k d lt. all (suc k) d (omega arith)) (FiresWhenDue-moved run move (all 0 move (omega arith)) so_far)

pub FiresWhenDue-is : (sets : ℕ) (moves : List Move) → All MovesLater moves → FiresWhenDue (run_of sets moves)
FiresWhenDue-is sets moves all =
    FiresWhenDue-folded (record { work = no_work sets; accepted = []; fired = [] }) moves all
    (record { fired = λ time le. refl; none_early = λ time lt. refl; waits = λ time lt. refl; none_late = λ time le. refl })
