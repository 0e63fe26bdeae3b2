-- Runs of listings and ticks on the plain list of tasks, and which task fired when.
use Rattle.std.specs.Prelude.{◌≡◌, ℕ, ◌+◌, ◌<◌, ◌≤◌, if◌then◌else◌, List, [], ◌∷◌, ◌++◌, Option}
use Rattle.std.specs.Prelude.{Some, None, IsSome, drop}
use Rattle.std.specs.List.{fold}
use Rattle.agc_plan.specs.declared.request.Task.{Task}
use Rattle.agc_plan.specs.Eras.{Work, no_work}
use Rattle.agc_plan.specs.Steps.{tick_fires}
use Rattle.agc_plan.specs.Tasks.{Pending, has_room, listed, due_at, first_due, without_first_due}
use Rattle.agc_plan.specs.Tasks.{InOrder}

-- a task is listed with a delay, or a centisecond passes
pub data Move : Type 0 where
  Listing : (delay : ℕ) → (task : Task) → Move
  Ticking : Move

-- the jobs and tasks, all tasks that were listed, with their due times, and all that fired, with
-- the times at which they did
pub record Run : Type 0 where
  pub work : Work
  pub accepted : List Pending
  pub fired : List Pending

-- each with this time
abbrev pub stamped : ℕ → List Task → List Pending
stamped time [] = []
stamped time (task ∷ tasks) = record { task = task; due = time } ∷ stamped time tasks

-- one more task was listed
abbrev pub run_listed : ℕ → Task → Run → Run
run_listed delay task run =
    record run {
      work = record run.work { agenda = listed delay task run.work.agenda };
      accepted = run.accepted ++ record { task = task; due = run.work.agenda.time + delay } ∷ [];
    }

-- one more move, where no task has an action, and a tenth listing is passed over, where the machine
-- would lose all tasks
abbrev pub moved : Run → Move → Run
moved run (Listing delay task) = if has_room run.work.agenda then run_listed delay task run else run
moved run Ticking =
    let fires = tick_fires [] run.work in
    record run {
      work = fires.work;
      fired = run.fired ++ stamped fires.work.agenda.time fires.fired;
    }

-- these moves, from the beginning of an era on, with so many core sets
abbrev pub run_of : ℕ → List Move → Run
run_of sets moves = fold moved (record { work = no_work sets; accepted = []; fired = [] }) moves

-- a listing is for later
abbrev pub MovesLater : Move → Type 0
MovesLater (Listing delay task) = 1 ≤ delay
MovesLater Ticking = Unit {0}

-- what was due by now fired when it was due, in order of arrival, and nothing else fired; what is
-- due later waits, and nothing else does
pub record FiresWhenDue (run : Run) : Type 0 where
  pub fired : (time : ℕ) → time ≤ run.work.agenda.time
      → due_at time run.fired ≡ due_at time run.accepted
  pub none_early : (time : ℕ) → run.work.agenda.time < time → due_at time run.fired ≡ []
  pub waits : (time : ℕ) → run.work.agenda.time < time
      → due_at time run.work.agenda.tasks ≡ due_at time run.accepted
  pub none_late : (time : ℕ) → time ≤ run.work.agenda.time → due_at time run.work.agenda.tasks ≡ []

-- the first task of a list
abbrev pub first_of : List Pending → Option Task
first_of [] = None
first_of (x ∷ xs) = Some x.task

-- if a task is due, the earliest arrival of the due ones is the first in order, and without it the
-- others are in order
pub record FiresInOrder (time : ℕ) (tasks ordered : List Pending) : Type 0 where
  pub first : IsSome (first_due time tasks) → first_due time tasks ≡ first_of ordered
  pub rest : IsSome (first_due time tasks) → InOrder (without_first_due time tasks) (drop 1 ordered)
