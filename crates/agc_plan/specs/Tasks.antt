-- The plain list of tasks, with no places, counters or differences.
use Rattle.std.specs.Prelude.{◌≡◌, ℕ, ◌+◌, ◌≤◌, ◌==◌, suc, nat_lt, nat_le, Bool, if◌then◌else◌}
use Rattle.std.specs.Prelude.{List, [], ◌∷◌, ◌++◌, length, Option, Some, None}
use Rattle.agc_plan.specs.declared.request.Task.{Task}

-- a task, and the time at which it is due
pub record Pending : Type 0 where
  pub task : Task
  pub due : ℕ

-- the tasks that wait, in order of arrival, and the present time
pub record Agenda : Type 0 where
  pub tasks : List Pending
  pub time : ℕ

-- there is room for nine tasks
abbrev pub has_room : Agenda → Bool
has_room agenda = nat_lt (length agenda.tasks) 9

-- one more task, due this long from now
abbrev pub listed : ℕ → Task → Agenda → Agenda
listed delay task agenda = record agenda { tasks = agenda.tasks ++ record { task = task; due = agenda.time + delay } ∷ [] }

-- one more task, where there is room
abbrev pub listed_if_room : ℕ → Task → Agenda → Agenda
listed_if_room delay task agenda = if has_room agenda then listed delay task agenda else agenda

-- a centisecond later
abbrev pub later : Agenda → Agenda
later agenda = record agenda { time = agenda.time + 1 }

-- the earliest arrival that is due by this time
abbrev pub first_due : ℕ → List Pending → Option Task
first_due time [] = None
first_due time (x ∷ xs) = if nat_le x.due time then Some x.task else first_due time xs

-- the others
abbrev pub without_first_due : ℕ → List Pending → List Pending
without_first_due time [] = []
without_first_due time (x ∷ xs) = if nat_le x.due time then xs else x ∷ without_first_due time xs

-- that task is taken out
abbrev pub dispatched : Agenda → Agenda
dispatched agenda = record agenda { tasks = without_first_due agenda.time agenda.tasks }

-- how many are due by this time
abbrev pub count_due : ℕ → List Pending → ℕ
count_due time [] = 0
count_due time (x ∷ xs) = if nat_le x.due time then suc (count_due time xs) else count_due time xs

-- the tasks that are due at just this time
abbrev pub due_at : ℕ → List Pending → List Pending
due_at time [] = []
due_at time (x ∷ xs) = if x.due == time then x ∷ due_at time xs else due_at time xs

-- no task stands before one that is due earlier, and none is due before this time
abbrev pub RisesFrom : ℕ → List Pending → Type 0
RisesFrom time [] = Unit {0}
RisesFrom time (x ∷ xs) = (time ≤ x.due) × RisesFrom x.due xs

-- the tasks by due time, and those of one due time in order of arrival
pub record InOrder (tasks ordered : List Pending) : Type 0 where
  pub rises : RisesFrom 0 ordered
  pub same_at : (time : ℕ) → due_at time ordered ≡ due_at time tasks

-- a task, and how far from now it is due
pub record Waiting : Type 0 where
  pub task : Task
  pub distance : ℕ

-- when they are due, counted from now
abbrev pub timed : ℕ → List Waiting → List Pending
timed now [] = []
timed now (w ∷ ws) = record { task = w.task; due = now + w.distance } ∷ timed now ws

-- with their distances counted from now, these are the agenda's tasks in order
abbrev pub StandsFor : List Waiting → Agenda → Type 0
StandsFor waits agenda = InOrder agenda.tasks (timed agenda.time waits)
