-- The scene of a state: which job runs, which one NEWJOB names, the job in each core set, the tasks
-- in order, phases and codes.
use Rattle.std.specs.Prelude.{ℕ, ◌-◌, ◌==◌, nat_lt, if◌then◌else◌, List, [], ◌∷◌, map}
use Rattle.std.specs.Prelude.{Option, Some, None, option_map}
use Rattle.std.specs.List.{fold}
use Rattle.agc_plan.specs.Base.{Base}
use Rattle.agc_plan.specs.Jobs.{Job, Jobs, job_in}
use Rattle.agc_plan.specs.Tasks.{Pending, Agenda, Waiting}
use Rattle.agc_plan.specs.Steps.{Plain}
use Rattle.agc_exec.specs.Seats.{named_of}
use Rattle.agc_exec.specs.declared.seats.Seat.{Seat}

-- this job, in a core set
abbrev pub seated : ℕ → Job → Seat
seated number job = record {
  number = number;
  at = job.at;
  priority = job.priority;
  asleep = job.asleep;
  area = job.area;
}

-- the job in a core set whose entry in the placement is this number, 0 for a free set
abbrev pub seat_of : Jobs → ℕ → Option Seat
seat_of jobs number = if number == 0 then None
    else option_map (seated number) (job_in jobs.slots number)

-- a task, after all that are due no later
abbrev pub put_in : Pending → List Pending → List Pending
put_in task [] = task ∷ []
put_in task (x ∷ xs) = if nat_lt task.due x.due then task ∷ x ∷ xs else x ∷ put_in task xs

-- tasks by due time, and those of one due time in order of arrival
abbrev pub by_due : List Pending → List Pending
by_due tasks = fold (λ ordered task. put_in task ordered) [] tasks

-- a task, with the centiseconds that it still has
abbrev pub time_left : ℕ → Pending → Waiting
time_left time task = record { task = task.task; distance = task.due - time }

-- the tasks that wait, in order
abbrev pub waits_in : Agenda → List Waiting
waits_in agenda = map (time_left agenda.time) (by_due agenda.tasks)

-- all of it
pub record Scene : Type 0 where
  pub running : Option ℕ
  pub next_job : Option ℕ
  pub seats : List (Option Seat)
  pub waits : List Waiting
  pub base : Base

-- of a plain state and a placement
abbrev pub scene_of : Plain → List ℕ → Scene
scene_of plain places = record {
  running = plain.work.jobs.running;
  next_job = named_of plain.work.jobs;
  seats = map (seat_of plain.work.jobs) places;
  waits = waits_in plain.work.agenda;
  base = plain.base;
}

-- the number of the job that owns an area, if one does
abbrev pub owner_of : ℕ → List (Option Seat) → Option ℕ
owner_of area [] = None
owner_of area (None ∷ seats) = owner_of area seats
owner_of area (Some seat ∷ seats) =
    if seat.area == area then Some seat.number else owner_of area seats
