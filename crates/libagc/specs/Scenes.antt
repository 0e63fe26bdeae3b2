-- All that the tables hold, in numbers.
use Rattle.std.specs.Prelude.{ℕ, ◌+◌, nat_lt, ◌==◌, false, if◌then◌else◌, List, [], ◌∷◌, map}
use Rattle.std.specs.Prelude.{replicate, unwrap_or}
use Rattle.std.specs.Prelude.{Option, Some, None, slice_get, slice_index}
use Rattle.std.specs.List.{range_with_len}
use Rattle.std.specs.Option.{option_flatten}
use Rattle.agc_word.specs.Layout.{set_place}
use Rattle.agc_plan.specs.Tasks.{Waiting}
use Rattle.agc_exec.specs.Image.{jobs_in, runner_in}
use Rattle.agc_exec.specs.Seats.{named_of, seats_in}
use Rattle.agc_exec.specs.declared.seats.Seat.{Seat}
use Rattle.agc_phase.specs.Image.{base_of, failreg_words}
use Rattle.agc_wait.specs.Table.{waits_of}
use Rattle.agc_image.specs.Images.{image_of}
use Rattle.libagc.specs.declared.scene.AgcJob.{AgcJob}
use Rattle.libagc.specs.declared.scene.AgcScene.{AgcScene}
use Rattle.libagc.specs.declared.scene.AgcWaiting.{AgcWaiting}

abbrev pub no_job : AgcJob
no_job = record {
  number = 0;
  priority = 0;
  at = 0;
  bank = 0;
  area = 0;
  asleep = false;
  work = replicate 6 0;
}

-- work words 1 to 6 of the set that begins at this place
abbrev pub work_at : ℕ → List ℕ → List ℕ
work_at place words = map (λ k. slice_index words (place + k)) (range_with_len 1 6)

-- the job in a core set, with its bank's word and its work words, or no job
abbrev pub job_to_c : ℕ → List ℕ → Option Seat → AgcJob
job_to_c set words None = no_job
job_to_c set words (Some seat) = record {
  number = seat.number;
  priority = seat.priority;
  at = seat.at;
  bank = slice_index words (set_place set + 9);
  area = seat.area;
  asleep = seat.asleep;
  work = work_at (set_place set) words;
}

-- no job beyond the last set
abbrev pub set_to_c : ℕ → List ℕ → ℕ → AgcJob
set_to_c sets words set =
    if nat_lt set sets
    then job_to_c set words (option_flatten (slice_get (seats_in (image_of sets words)) set))
    else no_job

abbrev pub sets_to_c : ℕ → List ℕ → List AgcJob
sets_to_c sets words = map (set_to_c sets words) (range_with_len 0 8)

-- the number of the job that owns an area, 0 for none
unfoldable pub owner_in : List AgcJob → ℕ → ℕ
owner_in [] area = 0
owner_in (job ∷ jobs) area = if job.area == area then job.number else owner_in jobs area

-- a task that waits, with the centiseconds that are left to it, or none
abbrev pub task_to_c : Option Waiting → AgcWaiting
task_to_c None = record { at = 0; bank = 0; left = 0 }
task_to_c (Some waiting) = record {
  at = waiting.task.at;
  bank = waiting.task.bank;
  left = waiting.distance;
}

-- the task that comes due as number `place` of those that wait, or none
abbrev pub task_in : List Waiting → ℕ → AgcWaiting
task_in waits place = task_to_c (slice_get waits place)

-- all of it: who runs, whom NEWJOB names, 0 for none, sets, areas, tasks, phases and codes
abbrev pub scene_to_c : ℕ → List ℕ → AgcScene
scene_to_c sets words = record {
  running = unwrap_or (runner_in (image_of sets words)) 0;
  next = unwrap_or (named_of (jobs_in (image_of sets words))) 0;
  sets = sets_to_c sets words;
  areas = map (owner_in (sets_to_c sets words)) (range_with_len 1 5);
  tasks = map (task_in (waits_of (image_of sets words))) (range_with_len 0 9);
  failreg = failreg_words (image_of sets words);
  phases = (base_of (image_of sets words)).phases;
}
