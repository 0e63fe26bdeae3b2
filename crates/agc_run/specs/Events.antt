-- A machine that is watched, and the event of each request.
use Rattle.std.specs.Prelude.{ℕ, ◌+◌, ◌&&◌, ◌||◌, Bool, true, false, if◌then◌else◌, List, []}
use Rattle.std.specs.Prelude.{◌-◌, ◌^◌, length, min, Some, None, is_some}
use Rattle.std.specs.Option.{option_map_or}
use Rattle.std.specs.Result.{is_ok}
use Rattle.agc_plan.specs.declared.request.Request.{Request}
use Rattle.agc_plan.specs.Seats.{places_acted}
use Rattle.agc_plan.specs.Steps.{raised_in, acted, is_tick}
use Rattle.agc_machine.specs.Machines.{Machined, after, answer_of, begins_with, fired_of}
use Rattle.agc_machine.specs.Machines.{plain_of, places_of, refusal_of, starts_over}
use Rattle.agc_run.specs.declared.event.Event.{Event}
use Rattle.agc_run.specs.declared.listings.Listing.{Listing}
use Rattle.agc_run.specs.declared.origins.Origin.{Origin}
use Rattle.agc_run.specs.declared.origins.Since.{Since}
use Rattle.agc_run.specs.Origins.{left_by, listings_after, origins_after}
use Rattle.agc_run.specs.Scenes.{Scene, scene_of}

-- the scene of a machine
abbrev pub scene_now : Machined → Scene
scene_now m = scene_of (plain_of m) (places_of m)

-- whether a request leaves what is there for its scene: a refused one does, and so do restart and
-- fresh start, which change the state by beginning an era
abbrev pub leaves : Machined → Request → Bool
leaves m asked = is_some (refusal_of m asked) || starts_over asked

-- the scene in which a request is answered: what it did, before an era begins with it
abbrev pub scene_at : Machined → Request → Scene
scene_at m asked = if leaves m asked then scene_now m
    else scene_of (acted m.plan asked (plain_of m)).plain
    (places_acted m.plan asked (plain_of m) (places_of m))

-- which action of the task that fired last raised the alarm, from 1; 0 if none did
abbrev pub raised_at : Machined → Request → ℕ
raised_at m asked =
    option_map_or (λ refusal. 0) (refusal_of m asked) (raised_in m.plan asked (plain_of m))

-- one more, up to the greatest number of 64 bits
abbrev pub one_more : ℕ → ℕ
one_more n = min (n + 1) (2 ^ 64 - 1)

-- one more, where this is so
abbrev pub one_more_if : Bool → ℕ → ℕ
one_more_if is n = if is then one_more n else n

-- the jobs and the tasks with which an era begins came with its beginning
abbrev pub jobs_begun : (request : ℕ) → Scene → List Origin
jobs_begun request scene =
    origins_after (record { request = request; restart = true }) [] scene.seats

abbrev pub tasks_begun : (request : ℕ) → Scene → List Listing
tasks_begun request scene =
    listings_after (record { request = request; restart = true }) [] scene.waits

-- a machine that is watched: how many requests were asked, how many ticks were served since the era
-- began, and since the start, and since which request each job and each task is there
pub record Watching : Type 0 where
  pub machine : Machined
  pub asked : ℕ
  pub time : ℕ
  pub total : ℕ
  pub jobs : List Origin
  pub tasks : List Listing

-- of a machine of which nothing was asked yet: request 0 is power-up
abbrev pub watching_from : Machined → Watching
watching_from m = record {
  machine = m;
  asked = 0;
  time = 0;
  total = 0;
  jobs = jobs_begun 0 (scene_now m);
  tasks = tasks_begun 0 (scene_now m);
}

-- the event of the next request
unfoldable pub event_of : Watching → Request → Event
event_of w asked =
    let m = w.machine in
    let number = one_more w.asked in
    let ticked = is_tick asked && is_ok (answer_of m asked) in
    let scene = scene_at m asked in
    let now : Since = record { request = number; restart = false } in
    record {
      number = number;
      time = one_more_if ticked w.time;
      total = one_more_if ticked w.total;
      request = asked;
      answer = answer_of m asked;
      fired = fired_of m asked;
      raised = raised_at m asked;
      scene = scene;
      era = if begins_with (answer_of m asked) then Some (scene_now (after m asked)) else None;
      jobs = origins_after now w.jobs scene.seats;
      tasks = listings_after now (left_by ticked (length (fired_of m asked)) w.tasks) scene.waits;
    }

-- the time after an event: where an era begins, time begins at 0
abbrev pub time_after : Event → ℕ
time_after event = if is_some event.era then 0 else event.time

abbrev pub jobs_after : Event → List Origin
jobs_after event = option_map_or (jobs_begun event.number) event.era event.jobs

abbrev pub tasks_after : Event → List Listing
tasks_after event = option_map_or (tasks_begun event.number) event.era event.tasks

-- the machine after it, as it is watched
abbrev pub watching_on : Machined → Event → Watching
watching_on m event = record {
  machine = m;
  asked = event.number;
  time = time_after event;
  total = event.total;
  jobs = jobs_after event;
  tasks = tasks_after event;
}

-- a watched run after its next request
abbrev pub watched : Watching → Request → Watching
watched w asked = watching_on (after w.machine asked) (event_of w asked)
