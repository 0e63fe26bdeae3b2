-- Helpers of proofs: what is done one after another: groups as an era begins, actions, tasks that
-- fire, and requests.
use Rattle.std.specs.Prelude.{ℕ, ◌+◌, if◌then◌else◌, List, [], ◌∷◌, ◌++◌, Option, Some, None}
use Rattle.std.specs.Prelude.{replicate}
use Rattle.std.specs.List.{fold}
use Rattle.std.specs.Option.{is_some, option_and_then, option_map_or, option_to_list}
use Rattle.agc_plan.specs.declared.reply.Alarm.{Alarm}
use Rattle.agc_plan.specs.declared.reply.Alarm.TheVariants.{A1203}
use Rattle.agc_plan.specs.declared.reply.Reply.TheVariants.{Listed, Alarmed}
use Rattle.agc_plan.specs.declared.request.Action.{Action}
use Rattle.agc_plan.specs.declared.request.JobStart.{JobStart}
use Rattle.agc_plan.specs.declared.request.JobStart.TheVariants.{Novac, Findvac}
use Rattle.agc_plan.specs.declared.request.Request.{Request}
use Rattle.agc_plan.specs.declared.request.Task.{Task}
use Rattle.agc_plan.specs.Jobs.{Jobs, Outcome, novac, findvac}
use Rattle.agc_plan.specs.Tasks.{Agenda, has_room, listed_if_room}
use Rattle.agc_plan.specs.Begins.{Begins}
use Rattle.agc_plan.specs.Eras.{Work, active}
use Rattle.agc_plan.specs.Plans.{Planned}
use Rattle.agc_plan.specs.Seats.{Seated, Placed, seated_new, seated_by, places_after}
use Rattle.agc_plan.specs.Steps.{Did, alarm_of, step}

-- the job of a phase is established
abbrev pub started : JobStart → Jobs → Outcome
started (Novac priority entry) jobs = novac priority entry jobs
started (Findvac priority entry) jobs = findvac priority entry jobs

-- the jobs after an entry's job was started, if it has one
abbrev pub jobs_begun : Option JobStart → Jobs → Jobs
jobs_begun None jobs = jobs
jobs_begun (Some job) jobs = (started job jobs).jobs

-- the alarm that it would raise
abbrev pub job_alarms : Option JobStart → Jobs → List Alarm
job_alarms None jobs = []
job_alarms (Some job) jobs = option_to_list (alarm_of (started job jobs).reply)

-- the task of a phase is listed, where there is one
abbrev pub agenda_begun : Option (ℕ × Task) → Agenda → Agenda
agenda_begun None agenda = agenda
agenda_begun (Some listing) agenda = listed_if_room listing.0 listing.1 agenda

-- the alarm that it would raise
abbrev pub task_alarms : Option (ℕ × Task) → Agenda → List Alarm
task_alarms None agenda = []
task_alarms (Some listing) agenda =
    option_to_list (alarm_of (if has_room agenda then Listed else Alarmed A1203))

-- one group begins
abbrev pub group_begun : Option Begins → Work → Work
group_begun None work = work
group_begun (Some e) work =
    record { jobs = jobs_begun e.job work.jobs; agenda = agenda_begun e.task work.agenda }

-- the alarms that it would raise
abbrev pub group_alarms : Option Begins → Work → List Alarm
group_alarms None work = []
group_alarms (Some e) work = job_alarms e.job work.jobs ++ task_alarms e.task work.agenda

-- the groups from this one on begin, in order, with these phases
abbrev pub begun_from : List Begins → ℕ → List ℕ → Work → Work
begun_from entries group [] work = work
begun_from entries group (phase ∷ phases) work =
    begun_from entries (group + 1) phases (group_begun (active entries group phase) work)

-- the alarms that they would raise
abbrev pub alarms_from : List Begins → ℕ → List ℕ → Work → List Alarm
alarms_from entries group [] work = []
alarms_from entries group (phase ∷ phases) work =
    group_alarms (active entries group phase) work
    ++ alarms_from entries (group + 1) phases (group_begun (active entries group phase) work)

-- the job of a group's entry, if it has one, came to the first free set
abbrev pub places_begun : Option Begins → Jobs → List ℕ → List ℕ
places_begun entry jobs places =
    let start : Option JobStart = option_and_then (λ e. e.job) entry in
    option_map_or (λ job. (seated_new (started job jobs) places).places) start places

-- the core sets after the groups from this one on began
abbrev pub places_from : List Begins → ℕ → List ℕ → Work → List ℕ → List ℕ
places_from entries group [] work places = places
places_from entries group (phase ∷ phases) work places =
    let entry = active entries group phase in
    places_from entries (group + 1) phases (group_begun entry work)
    (places_begun entry work.jobs places)

-- no job in any of so many core sets
abbrev pub no_places : ℕ → List ℕ
no_places sets = replicate sets 0

-- unless there was an alarm, on with it
abbrev pub and_then : Did → (Work → Did) → Did
and_then did next = if is_some did.alarm then did else next did.work

-- the core sets after the actions of one task after another
abbrev pub seated_through : List (List Action) → Seated → Seated
seated_through acts seated = fold (λ s its. seated_by its s) seated acts

-- the plain state, and the core sets, after one request
abbrev pub placed_step : Planned → Request → Placed → Placed
placed_step plan asked placed = record { plain = (step plan asked placed.plain).plain; places = places_after plan asked placed.plain placed.places }
