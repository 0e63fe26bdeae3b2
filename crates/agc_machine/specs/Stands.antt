-- For the proofs: how the words stand for plain lists, and what the private functions do to both.
use Rattle.std.specs.Prelude.{◌≡◌, ℕ, List, [], length, Option, Some, None}
use Rattle.std.specs.Prelude.{if◌then◌else◌}
use Rattle.std.specs.Option.{is_some, option_map, option_map_or}
use Rattle.agc_word.specs.Layout.{IsSized}
use Rattle.agc_plan.specs.declared.reply.Alarm.{Alarm}
use Rattle.agc_plan.specs.declared.reply.Reply.{Reply}
use Rattle.agc_plan.specs.declared.reply.Reply.TheVariants.{Listed, Alarmed}
use Rattle.agc_plan.specs.declared.request.Action.{Action}
use Rattle.agc_plan.specs.declared.request.JobStart.{JobStart}
use Rattle.agc_plan.specs.declared.request.Request.{Request}
use Rattle.agc_plan.specs.declared.request.Task.{Task}
use Rattle.agc_plan.specs.Base.{Base, with_code}
use Rattle.agc_plan.specs.Begins.{Begins}
use Rattle.agc_plan.specs.Eras.{Work, no_work}
use Rattle.agc_plan.specs.Groups.{started, jobs_begun, agenda_begun, begun_from, places_begun}
use Rattle.agc_plan.specs.Groups.{places_from}
use Rattle.agc_plan.specs.Plans.{Planned, Rows}
use Rattle.agc_plan.specs.Seats.{Seated, seated_action, seated_by, seated_new}
use Rattle.agc_plan.specs.Groups.{seated_through}
use Rattle.agc_plan.specs.Groups.{no_places}
use Rattle.agc_plan.specs.Seats.{places_acted, places_after, era_places}
use Rattle.agc_plan.specs.Steps.{Plain, Stepped, Acted, done, begun, acted, step, code_of, fire_all}
use Rattle.agc_plan.specs.Steps.{all_done, those_done, later_work, tick_fires, raised_by, fired_in, raised_in}
use Rattle.agc_plan.specs.Tasks as tasks
use Rattle.agc_exec.specs.Image.{jobs_in, entries_in}
use Rattle.agc_exec.specs.Image as cores
use Rattle.agc_wait.specs.Table.{waits_of}
use Rattle.agc_wait.specs.Table as table
use Rattle.agc_wait.specs.Waits.{due_now}
use Rattle.agc_phase.specs.Image.{base_of}
use Rattle.agc_phase.specs.Image as phases
use Rattle.agc_machine.specs.declared.tick.Raised.{Raised}

-- lawful and tidy words, also where a task is due
pub record IsSound (words : List ℕ) : Type 0 where
  pub size : IsSized words
  pub tidy_cores : cores.IsTidy words
  pub tidy_waits : table.IsTidy words
  pub cores : cores.IsLawfulWords words
  pub waits : table.IsLawfulTable words
  pub phases : phases.IsLawfulTable words

-- the words are sound, and no task is due
pub record IsReady (words : List ℕ) : Type 0 where
  pub sound : IsSound words
  pub none_due : due_now (waits_of words) ≡ 0

-- the core sets hold these jobs in these places, and the Waitlist these tasks
pub record Stands (words : List ℕ) (work : Work) (places : List ℕ) : Type 0 where
  pub jobs_is : work.jobs ≡ jobs_in words
  pub places_is : places ≡ entries_in words
  pub agenda : tasks.StandsFor (waits_of words) work.agenda

-- the words stand for this state: jobs and tasks, and phases and codes
pub record StandsFor (words : List ℕ) (plain : Plain) (places : List ℕ) : Type 0 where
  pub work : Stands words plain.work places
  pub base_is : plain.base ≡ base_of words

-- jobs and tasks change: whatever the old words stand for, the new ones stand for this change of
-- it, and are sound; phases and codes stay
pub record Changes (change : Work → Work) (seat : Work → List ℕ → List ℕ) (old new : List ℕ) : Type
    0 where
  pub sound : IsSound new
  pub same_length : length new ≡ length old
  pub same_base : base_of new ≡ base_of old
  pub stands : (work : Work) (places : List ℕ) → Stands old work places
      → Stands new (change work) (seat work places)

-- as many tasks are due as before
abbrev pub SameDue : List ℕ → List ℕ → Type 0
SameDue old new = due_now (waits_of new) ≡ due_now (waits_of old)

-- jobs and tasks change by a request, with this reply
pub record Works (change : Work → Acted) (seat : Work → List ℕ → List ℕ) (old : List ℕ)
    (reply : Reply) (new : List ℕ) : Type 0 where
  pub changes : Changes (λ work. (change work).work) seat old new
  pub reply_is : (work : Work) (places : List ℕ) → Stands old work places → reply
      ≡ (change work).reply

-- the reply to a listing, which raised this alarm, if any
abbrev pub listing_told : Option Alarm → Reply
listing_told None = Listed
listing_told (Some alarm) = Alarmed alarm

-- every job stays in its core set
abbrev pub same_places : Work → List ℕ → List ℕ
same_places work places = places

-- the jobs, and the core sets that hold them
abbrev pub seated_in : Work → List ℕ → Seated
seated_in work places = record { jobs = work.jobs; places = places }

-- the core sets after an action
abbrev pub places_done : Action → Work → List ℕ → List ℕ
places_done action work places = (seated_action action (seated_in work places)).places

-- an action of the plan is done, with this alarm
pub record Performs (action : Action) (old : List ℕ) (alarm : Option Alarm) (new : List ℕ) : Type 0
  where
    pub changes : Changes (λ work. (done action work).work) (places_done action) old new
    pub alarm_is : (work : Work) (places : List ℕ) → Stands old work places → alarm
        ≡ (done action work).alarm
    pub same_due : SameDue old new

-- the core sets after several
abbrev pub places_all : List Action → Work → List ℕ → List ℕ
places_all acts work places = (seated_by (those_done acts work) (seated_in work places)).places

-- the alarm that was raised, if one was
abbrev pub alarm_in : Option Raised → Option Alarm
alarm_in raised = option_map (λ r. r.alarm) raised

-- which action raised it, from 1, and 0 where none did
abbrev pub number_in : Option Raised → ℕ
number_in raised = option_map_or (λ r. r.number) raised 0

-- how many of these actions are done if one raises an alarm, and otherwise 0
abbrev pub number_of : List Action → Work → ℕ
number_of acts work =
    if is_some (all_done acts work).alarm then length (those_done acts work) else 0

-- actions of the plan are done, in order, up to the first that raises an alarm
pub record PerformsAll (acts : List Action) (old : List ℕ) (alarm : Option Alarm) (number : ℕ)
    (new : List ℕ) : Type 0 where
  pub changes : Changes (λ work. (all_done acts work).work) (places_all acts) old new
  pub alarm_is : (work : Work) (places : List ℕ) → Stands old work places → alarm
      ≡ (all_done acts work).alarm
  pub number_is : (work : Work) (places : List ℕ) → Stands old work places → number
      ≡ number_of acts work
  pub same_due : SameDue old new

-- the core sets after the actions of the tasks that are due
abbrev pub places_fired : Rows → Work → List ℕ → List ℕ
places_fired rows work places =
    (seated_through (fire_all rows work [] []).acts (seated_in work places)).places

-- all tasks that are due fire, until an action raises an alarm
pub record FiresDue (rows : Rows) (old : List ℕ) (fired : List Task)
    (alarm : Option Alarm) (number : ℕ) (new : List ℕ) : Type 0 where
  pub changes : Changes (λ work. (fire_all rows work [] []).work) (places_fired rows) old new
  pub fired_is : (work : Work) (places : List ℕ) → Stands old work places → fired
      ≡ (fire_all rows work [] []).fired
  pub alarm_is : (work : Work) (places : List ℕ) → Stands old work places → alarm
      ≡ (fire_all rows work [] []).alarm
  pub number_is : (work : Work) (places : List ℕ) → Stands old work places → number
      ≡ raised_by (fire_all rows work [] [])
  pub none_due : alarm ≡ None → due_now (waits_of new) ≡ 0

-- these fire in a tick, whatever the words stand for
abbrev pub FiresTick : Rows → List ℕ → List Task → Type 0
FiresTick rows old fired = (work : Work) (places : List ℕ) → Stands old work places → fired
    ≡ (tick_fires rows work).fired

-- the action of this number raises the alarm in a tick, if one comes
abbrev pub RaisesTick : Rows → List ℕ → ℕ → Type 0
RaisesTick rows old number = (work : Work) (places : List ℕ) → Stands old work places → number
    ≡ raised_by (tick_fires rows work)

-- the core sets after a tick
abbrev pub places_ticked : Rows → Work → List ℕ → List ℕ
places_ticked rows work places = places_fired rows (later_work work) places

-- a phase's job is established, if it has one
abbrev pub with_job : Option JobStart → Work → Work
with_job job work = record work { jobs = jobs_begun job work.jobs }

-- the core sets when a phase's job has come to the first free set
abbrev pub places_with_job : Option JobStart → Work → List ℕ → List ℕ
places_with_job job work places =
    option_map_or (λ job. (seated_new (started job work.jobs) places).places) job places

-- a phase's task is listed, if it has one
abbrev pub with_task : Option (ℕ × Task) → Work → Work
with_task task work = record work { agenda = agenda_begun task work.agenda }

-- the core sets after a group began
abbrev pub places_group : Option Begins → Work → List ℕ → List ℕ
places_group entry work places = places_begun entry work.jobs places

-- the six groups begin, in order, with these phases, where nobody lived and nothing waited
pub record BeginsGroups (plan : Planned) (phases : List ℕ) (old new : List ℕ) : Type 0 where
  pub sound : IsSound new
  pub same_length : length new ≡ length old
  pub same_base : base_of new ≡ base_of old
  pub same_due : SameDue old new
  pub stands : Stands new (begun_from plan.entries 1 phases (no_work plan.sets))
      (places_from plan.entries 1 phases (no_work plan.sets) (no_places plan.sets))

-- an era begins with the phases in the words: all jobs and tasks are gone but those of the plan's
-- entries
pub record BeginsEra (plan : Planned) (old new : List ℕ) : Type 0 where
  pub ready : IsReady new
  pub same_length : length new ≡ length old
  pub same_base : base_of new ≡ base_of old
  pub stands : Stands new (begun plan (base_of old).phases) (era_places plan (base_of old))

-- the phases and codes after this alarm, if one was raised: it adds its code
abbrev pub base_with : Option Alarm → Base → Base
base_with None base = base
base_with (Some alarm) base = with_code (code_of alarm) base

-- an era begins with the phases in the words, and the codes after this alarm
pub record BeginsAfter (plan : Planned) (alarm : Option Alarm) (old new : List ℕ) : Type 0 where
  pub ready : IsReady new
  pub same_length : length new ≡ length old
  pub base_is : base_of new ≡ base_with alarm (base_of old)
  pub stands : Stands new (begun plan (base_of new).phases) (era_places plan (base_of new))

-- after a request, and with its reply
pub record Steps (words : List ℕ) (reply : Reply) (stepped : Stepped) (places : List ℕ) : Type 0
  where
    pub state : StandsFor words stepped.plain places
    pub reply_is : reply ≡ stepped.reply

-- the effect of a request, before an era begins with it
pub record Acts (plan : Planned) (asked : Request) (old : List ℕ) (reply : Reply) (new : List ℕ)
    : Type 0 where
  pub sound : IsSound new
  pub same_length : length new ≡ length old
  pub steps : (plain : Plain) (places : List ℕ) → StandsFor old plain places
      → Steps new reply (acted plan asked plain) (places_acted plan asked plain places)

-- these tasks fire in a request, whatever the words stand for
abbrev pub FiresIn : Planned → Request → List ℕ → List Task → Type 0
FiresIn plan asked old fired = (plain : Plain) (places : List ℕ) → StandsFor old plain places
    → fired ≡ fired_in plan asked plain

-- the action of this number raises its alarm, if one comes inside a tick
abbrev pub RaisesIn : Planned → Request → List ℕ → ℕ → Type 0
RaisesIn plan asked old number = (plain : Plain) (places : List ℕ) → StandsFor old plain places
    → number ≡ raised_in plan asked plain

-- one step: what the request does, and the beginning of an era, if one begins with it
pub record StepsTo (plan : Planned) (asked : Request) (old : List ℕ) (reply : Reply) (new : List ℕ)
    : Type 0 where
  pub ready : IsReady new
  pub same_length : length new ≡ length old
  pub steps : (plain : Plain) (places : List ℕ) → StandsFor old plain places
      → Steps new reply (step plan asked plain) (places_after plan asked plain places)
