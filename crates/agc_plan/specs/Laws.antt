-- Facts that a reader of the landing alarms wants to know, in words that know nothing of how the
-- model computes, except for the effect of one task that fires.
use Rattle.std.specs.Prelude.{◌≡◌, ◌⊎◌, ℕ, ◌<◌, ◌≤◌, zero, suc, true, false, List, [], ◌∷◌, ◌++◌}
use Rattle.std.specs.Prelude.{length, map, All, slice_index_or, Option, Some, None}
use Rattle.agc_plan.specs.declared.reply.Alarm.{Alarm}
use Rattle.agc_plan.specs.declared.reply.Alarm.TheVariants.{A1201, A1202, A1203}
use Rattle.agc_plan.specs.declared.request.Action.{Action}
use Rattle.agc_plan.specs.declared.request.Action.TheVariants as action
use Rattle.agc_plan.specs.declared.request.Request.{Request}
use Rattle.agc_plan.specs.declared.request.Request.TheVariants as request
use Rattle.agc_plan.specs.declared.request.Entry.{Entry}
use Rattle.agc_plan.specs.declared.request.JobStart.{JobStart}
use Rattle.agc_plan.specs.declared.request.JobStart.TheVariants.{Findvac}
use Rattle.agc_plan.specs.declared.request.Task.{Task}
use Rattle.agc_plan.specs.Jobs.{Job, Jobs, job_in}
use Rattle.agc_plan.specs.Tasks.{Pending, Agenda, first_due}
use Rattle.agc_plan.specs.Begins.{Begins}
use Rattle.agc_plan.specs.Plans.{Rows, actions_in}
use Rattle.agc_plan.specs.Eras.{Work}
use Rattle.agc_plan.specs.Steps.{Fires, done, all_done, dispatched_work}

-- this job lives and has this number; numbers begin with 1, and no two jobs have the same
abbrev pub Lives : List (Option Job) → ℕ → Job → Type 0
Lives slots number job = (1 ≤ number) × (job_in slots number ≡ Some job)

-- a job is alive and awake
abbrev pub LivesAwake : List (Option Job) → ℕ → Job → Type 0
LivesAwake slots number job = Lives slots number job × (job.asleep ≡ false)

-- somebody is awake
abbrev pub SomebodyIsAwake : List (Option Job) → Type 0
SomebodyIsAwake slots = (number : ℕ) × (job : Job) × LivesAwake slots number job

-- nobody is awake
abbrev pub NobodyIsAwake : List (Option Job) → Type 0
NobodyIsAwake slots = (number : ℕ) (job : Job) → Lives slots number job → job.asleep ≡ true

-- the job of this number is awake, no awake job has a greater priority, and none of the same
-- priority a lower number
pub record IsMostUrgent (slots : List (Option Job)) (number : ℕ) : Type 0 where
  pub job : Job
  pub awake : LivesAwake slots number job
  pub greatest : (other : ℕ) (rival : Job) → LivesAwake slots other rival
      → rival.priority ≤ job.priority
  pub lowest : (other : ℕ) (rival : Job) → LivesAwake slots other rival → rival.priority
      ≡ job.priority → number ≤ other

-- somebody has this number
abbrev pub IsUsed : List (Option Job) → ℕ → Type 0
IsUsed slots number = (job : Job) × Lives slots number job

-- there is this number, from 1 to as many as there are slots, nobody has it, and each lower number
-- is somebody's
pub record IsLeastUnused (slots : List (Option Job)) (number : ℕ) : Type 0 where
  pub low : 1 ≤ number
  pub high : number ≤ length slots
  pub unused : job_in slots number ≡ None
  pub lower : (other : ℕ) → 1 ≤ other → other < number → IsUsed slots other

-- each number is somebody's
abbrev pub IsEachUsed : List (Option Job) → Type 0
IsEachUsed slots = (number : ℕ) → 1 ≤ number → number ≤ length slots → IsUsed slots number

-- somebody owns this area
abbrev pub IsOwned : List (Option Job) → ℕ → Type 0
IsOwned slots area = (number : ℕ) × (job : Job) × Lives slots number job × (job.area ≡ area)

-- nobody owns it
abbrev pub IsUnowned : List (Option Job) → ℕ → Type 0
IsUnowned slots area = (number : ℕ) (job : Job) → Lives slots number job → job.area ≡ area → ⊥

-- there is this area, from 1 to 5, nobody owns it, and each lower area is owned
pub record IsLeastUnowned (slots : List (Option Job)) (area : ℕ) : Type 0 where
  pub low : 1 ≤ area
  pub high : area ≤ 5
  pub unowned : IsUnowned slots area
  pub lower : (other : ℕ) → 1 ≤ other → other < area → IsOwned slots other

-- each of the five areas is owned
abbrev pub IsEachOwned : List (Option Job) → Type 0
IsEachOwned slots = (area : ℕ) → 1 ≤ area → area ≤ 5 → IsOwned slots area

-- this job sleeps until this address is called
abbrev pub Sleeps : ℕ → List (Option Job) → ℕ → Job → Type 0
Sleeps at slots number job = Lives slots number job × (job.asleep ≡ true) × (job.at ≡ at)

-- the job of this number sleeps until this address is called, and no lower-numbered job does
pub record IsFirstSleeper (at : ℕ) (slots : List (Option Job)) (number : ℕ) : Type 0 where
  pub job : Job
  pub sleeps : Sleeps at slots number job
  pub lowest : (other : ℕ) (rival : Job) → Sleeps at slots other rival → number ≤ other

-- nobody sleeps until this address is called
abbrev pub NobodySleepsAt : ℕ → List (Option Job) → Type 0
NobodySleepsAt at slots = (number : ℕ) (job : Job) → Sleeps at slots number job → ⊥

-- how many jobs live
abbrev pub living : List (Option Job) → ℕ
living [] = 0
living (None ∷ slots) = living slots
living (Some job ∷ slots) = suc (living slots)

-- one of the five areas is nobody's
abbrev pub SomeAreaIsUnowned : List (Option Job) → Type 0
SomeAreaIsUnowned slots = (area : ℕ) × (1 ≤ area) × (area ≤ 5) × IsUnowned slots area

-- an action wants an area, and each of the five is owned
abbrev pub MissesArea : Action → Work → Type 0
MissesArea (action.Findvac priority entry) work = IsEachOwned work.jobs.slots
MissesArea other work = ⊥

-- an action wants a job, and as many are alive as there are numbers; if the job is to have an area,
-- one of the five is free
abbrev pub MissesNumber : Action → Work → Type 0
MissesNumber (action.Novac priority entry) work = living work.jobs.slots ≡ length work.jobs.slots
MissesNumber (action.Findvac priority entry) work = SomeAreaIsUnowned work.jobs.slots
    × (living work.jobs.slots ≡ length work.jobs.slots)
MissesNumber other work = ⊥

-- an action lists a task, and nine are waiting
abbrev pub MissesRoom : Action → Work → Type 0
MissesRoom (action.List delay task) work = length work.agenda.tasks ≡ 9
MissesRoom other work = ⊥

-- the shortage that an alarm reports, of an action and the work in which it is done
abbrev pub Misses : Alarm → Action → Work → Type 0
Misses A1201 act work = MissesArea act work
Misses A1202 act work = MissesNumber act work
Misses A1203 act work = MissesRoom act work

-- no alarm tells of it
abbrev pub MissesNothing : Action → Work → Type 0
MissesNothing act work = (alarm : Alarm) → Misses alarm act work → ⊥

-- the action that asks for what a request asks for: Nothing where no action does
abbrev pub as_action : Request → Action
as_action (request.Novac priority entry) = action.Novac priority entry
as_action (request.Findvac priority entry) = action.Findvac priority entry
as_action (request.Rouse at) = action.Rouse at
as_action (request.List delay task) = action.List delay task
as_action other = action.Nothing

-- these actions are done one after another, and none misses anything
abbrev pub NoneMisses : List Action → Work → Type 0
NoneMisses [] work = Unit {0}
NoneMisses (act ∷ acts) work = MissesNothing act work × NoneMisses acts (done act work).work

-- the action with this number, counted from 0, misses what this alarm reports, and those before it
-- miss nothing
abbrev pub StopsAt : ℕ → Alarm → List Action → Work → Type 0
StopsAt number alarm [] work = ⊥
StopsAt zero alarm (act ∷ acts) work = Misses alarm act work
StopsAt (suc number) alarm (act ∷ acts) work =
    MissesNothing act work × StopsAt number alarm acts (done act work).work

-- these tasks fire one after another, each the first that is due, taken out before its actions are
-- done: none of these misses anything, or the task is the last and this alarm tells what one of
-- them misses; where none misses anything, there is none
abbrev pub EndsByLast : Rows → Work → List Task → Option Alarm → Type 0
EndsByLast rows work [] told = told ≡ None
EndsByLast rows work (task ∷ tasks) told =
    let acts = actions_in rows task in
    let here = dispatched_work work in
    (first_due work.agenda.time work.agenda.tasks ≡ Some task)
    × ((NoneMisses acts here × EndsByLast rows (all_done acts here).work tasks told)
    ⊎ ((tasks ≡ []) × ((alarm : Alarm) × (number : ℕ) × (told ≡ Some alarm)
    × StopsAt number alarm acts here)))

-- how many of these list a task
abbrev pub listings : List Action → ℕ
listings [] = 0
listings (action.List delay task ∷ acts) = suc (listings acts)
listings (other ∷ acts) = listings acts

-- each task lists one task at most
abbrev pub ListsOne : Rows → Type 0
ListsOne rows = All (λ row. listings row.1 ≤ 1) rows

-- the running job lives and is awake
abbrev pub IsRunnerAwake : Jobs → Type 0
IsRunnerAwake jobs = (number : ℕ) → jobs.running ≡ Some number → (job : Job)
    × LivesAwake jobs.slots number job

-- no area is owned by two jobs; area 0 is none
abbrev pub IsNoAreaShared : List (Option Job) → Type 0
IsNoAreaShared slots =
    (first second : ℕ) (job other : Job) → Lives slots first job → Lives slots second other
    → 1 ≤ job.area → job.area ≡ other.area → first ≡ second

-- a job's area is one of the five, or 0 for none
abbrev pub IsEachAreaKnown : List (Option Job) → Type 0
IsEachAreaKnown slots = (number : ℕ) (job : Job) → Lives slots number job → job.area ≤ 5

-- no awake job is strictly more urgent than the one that runs
abbrev pub IsUnrivalled : Jobs → Type 0
IsUnrivalled jobs =
    (number : ℕ) (job : Job) → jobs.running ≡ Some number → Lives jobs.slots number job
    → (other : ℕ) (rival : Job) → LivesAwake jobs.slots other rival
    → rival.priority ≤ job.priority

-- nothing is due: each task that waits is due later than now
abbrev pub IsNothingDue : Agenda → Type 0
IsNothingDue agenda = All (λ p. agenda.time < p.due) agenda.tasks

-- the task that an action lists is due later than now, since the shortest delay is 1
abbrev pub IsActionDelayed : Action → Type 0
IsActionDelayed (action.List delay task) = 1 ≤ delay
IsActionDelayed other = Unit {0}

-- the task that an entry lists is due later than now
abbrev pub IsListingDelayed : Option (ℕ × Task) → Type 0
IsListingDelayed None = Unit {0}
IsListingDelayed (Some listing) = 1 ≤ listing.0

-- the task that a request lists is due later than now
abbrev pub IsRequestDelayed : Request → Type 0
IsRequestDelayed (request.List delay task) = 1 ≤ delay
IsRequestDelayed other = Unit {0}

-- all tasks that the actions of these rows list are due later than now
abbrev pub AreActionsDelayed : Rows → Type 0
AreActionsDelayed rows = All (λ row. All IsActionDelayed row.1) rows

-- all tasks that these entries list are due later than now
abbrev pub AreListingsDelayed : List Begins → Type 0
AreListingsDelayed entries = All (λ e. IsListingDelayed e.task) entries

-- the first of these tasks fired, in this order, and all of them unless an alarm came
abbrev pub FiresThese : List Pending → Fires → Type 0
FiresThese due fires = (rest : List Task) × (fires.fired ++ rest ≡ map (λ p. p.task) due)
    × (fires.alarm ≡ None → rest ≡ [])

-- these are one task: the same address and bank
abbrev pub IsOneTask : Task → Task → Type 0
IsOneTask a b = (a.at ≡ b.at) × (a.bank ≡ b.bank)

-- the rows at two places are of one task
pub record HasTwoRows (rows : Rows) : Type 0 where
  pub first : ℕ
  pub second : ℕ
  pub before : first < second
  pub within : second < length rows
  pub same : (d : Task × List Action)
      → IsOneTask (slice_index_or rows first d).0 (slice_index_or rows second d).0

-- these are of one group and phase
abbrev pub IsOnePhase : Begins → Begins → Type 0
IsOnePhase a b = (a.group ≡ b.group) × (a.phase ≡ b.phase)

-- the entries at two places are of one group and phase
pub record HasTwoEntries (entries : List Begins) : Type 0 where
  pub first : ℕ
  pub second : ℕ
  pub before : first < second
  pub within : second < length entries
  pub same : (d : Begins)
      → IsOnePhase (slice_index_or entries first d) (slice_index_or entries second d)

-- a FINDVAC job
abbrev pub IsWithArea : Option JobStart → Type 0
IsWithArea job = (priority : ℕ) × (entry : Entry) × (job ≡ Some (Findvac priority entry))

-- an entry of this group has a FINDVAC job
pub record HasArea (entries : List Begins) (group : ℕ) : Type 0 where
  pub place : ℕ
  pub within : place < length entries
  pub its : (d : Begins) → (slice_index_or entries place d).group ≡ group
  pub with_area : (d : Begins) → IsWithArea (slice_index_or entries place d).job

-- each of the six groups has one
abbrev pub HasEachArea : List Begins → Type 0
HasEachArea entries = (group : ℕ) → 1 ≤ group → group ≤ 6 → HasArea entries group
