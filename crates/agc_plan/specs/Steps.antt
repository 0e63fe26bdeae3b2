-- The plain state, an action, a tick, a step, and what a log of requests reaches.
use Rattle.std.specs.Prelude.{ℕ, zero, suc, Bool, true, false, if◌then◌else◌, List, [], ◌∷◌, ◌++◌}
use Rattle.std.specs.Prelude.{Option, Some, None, length, slice_index_or, ◌-◌}
use Rattle.std.specs.List.{fold}
use Rattle.std.specs.Option.{is_some, option_map_or}
use Rattle.agc_plan.specs.declared.reply.Alarm.{Alarm}
use Rattle.agc_plan.specs.declared.reply.Alarm.TheVariants.{A1201, A1202, A1203}
use Rattle.agc_plan.specs.declared.reply.Code.{Code}
use Rattle.agc_plan.specs.declared.reply.Code.TheVariants.{C1201, C1202, C1203}
use Rattle.agc_plan.specs.declared.reply.Reply.{Reply}
use Rattle.agc_plan.specs.declared.reply.Reply.TheVariants.{Listed, Alarmed, Ticked, Phased}
use Rattle.agc_plan.specs.declared.reply.Reply.TheVariants.{Restarted}
use Rattle.agc_plan.specs.declared.request.Action.{Action}
use Rattle.agc_plan.specs.declared.request.Action.TheVariants as action
use Rattle.agc_plan.specs.declared.request.Request.{Request}
use Rattle.agc_plan.specs.declared.request.Request.TheVariants as request
use Rattle.agc_plan.specs.declared.request.Task.{Task}
use Rattle.agc_plan.specs.Jobs.{Outcome, novac, findvac, end_of_job, sleep, rouse, prio, change}
use Rattle.agc_plan.specs.Jobs.{store}
use Rattle.agc_plan.specs.Tasks.{has_room, listed_if_room, later, dispatched, first_due, count_due}
use Rattle.agc_plan.specs.Base.{Base, fresh_base, with_phase, with_code}
use Rattle.agc_plan.specs.Plans.{Planned, Rows, actions_in}
use Rattle.agc_plan.specs.Eras.{Work, no_work, actions_from}

-- the plain state: jobs, tasks and time, phases and codes
pub record Plain : Type 0 where
  pub work : Work
  pub base : Base

-- the jobs and tasks after a request, and its reply
pub record Acted : Type 0 where
  pub work : Work
  pub reply : Reply

-- whether a centisecond passes
abbrev pub is_tick : Request → Bool
is_tick request.Tick = true
is_tick asked = false

-- the outcome of a call on the jobs
abbrev pub with_jobs : Outcome → Work → Acted
with_jobs outcome work = record { work = record work { jobs = outcome.jobs }; reply = outcome.reply }

-- a task is listed: 1203 where nine wait
abbrev pub with_listed : ℕ → Task → Work → Acted
with_listed delay task work =
    record { work = record work { agenda = listed_if_room delay task work.agenda }; reply = if has_room work.agenda then Listed else Alarmed A1203 }

-- the alarm that a reply tells, if any
abbrev pub alarm_of : Reply → Option Alarm
alarm_of (Alarmed alarm) = Some alarm
alarm_of (Ticked alarm) = alarm
alarm_of reply = None

-- the jobs and tasks after an action, and its alarm
pub record Did : Type 0 where
  pub work : Work
  pub alarm : Option Alarm

-- of the reply to an action, the alarm alone matters
abbrev pub did_of : Acted → Did
did_of acted = record { work = acted.work; alarm = alarm_of acted.reply }

-- an action of the plan is done
abbrev pub done : Action → Work → Did
done action.Nothing work = record { work = work; alarm = None }
done (action.Novac priority entry) work = did_of (with_jobs (novac priority entry work.jobs) work)
done (action.Findvac priority entry) work = did_of (with_jobs (findvac priority entry work.jobs) work)
done (action.Rouse at) work = did_of (with_jobs (rouse at work.jobs) work)
done (action.List delay task) work = did_of (with_listed delay task work)

-- actions are done, in order, up to the first that raises an alarm
abbrev pub all_done : List Action → Work → Did
all_done [] work = record { work = work; alarm = None }
all_done (act ∷ acts) work =
    if is_some (done act work).alarm then done act work else all_done acts (done act work).work

-- the actions that are done, up to the first that raises an alarm
abbrev pub those_done : List Action → Work → List Action
those_done [] work = []
those_done (act ∷ acts) work =
    act ∷ (if is_some (done act work).alarm then [] else those_done acts (done act work).work)

-- the jobs and tasks with which an era begins
abbrev pub begun : Planned → List ℕ → Work
begun plan phases =
    let actions : List Action = actions_from plan.entries 1 phases in
    fold (λ work act. (done act work).work) (no_work plan.sets) actions

-- with this base an era begins
abbrev pub era : Planned → Base → Plain
era plan base = record { work = begun plan base.phases; base = base }

-- the outcome of firing: the work it leaves, the tasks that fired, the actions that were done for
-- each, and the alarm that ended it, if one did
pub record Fires : Type 0 where
  pub work : Work
  pub fired : List Task
  pub acts : List (List Action)
  pub alarm : Option Alarm

-- the first task that is due is taken out
abbrev pub dispatched_work : Work → Work
dispatched_work work = record work { agenda = dispatched work.agenda }

-- how it goes on, with these tasks and actions so far
abbrev pub Again : Type 0
Again = Work → List Task → List (List Action) → Fires

-- on with it, unless there was an alarm
abbrev pub unless_alarm : Option Alarm → Work → List Task → List (List Action) → Again → Fires
unless_alarm None work fired acts again = again work fired acts
unless_alarm (Some alarm) work fired acts again =
    record { work = work; fired = fired; acts = acts; alarm = Some alarm }

-- this task fires, if there is one: it is counted and its actions are done, and then it goes on
abbrev pub fire_first : Option Task → Rows → Work → List Task → List (List Action) → Again → Fires
fire_first None rows work fired acts again =
    record { work = work; fired = fired; acts = acts; alarm = None }
fire_first (Some task) rows work fired acts again =
    let its = actions_in rows task in
    let here = dispatched_work work in
    let did = all_done its here in
    unless_alarm did.alarm did.work (fired ++ task ∷ []) (acts ++ those_done its here ∷ []) again

-- fires at most this many times: each time, of the tasks that are due, the earliest arrival
abbrev pub fire : ℕ → Rows → Work → List Task → List (List Action) → Fires
fire zero rows work fired acts = record { work = work; fired = fired; acts = acts; alarm = None }
fire (suc more) rows work fired acts =
    fire_first (first_due work.agenda.time work.agenda.tasks) rows work fired acts (fire more rows)

-- while a task is due: as many times as tasks are due, since what is listed meanwhile is due later
abbrev pub fire_all : Rows → Work → List Task → List (List Action) → Fires
fire_all rows work fired acts =
    fire (count_due work.agenda.time work.agenda.tasks) rows work fired acts

-- a centisecond later
abbrev pub later_work : Work → Work
later_work work = record work { agenda = later work.agenda }

-- the outcome of firing in a tick
abbrev pub tick_fires : Rows → Work → Fires
tick_fires rows work = fire_all rows (later_work work) [] []

-- a tick: a centisecond passes, and all that is due fires
abbrev pub ticked : Rows → Work → Acted
ticked rows work =
    let fires = tick_fires rows work in
    record { work = fires.work; reply = Ticked fires.alarm }

-- the plain state after a request, and its reply
pub record Stepped : Type 0 where
  pub plain : Plain
  pub reply : Reply

-- phases and codes stay
abbrev pub with_work : Acted → Plain → Stepped
with_work acted plain = record { plain = record plain { work = acted.work }; reply = acted.reply }

-- the effect of a request, before an era begins with it
abbrev pub acted : Planned → Request → Plain → Stepped
acted plan (request.Novac priority entry) plain = with_work (with_jobs (novac priority entry plain.work.jobs) plain.work) plain
acted plan (request.Findvac priority entry) plain = with_work (with_jobs (findvac priority entry plain.work.jobs) plain.work) plain
acted plan request.EndOfJob plain = with_work (with_jobs (end_of_job plain.work.jobs) plain.work) plain
acted plan (request.Sleep at) plain = with_work (with_jobs (sleep at plain.work.jobs) plain.work) plain
acted plan (request.Rouse at) plain = with_work (with_jobs (rouse at plain.work.jobs) plain.work) plain
acted plan (request.Prio priority) plain = with_work (with_jobs (prio priority plain.work.jobs) plain.work) plain
acted plan request.Change plain = with_work (with_jobs (change plain.work.jobs) plain.work) plain
acted plan (request.Store place word) plain = with_work (with_jobs (store place word plain.work.jobs) plain.work) plain
acted plan (request.List delay task) plain = with_work (with_listed delay task plain.work) plain
acted plan request.Tick plain = with_work (ticked plan.rows plain.work) plain
acted plan (request.SetPhase group phase) plain = record { plain = record plain { base = with_phase group phase plain.base }; reply = Phased }
acted plan request.Restart plain = record { plain = plain; reply = Restarted }
acted plan request.Fresh plain = record { plain = record plain { base = fresh_base }; reply = Restarted }

-- the tasks that fire in a request, in order: none but in a tick
abbrev pub fired_in : Planned → Request → Plain → List Task
fired_in plan request.Tick plain = (tick_fires plan.rows plain.work).fired
fired_in plan asked plain = []

-- in a tick that an alarm ended: which action of the task that fired last raised it, from 1; else 0
abbrev pub raised_by : Fires → ℕ
raised_by fires =
    if is_some fires.alarm then length (slice_index_or fires.acts (length fires.acts - 1) []) else 0

abbrev pub raised_in : Planned → Request → Plain → ℕ
raised_in plan request.Tick plain = raised_by (tick_fires plan.rows plain.work)
raised_in plan asked plain = 0

-- an alarm's code
abbrev pub code_of : Alarm → Code
code_of A1201 = C1201
code_of A1202 = C1202
code_of A1203 = C1203

-- whether an era begins with this reply: with every alarm, restart and fresh start
abbrev pub begins : Reply → Bool
begins Restarted = true
begins reply = is_some (alarm_of reply)

-- the phases and codes after this reply: an alarm adds its code
abbrev pub base_after : Reply → Base → Base
base_after reply base = option_map_or (λ alarm. with_code (code_of alarm) base) (alarm_of reply) base

-- where an era begins, jobs and tasks start over
abbrev pub ended : Planned → Stepped → Plain
ended plan did = if begins did.reply then era plan (base_after did.reply did.plain.base) else did.plain

-- one request
abbrev pub step : Planned → Request → Plain → Stepped
step plan asked plain =
    let did = acted plan asked plain in
    record { plain = ended plan did; reply = did.reply }

-- the state after a log, from the beginning of an era on
abbrev pub reached : Planned → Base → List Request → Plain
reached plan base log = fold (λ plain asked. (step plan asked plain).plain) (era plan base) log
