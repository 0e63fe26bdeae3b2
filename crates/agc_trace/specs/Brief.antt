-- Quiet requests: those after which nothing changed but the time.
use Rattle.std.specs.Prelude.{ℕ, ◌+◌, ◌==◌, ◌&&◌, Bool, false, if◌then◌else◌, List, length}
use Rattle.std.specs.Prelude.{Option, Some, None, Result, Ok, Err}
use Rattle.std.specs.List.{list_any}
use Rattle.agc_exec.specs.declared.seats.Seat.{Seat}
use Rattle.agc_plan.specs.declared.request.Request.{Request}
use Rattle.agc_plan.specs.declared.request.Request.TheVariants as request
use Rattle.agc_plan.specs.declared.request.Task.{Task}
use Rattle.agc_plan.specs.declared.reply.Alarm.{Alarm}
use Rattle.agc_plan.specs.declared.reply.Reply.{Reply}
use Rattle.agc_plan.specs.declared.reply.Reply.TheVariants as reply
use Rattle.agc_plan.specs.Steps.{Plain}
use Rattle.agc_machine.specs.declared.answer.Refusal.{Refusal}
use Rattle.agc_machine.specs.declared.answer.Refusal.TheVariants as refusal
use Rattle.agc_run.specs.declared.event.Event.{Event}
use Rattle.agc_run.specs.Scenes.{Scene}
use Rattle.agc_trace.specs.declared.brief.Quiet.{Quiet}
use Rattle.agc_trace.specs.declared.brief.Quiet.TheVariants.{Tick, NoSleeper, NoJob, Change, Prio}
use Rattle.agc_trace.specs.declared.brief.Quiet.TheVariants.{Spent, LogFull}

-- a tick without an alarm, in which nothing fired
abbrev pub quiet_tick : Option Alarm → List Task → Option Quiet
quiet_tick (Some alarm) fired = None
quiet_tick None fired = if length fired == 0 then Some Tick else None

-- whether the job of this number runs
abbrev pub is_running : Scene → ℕ → Bool
is_running scene number = elim scene.running [ None ↦ false | Some runner ↦ runner == number ]

-- whether the job in a core set has this number and priority
abbrev pub is_of_priority : ℕ → ℕ → Option Seat → Bool
is_of_priority number priority None = false
is_of_priority number priority (Some seat) = (seat.number == number) && (seat.priority == priority)

abbrev pub has_priority : List (Option Seat) → ℕ → ℕ → Bool
has_priority seats number priority = list_any (is_of_priority number priority) seats

-- a change of job, or to the priority that it had, after which the job runs that ran
abbrev pub quiet_if_runs : Scene → Request → ℕ → Option Quiet
quiet_if_runs before request.Change number = Some Change
quiet_if_runs before (request.Prio priority) number =
    if has_priority before.seats number priority then Some Prio else None
quiet_if_runs before asked number = None

abbrev pub quiet_run : Scene → Request → ℕ → Option Quiet
quiet_run before asked number =
    if is_running before number then quiet_if_runs before asked number else None

-- how a reply tells that nothing changed but the time, if it does
abbrev pub quiet_reply : Scene → Request → Reply → List Task → Option Quiet
quiet_reply before asked (reply.Ticked alarm) fired = quiet_tick alarm fired
quiet_reply before asked (reply.Runs number) fired = quiet_run before asked number
quiet_reply before asked reply.NoSleeper fired = Some NoSleeper
quiet_reply before asked reply.NoJob fired = Some NoJob
quiet_reply before asked other fired = None

-- whether an answer is quiet; a refusal always is
abbrev pub quiet_answer : Scene → Request → Result Reply Refusal → List Task → Option Quiet
quiet_answer before asked (Err refusal.Spent) fired = Some Spent
quiet_answer before asked (Err refusal.LogFull) fired = Some LogFull
quiet_answer before asked (Ok reply) fired = quiet_reply before asked reply fired

-- whether an event is quiet, given the scene before it
abbrev pub quiet_of : Scene → Event → Option Quiet
quiet_of before event = quiet_answer before event.request event.answer event.fired

-- how many centiseconds pass with such a request
abbrev pub time_of : Quiet → ℕ
time_of Tick = 1
time_of quiet = 0

-- a state this many centiseconds later, with nothing else changed: tasks are due when they were
abbrev pub later_by : ℕ → Plain → Plain
later_by count plain =
    let agenda = plain.work.agenda in
    record plain {
      work = record plain.work { agenda = record agenda { time = agenda.time + count } };
    }
