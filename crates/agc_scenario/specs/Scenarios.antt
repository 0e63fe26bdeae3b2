-- A scenario: its values, their ranges and their texts.
use Rattle.std.specs.Prelude.{◌≡◌, ℕ, ◌+◌, ◌-◌, ◌*◌, max, min, ◌&&◌, Bool, true, is_some, List, []}
use Rattle.std.specs.Prelude.{◌∷◌, ◌++◌, length, map, take, slice_get, Option, Some, None}
use Rattle.std.specs.Prelude.{unwrap_or, if◌then◌else◌}
use Rattle.std.specs.Option.{option_and_then, option_map}
use Rattle.std.specs.List.{AllByRecursion, list_all, range_with_len}
use Rattle.agc_plan.specs.declared.reply.Alarm.{Alarm}
use Rattle.agc_plan.specs.declared.request.Request.{Request}
use Rattle.agc_plan.specs.declared.request.Request.TheVariants.{EndOfJob, Sleep}
use Rattle.agc_plan.specs.Ranges.{IsAddress, IsRequest}
use Rattle.agc_plan.specs.Plans.{fault_of}
use Rattle.agc_text.specs.Numbers.{octal}
use Rattle.agc_text.specs.Lines.{line_of}
use Rattle.agc_document.specs.Kinds.{is_name}
use Rattle.agc_document.specs.Benches as bench
use Rattle.agc_document.specs.Benches.{Benched, IsBench, bench_texts}
use Rattle.agc_clock.specs.declared.alarms.Alarms.{Alarms}
use Rattle.agc_clock.specs.declared.times.TheConstants.{LAST_TIME}
use Rattle.agc_clock.specs.Alarms.{first_came, times_after}
use Rattle.agc_clock.specs.Coming.{Coming}
use Rattle.agc_clock.specs.Events.{Event}
use Rattle.agc_clock.specs.Timetables.{Schedule, step_of}
use Rattle.agc_clock.specs.declared.timetable.Cost.{Cost}
use Rattle.agc_clock.specs.declared.timetable.Step.{Step}
use Rattle.agc_clock.specs.declared.timetable.Stolen.{Stolen}
use Rattle.agc_clock.specs.declared.timetable.Then.{Then}
use Rattle.agc_clock.specs.declared.timetable.Then.TheVariants as then
use Rattle.agc_scenario.specs.declared.timing.EventBase.{EventBase}
use Rattle.agc_scenario.specs.declared.timing.CostRange.{CostRange}
use Rattle.agc_scenario.specs.Texts.{JobTexts, EventTexts, TimingTexts, ScenarioTexts}
use Rattle.agc_scenario.specs.Texts.{alarm_called, is_named}

-- a job at an address: the least and the most that it costs, in centiseconds of computing; its
-- deadline in centiseconds, if it has one; its requests when its cost is used up; and its name
pub record TimedJob : Type 0 where
  pub at : ℕ
  pub cost : CostRange
  pub deadline : Option ℕ
  pub requests : List Request
  pub name : Option (List ℕ)

-- an event: how long after what it counts from it first comes, the name of the event or alarm from
-- whose first it counts, what that is, what it asks for, after how many centiseconds it comes
-- again, how long after what it counts from it may last do so, and its name
pub record TimedEvent : Type 0 where
  pub at : ℕ
  pub after : Option (List ℕ)
  pub base : EventBase
  pub requests : List Request
  pub every : Option ℕ
  pub until : Option ℕ
  pub name : Option (List ℕ)

-- how time passes: the seconds that a scenario lasts, its title, the seed of its lots, the rows of
-- stolen time, what jobs cost, and the events
pub record Timed : Type 0 where
  pub seconds : ℕ
  pub title : Option (List ℕ)
  pub seed : Option ℕ
  pub stolen : List Stolen
  pub jobs : List TimedJob
  pub events : List TimedEvent

-- the values of a scenario: a bench that asks for nothing by itself, the names of its rows and
-- entries, and how time passes
pub record Scenarioed : Type 0 where
  pub bench : Benched
  pub row_names : List (Option (List ℕ))
  pub entry_names : List (Option (List ℕ))
  pub timing : Timed

-- when an event comes, of a scenario that lasts this many centiseconds: once, or again and again,
-- to its last time or the scenario's
abbrev pub comes_by : ℕ → Option ℕ → Option ℕ → ℕ → Coming
comes_by at None until lasts = record { at = at; every = 1; until = at }
comes_by at (Some every) None lasts = record { at = at; every = every; until = lasts }
comes_by at (Some every) (Some until) lasts = record { at = at; every = every; until = until }

-- the centisecond that is so long after another, or the first after a day, if it is later
abbrev pub later : ℕ → ℕ → ℕ
later from long = min (from + long) (LAST_TIME + 1)

-- an event that counts from an alarm comes at least a centisecond after it
abbrev pub not_at_once : Option Alarm → ℕ → ℕ
not_at_once None first = first
not_at_once (Some alarm) first = max 1 first

-- the first centisecond of an event, and the last at which it may come again: since the start, or
-- since the alarm from whose first it counts
abbrev pub first_of : TimedEvent → ℕ
first_of e = not_at_once e.base.alarm (later e.base.from e.at)

abbrev pub last_time_of : TimedEvent → Option ℕ
last_time_of e = option_map (later e.base.from) e.until

-- from what an event counts that names this: from the first of these events that has the name, or
-- else from the alarm that it calls
abbrev pub first_called : List ℕ → List TimedEvent → EventBase
first_called name [] = record { alarm = alarm_called name; from = 0 }
first_called name (e ∷ es) =
    if is_named name e.name then record { alarm = e.base.alarm; from = first_of e }
    else first_called name es

-- from what an event counts: the start, or what it names, below these events
abbrev pub base_of : List TimedEvent → Option (List ℕ) → EventBase
base_of above None = record { alarm = None; from = 0 }
base_of above (Some name) = first_called name above

abbrev pub with_base : List TimedEvent → TimedEvent → TimedEvent
with_base above e = record e { base = base_of above e.after }

-- events, each with what it counts from; those above are counted
abbrev pub with_bases : List TimedEvent → List TimedEvent → List TimedEvent
with_bases above [] = []
with_bases above (e ∷ es) = with_base above e ∷ with_bases (above ++ with_base above e ∷ []) es

-- when an event comes that counts from the start, or from an alarm, where these came so far
abbrev pub counted_by : Alarms → Option Alarm → Coming → Coming
counted_by alarms None times = times
counted_by alarms (Some alarm) times = times_after (first_came alarm alarms) times

-- an event of a scenario that lasts this many centiseconds
abbrev pub event_of : ℕ → Alarms → TimedEvent → Event
event_of lasts alarms e = record {
  times = counted_by alarms e.base.alarm (comes_by (first_of e) e.every (last_time_of e) lasts);
  requests = e.requests;
}

-- how a job leaves by this request, if it does
abbrev pub then_of : Request → Option Then
then_of EndOfJob = Some then.End
then_of (Sleep at) = Some (then.Sleep at)
then_of _ = None

-- the last of these requests
abbrev pub last_of : List Request → Option Request
last_of requests = slice_get requests (length requests - 1)

-- the step of this number, from 0, among these requests
abbrev pub step_in : List Request → ℕ → Option Step
step_in requests number = option_and_then step_of (slice_get requests number)

-- how a job leaves that asks for these requests
abbrev pub leaves_by : List Request → Then
leaves_by requests = unwrap_or (option_and_then then_of (last_of requests)) then.End

-- a job's cost in hundredths of a centisecond: the most, which a draw may reduce
abbrev pub cost_of : TimedJob → Cost
cost_of j = record {
  at = j.at;
  hundredths = j.cost.to * 100;
  spread = (j.cost.to - j.cost.from) * 100;
  steps = map (step_in j.requests) (range_with_len 0 7);
  then = leaves_by j.requests;
}

-- the seed of a clock: with 0, where a scenario has none, nothing is drawn
abbrev pub seed_of : Timed → ℕ
seed_of t = unwrap_or t.seed 0

-- the schedule of a clock, given the alarms so far
abbrev pub schedule_of : Timed → Alarms → Schedule
schedule_of t alarms =
    record {
      lasts = t.seconds * 100;
      stolen = t.stolen;
      costs = map cost_of t.jobs;
      events = map (event_of (t.seconds * 100) alarms) t.events;
    }

-- the texts of what a job costs
abbrev pub job_texts : TimedJob → JobTexts
job_texts j =
    record {
      at = octal 5 j.at;
      cost = j.cost;
      deadline = j.deadline;
      requests = map line_of j.requests;
      name = j.name;
    }

-- the texts of an event
abbrev pub event_texts : TimedEvent → EventTexts
event_texts e =
    record {
      at = e.at;
      after = e.after;
      requests = map line_of e.requests;
      every = e.every;
      until = e.until;
      name = e.name;
    }

-- the texts of how time passes
abbrev pub timing_texts : Timed → TimingTexts
timing_texts t =
    record {
      seconds = t.seconds;
      title = t.title;
      seed = t.seed;
      stolen = t.stolen;
      jobs = map job_texts t.jobs;
      events = map event_texts t.events;
    }

-- the numbers and texts of a scenario
abbrev pub scenario_texts : Scenarioed → ScenarioTexts
scenario_texts s =
    record {
      bench = bench_texts s.bench;
      row_names = s.row_names;
      entry_names = s.entry_names;
      timing = timing_texts s.timing;
    }

-- whether a name can be shown, if it is there
abbrev pub can_be_shown : Option (List ℕ) → Bool
can_be_shown None = true
can_be_shown (Some name) = is_name name

-- whether a request is a step, and whether a job leaves by the last of some
abbrev pub is_step : Request → Bool
is_step request = is_some (step_of request)

abbrev pub leaves_at_last : List Request → Bool
leaves_at_last requests = is_some (option_and_then then_of (last_of requests))

-- whether a job can ask for these requests: for steps, and at last to end or to sleep
abbrev pub are_job_requests : List Request → Bool
are_job_requests requests =
    list_all is_step (take (length requests - 1) requests) && leaves_at_last requests

-- the ranges of what a job costs
pub record IsTimedJob (j : TimedJob) : Type 0 where
  pub at : IsAddress j.at
  pub requests : AllByRecursion IsRequest j.requests
  pub asked : are_job_requests j.requests ≡ true
  pub name : can_be_shown j.name ≡ true

-- the ranges of an event
pub record IsTimedEvent (e : TimedEvent) : Type 0 where
  pub requests : AllByRecursion IsRequest e.requests
  pub after : can_be_shown e.after ≡ true
  pub name : can_be_shown e.name ≡ true

-- the ranges of how time passes, in which each event counts from what it names
pub record IsTimed (t : Timed) : Type 0 where
  pub title : can_be_shown t.title ≡ true
  pub bases : with_bases [] t.events ≡ t.events
  pub jobs : AllByRecursion IsTimedJob t.jobs
  pub events : AllByRecursion IsTimedEvent t.events

-- the ranges of a scenario
pub record IsInRange (s : Scenarioed) : Type 0 where
  pub bench : bench.IsInRange s.bench
  pub row_names : list_all can_be_shown s.row_names ≡ true
  pub entry_names : list_all can_be_shown s.entry_names ≡ true
  pub timing : IsTimed s.timing

-- a scenario: in its ranges, and with rows and entries that make a plan
pub record IsScenario (s : Scenarioed) : Type 0 where
  pub in_range : IsInRange s
  pub planned : fault_of s.bench.rows s.bench.entries ≡ None
