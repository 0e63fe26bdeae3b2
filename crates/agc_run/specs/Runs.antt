-- A run that is pulled: what is still to come of it, and to what end.
use Rattle.std.specs.Prelude.{◌≡◌, ℕ, ◌+◌, ◌-◌, ◌*◌, Bool, if◌then◌else◌, List, []}
use Rattle.std.specs.Prelude.{◌∷◌, ◌++◌, Option, Some, None, drop, map, replicate}
use Rattle.std.specs.List.{fold}
use Rattle.agc_plan.specs.declared.reply.Alarm.{Alarm}
use Rattle.agc_plan.specs.declared.request.Request.{Request}
use Rattle.agc_plan.specs.Jobs.{Jobs}
use Rattle.agc_machine.specs.Machines.{Machined, after, alarm_with, answer_of, plain_of}
use Rattle.agc_machine.specs.Moments.{Acting}
use Rattle.agc_clock.specs.declared.alarms.Alarms.{Alarms}
use Rattle.agc_clock.specs.declared.asked.Asked.{Asked}
use Rattle.agc_clock.specs.declared.asked.Source.{Source as TimeSource}
use Rattle.agc_clock.specs.declared.asked.Source.TheVariants as time
use Rattle.agc_clock.specs.Alarms.{came}
use Rattle.agc_clock.specs.Clocks.{Clocked, events_left, look_left}
use Rattle.agc_clock.specs.Counts.{kept}
use Rattle.agc_clock.specs.Elapsing.{computes, elapsed_between, none_elapsed}
use Rattle.agc_clock.specs.declared.elapsed.Elapsed.{Elapsed}
use Rattle.agc_clock.specs.Instants.{Instant, Works}
use Rattle.agc_clock.specs.Runs.{Standing, begins_with}
use Rattle.agc_clock.specs.Timetables.{Schedule}
use Rattle.agc_scenario.specs.Scenarios.{Timed, schedule_of}
use Rattle.agc_run.specs.declared.event.Event.{Event as Served}
use Rattle.agc_run.specs.Events.{Watching, event_of, watched}
use Rattle.agc_session.specs.Pieces.{Walked, is_in_time, rest}
use Rattle.agc_session.specs.declared.source.PendingRequest.{PendingRequest}
use Rattle.agc_session.specs.declared.source.Source.{Source}
use Rattle.agc_session.specs.declared.source.Source.TheVariants.{Clock, Event}
use Rattle.agc_run.specs.Going.{Going, lived_at, scenario_run, time_lived}

-- the source of a clock's request, and that request with it
abbrev pub source_in_time : TimeSource → Source
source_in_time time.Clock = Clock
source_in_time (time.Event event) = Event event

abbrev pub in_time : Asked → PendingRequest
in_time asked = record { source = source_in_time asked.source; request = asked.request }

-- the requests alone
abbrev pub requests_in : List PendingRequest → List Request
requests_in all = map (λ asked. asked.request) all

-- the requests that are still to come: those of a script or a bench and, if time passes, those of a
-- clock, given the alarms so far
pub record Pending : Type 0 where
  pub listed : Walked
  pub timing : Option Timed
  pub alarms : Alarms
  pub clock : Clocked

-- the requests that a scenario's clock makes of a machine, in order; and without their sources
unfoldable pub clock_asks : Timed → Machined → List PendingRequest
clock_asks timed machine = map in_time (scenario_run timed machine).at.asked

abbrev pub clock_requests : Timed → Machined → List Request
clock_requests timed machine = requests_in (clock_asks timed machine)

-- the instants that are left of a clock's centisecond
abbrev pub left_now : Schedule → Clocked → List Instant
left_now table clock =
    events_left clock.time clock.event clock.asked (drop clock.event table.events)
    ++ (look_left clock.looks ++ replicate clock.left Works)

-- where a run stands when its centisecond is over
abbrev pub now_lived : Timed → Alarms → Clocked → Machined → Going
now_lived timed alarms clock machine =
    let table = schedule_of timed alarms in
    let at : Standing Machined = record { asked = []; state = machine; counts = clock.counts } in
    fold (lived_at table.costs clock.time) (record { at = at; alarms = alarms })
    (left_now table clock)

-- the requests that a clock makes while the rest of the time passes
abbrev pub time_asks : Option Timed → Alarms → Clocked → Machined → List PendingRequest
time_asks None alarms clock machine = []
time_asks (Some timed) alarms clock machine = map in_time
    (time_lived timed (now_lived timed alarms clock machine) (clock.time + 1)
    (timed.seconds * 100 - clock.time)).at.asked

-- all that this machine is still to be asked for, in order, each request with who asks for it
unfoldable pub all_to_ask : Machined → Pending → List PendingRequest
all_to_ask m r =
    rest r.listed
    ++ time_asks r.timing r.alarms r.clock (fold after m (requests_in (rest r.listed)))

-- the requests alone
abbrev pub to_ask : Machined → Pending → List Request
to_ask m r = requests_in (all_to_ask m r)

-- a clock that was told whether an era began, and of the jobs, if it had asked
abbrev pub clock_after : Source → Bool → Jobs → Clocked → Clocked
clock_after source began jobs clock = if is_in_time source
    then record clock { counts = kept began jobs clock.counts } else clock

-- the alarms that came so far, after an answer at this time; only those of a clock's requests count
abbrev pub alarms_with : Source → Option Alarm → ℕ → Alarms → Alarms
alarms_with source alarm time alarms =
    if is_in_time source then came alarm time alarms else alarms

-- the pending requests after this machine has served one
abbrev pub asks_after : Machined → Pending → PendingRequest → Pending
asks_after m r asked = record r {
  alarms = alarms_with asked.source (alarm_with (answer_of m asked.request)) r.clock.time
      r.alarms;
  clock = clock_after asked.source (begins_with (answer_of m asked.request))
      (plain_of (after m asked.request)).work.jobs r.clock;
}

-- of what this machine is still to be asked for this comes first, and then the rest; or all was
-- asked
abbrev pub Pulls : Machined → Pending → Option PendingRequest → Pending → Type 0
Pulls m old (Some asked) new =
    all_to_ask m old ≡ asked ∷ all_to_ask (after m asked.request) (asks_after m new asked)
Pulls m old None new = all_to_ask m old ≡ []

-- the time that passed, with these jobs, from one request to the next; without a clock none is
-- known
abbrev pub elapsed_by : Option Timed → Jobs → Alarms → Clocked → Clocked → Elapsed
elapsed_by None jobs alarms old new = none_elapsed
elapsed_by (Some timed) jobs alarms old new =
    elapsed_between (computes (schedule_of timed alarms) jobs) old new

abbrev pub elapsed_in : Jobs → Pending → Pending → Elapsed
elapsed_in jobs old new = elapsed_by old.timing jobs old.alarms old.clock new.clock

-- a run: a machine, what its last request did before an era began with it, what it is still to be
-- asked for, and the time that passed last
pub record Running : Type 0 where
  pub machine : Machined
  pub snapshot : Acting
  pub pending : Pending
  pub elapsed : Elapsed

-- a run whose machine is watched
pub record WatchingRun : Type 0 where
  pub watching : Watching
  pub pending : Pending

-- the event of the next request, with its source; None once all have been made
abbrev pub Comes : WatchingRun → Option (Source × Served) → WatchingRun → Type 0
Comes old (Some came) new =
    (all_to_ask old.watching.machine old.pending
    ≡ record { source = came.0; request = came.1.request }
    ∷ all_to_ask new.watching.machine new.pending)
    × (came.1 ≡ event_of old.watching came.1.request)
    × (new.watching ≡ watched old.watching came.1.request)
Comes old None new =
    (all_to_ask old.watching.machine old.pending ≡ []) × (new.watching ≡ old.watching)
