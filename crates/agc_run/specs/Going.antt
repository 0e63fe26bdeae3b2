-- A scenario that runs on a machine, centisecond by centisecond: each passes by the timetable as
-- the alarms before it have it.
use Rattle.std.specs.Prelude.{ℕ, List, Option, Some, None}
use Rattle.std.specs.List.{fold, range_with_len}
use Rattle.agc_machine.specs.Machines.{Machined, alarm_with, answer_of}
use Rattle.agc_clock.specs.declared.alarms.Alarms.{Alarms}
use Rattle.agc_clock.specs.declared.asked.Asked.{Asked}
use Rattle.agc_clock.specs.declared.timetable.Cost.{Cost}
use Rattle.agc_clock.specs.Alarms.{came, none_came}
use Rattle.agc_clock.specs.Counts.{passed}
use Rattle.agc_clock.specs.Instants.{Instant, centisecond, events_at}
use Rattle.agc_clock.specs.Runs.{Standing, by_machine, lived, standing_at}
use Rattle.agc_scenario.specs.Scenarios.{Timed, schedule_of, seed_of}

-- where a run stands, and when the first alarm of each code came so far
pub record Going : Type 0 where
  pub at : Standing Machined
  pub alarms : Alarms

-- the alarms when a machine was asked for this at a time, if it was asked for anything
abbrev pub alarms_after : ℕ → Machined → Option Asked → Alarms → Alarms
alarms_after time m None alarms = alarms
alarms_after time m (Some asked) alarms = came (alarm_with (answer_of m asked.request)) time alarms

-- an instant of a centisecond
abbrev pub lived_at : List Cost → ℕ → Going → Instant → Going
lived_at costs time run instant =
    let did = passed costs (by_machine.jobs run.at.state) instant run.at.counts in
    record {
      at = lived by_machine costs run.at instant;
      alarms = alarms_after time run.at.state did.asked run.alarms;
    }

-- a whole centisecond
abbrev pub centisecond_lived : Timed → Going → ℕ → Going
centisecond_lived timed run time =
    let table = schedule_of timed run.alarms in
    fold (lived_at table.costs time) run (centisecond table time)

-- a run after `more` centiseconds, from `time` on
abbrev pub time_lived : Timed → Going → ℕ → ℕ → Going
time_lived timed run time more = fold (centisecond_lived timed) run (range_with_len time more)

-- no alarm came, and nothing was asked
abbrev pub going_at : ℕ → Machined → Going
going_at seed machine = record { at = standing_at seed machine; alarms = none_came }

-- a whole scenario: the events of centisecond 0, and then all centiseconds
unfoldable pub scenario_run : Timed → Machined → Going
scenario_run timed machine =
    let table = schedule_of timed none_came in
    let begun = fold (lived_at table.costs 0) (going_at (seed_of timed) machine)
    (events_at 0 0 table.events) in
    time_lived timed begun 1 table.lasts
