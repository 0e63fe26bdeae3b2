-- The timetable in a caller's rows, its faults, and the requests of a caller's clock.
use Rattle.std.specs.Prelude.{ℕ, ◌==◌, ◌&&◌, not, if◌then◌else◌, List, map, take, drop, Option}
use Rattle.std.specs.Prelude.{Some, None, slice_get, unwrap_or, ◌+◌, ◌-◌, nat_lt, nat_le, ◌||◌}
use Rattle.std.specs.Prelude.{Bool, false, [], ◌∷◌, length, ◌≡◌}
use Rattle.std.specs.List.{range_with_len, list_all, list_any}
use Rattle.std.specs.Option.{option_and_then, option_map_or, is_some}
use Rattle.agc_plan.specs.declared.request.Request.{Request}
use Rattle.agc_plan.specs.declared.request.Request.TheVariants.{Change}
use Rattle.agc_clock.specs.Alarms.{times_after}
use Rattle.agc_clock.specs.Coming.{Coming}
use Rattle.agc_clock.specs.declared.timetable.Cost.{Cost}
use Rattle.agc_clock.specs.declared.timetable.Step.{Step}
use Rattle.agc_clock.specs.declared.timetable.Stolen.{Stolen}
use Rattle.agc_clock.specs.declared.timetable.Then.{Then}
use Rattle.agc_clock.specs.declared.timetable.Then.TheVariants as then
use Rattle.agc_clock.specs.Events.{Event}
use Rattle.agc_clock.specs.Timetables.{Schedule, step_of, comes_once, overlap}
use Rattle.libagc.specs.declared.reading.AgcRequest.{AgcRequest}
use Rattle.libagc.specs.Numbers.{address_from_c, request_from_c, is_request, numbers_of}
use Rattle.libagc.specs.declared.timetable.AgcCost.{AgcCost}
use Rattle.libagc.specs.declared.timetable.AgcEvent.{AgcEvent}
use Rattle.agc_clock.specs.declared.times.TheConstants.{LAST_TIME}
use Rattle.libagc.specs.declared.fault.Fault.{Fault}
use Rattle.libagc.specs.declared.fault.Fault.TheVariants.{TimeRange, StealTwice, CostTwice}
use Rattle.agc_plan.specs.Jobs.{Jobs}
use Rattle.agc_clock.specs.declared.asked.Asked.{Asked}
use Rattle.agc_clock.specs.declared.asked.Source.{Source}
use Rattle.agc_clock.specs.declared.asked.Source.TheVariants as source
use Rattle.agc_clock.specs.Clocks.{AsksNext, Clocked}
use Rattle.agc_clock.specs.Counts.{kept}
use Rattle.libagc.specs.declared.steps.AgcStep.{AgcStep}

-- an address; what is out of its range counts as the last
abbrev pub address_for : ℕ → ℕ
address_for n = unwrap_or (address_from_c n) 16383

-- 0 is the end of the job, any other a sleep at that address
abbrev pub then_from_c : ℕ → Then
then_from_c n = if n == 0 then then.End else then.Sleep (address_for n)

-- an event comes once where it comes each 0 centiseconds
abbrev pub distances_from_c : AgcEvent → Coming
distances_from_c row =
    if row.every == 0 then record { at = row.at; every = 1; until = row.at }
    else record { at = row.at; every = row.every; until = row.until }

-- since the start; one that counts from an alarm of which nothing was told doesn't come
abbrev pub times_from_c : AgcEvent → Coming
times_from_c row =
    if row.after == 0 then distances_from_c row else times_after None (distances_from_c row)

-- an event whose first alarm came at a time, and from then on counts from the start
abbrev pub event_at : ℕ → AgcEvent → AgcEvent
event_at time row =
    let times = times_after (Some time) (distances_from_c row) in
    record row { at = times.at; every = times.every; until = times.until; after = 0 }

-- an event after an alarm of this code at a time, 0 if there was none
abbrev pub event_after : ℕ → ℕ → AgcEvent → AgcEvent
event_after alarm time row =
    if not (alarm == 0) && (row.after == alarm) then event_at time row else row

-- a request; numbers that are none count as a change of job
abbrev pub request_for : AgcRequest → Request
request_for r = unwrap_or (request_from_c r) Change

-- `count` of the requests, from the first on
abbrev pub requests_from : List AgcRequest → (first count : ℕ) → List AgcRequest
requests_from requests first count = take count (drop first requests)

-- the step of a number; a request that is none ends them
abbrev pub step_in : List AgcRequest → ℕ → Option Step
step_in requests number =
    option_and_then (λ r. step_of (request_for r)) (slice_get requests number)

-- the steps of a job, at most seven
abbrev pub steps_from_c : List AgcRequest → AgcCost → List (Option Step)
steps_from_c requests row =
    map (step_in (requests_from requests row.first row.count)) (range_with_len 0 7)

abbrev pub cost_from_c : List AgcRequest → AgcCost → Cost
cost_from_c requests row = record {
  at = address_for row.at;
  hundredths = row.hundredths;
  spread = row.spread;
  steps = steps_from_c requests row;
  then = then_from_c row.then;
}

abbrev pub event_from_c : List AgcRequest → AgcEvent → Event
event_from_c requests row = record {
  times = times_from_c row;
  requests = map request_for (requests_from requests row.first row.count);
}

abbrev pub timetable_from_c : ℕ → List Stolen → List AgcCost → List AgcEvent → List AgcRequest
    → Schedule
timetable_from_c lasts stolen costs events requests = record {
  lasts = lasts;
  stolen = stolen;
  costs = map (cost_from_c requests) costs;
  events = map (event_from_c requests) events;
}

-- the greatest cost, in hundredths of a centisecond
abbrev pub most_cost : ℕ
most_cost = 100000000

-- from a time to a later one, at most all of each centisecond; it comes again once it has ended
abbrev pub is_steal : Stolen → Bool
is_steal row =
    nat_lt row.from row.to && (nat_le row.percent 100
    && (comes_once row || nat_le (row.to - row.from) row.every))

-- a request that is a step of a job
abbrev pub is_step : AgcRequest → Bool
is_step r = is_some (option_and_then step_of (request_from_c r))

-- a job at an address, whose cost is at least one with each lot; at last it ends, or sleeps at an
-- address, and before it asks for at most seven of the requests
abbrev pub is_cost : List AgcRequest → AgcCost → Bool
is_cost requests row =
    is_some (address_from_c row.at)
    && (nat_lt row.spread row.hundredths && (nat_le row.hundredths most_cost
    && (((row.then == 0) || is_some (address_from_c row.then))
    && (nat_le row.count 7 && (nat_le (row.first + row.count) (length requests)
    && list_all is_step (requests_from requests row.first row.count))))))

-- an event comes once, or again up to a time (never, where that is before the first), since the
-- start or since an alarm, and asks for one to sixteen of this many requests
abbrev pub is_event : ℕ → AgcEvent → Bool
is_event requests row =
    nat_le row.at LAST_TIME && (((row.every == 0) || nat_le row.until LAST_TIME)
    && (((row.after == 0) || (nat_le 0o1201 row.after && nat_le row.after 0o1203))
    && (nat_lt 0 row.count && (nat_le row.count 16
    && nat_le (row.first + row.count) requests))))

-- whether two rows of stolen time overlap
abbrev pub steals_twice : List Stolen → Bool
steals_twice [] = false
steals_twice (row ∷ rows) = list_any (overlap row) rows || steals_twice rows

-- whether an address has two
abbrev pub costs_twice : List AgcCost → Bool
costs_twice [] = false
costs_twice (row ∷ rows) = list_any (λ other. other.at == row.at) rows || costs_twice rows

-- the numbers of all rows are in range
abbrev pub are_in_range : List Stolen → List AgcCost → List AgcEvent → List AgcRequest → Bool
are_in_range stolen costs events requests =
    list_all is_steal stolen && (list_all (is_cost requests) costs
    && (list_all (is_event (length requests)) events && list_all is_request requests))

-- the first thing that is wrong
abbrev pub times_lack : List Stolen → List AgcCost → List AgcEvent → List AgcRequest → Option Fault
times_lack stolen costs events requests =
    if not (are_in_range stolen costs events requests) then Some TimeRange
    else if steals_twice stolen then Some StealTwice
    else if costs_twice costs then Some CostTwice
    else None

-- 1 for the clock itself, and from 2 on the events; one that fits no number of C is told as the
-- greatest
abbrev pub source_to_c : Source → ℕ
source_to_c source.Clock = 1
source_to_c (source.Event number) = if nat_lt number 4294967293 then number + 2 else 4294967295

-- a clock asked a machine with these jobs, and this was told
pub record ClockAsks (table : Schedule) (jobs : Jobs) (old new : Clocked)
    (before after : AgcRequest) (number : ℕ) : Type 0 where
  pub asked : Option Asked
  pub asks : AsksNext table jobs old asked new
  -- 0 if the time is over, and then the numbers of the request are as before
  pub number_is : number ≡ option_map_or (λ a. source_to_c a.source) asked 0
  pub request_is : after ≡ option_map_or (λ a. numbers_of a.request) asked before

-- whether an era began with a step: after an alarm, a restart or a fresh start
abbrev pub begins_era : AgcStep → Bool
begins_era step = (step.reply == 10) || ((step.reply == 13) || (step.reply == 14))

-- the code of the alarm of a step, 0 if it has none
abbrev pub alarm_to_c : AgcStep → ℕ
alarm_to_c step = if (step.reply == 10) || (step.reply == 13) then step.number else 0

-- a clock after a step that left a machine with these jobs
abbrev pub clock_after : AgcStep → Jobs → Clocked → Clocked
clock_after step jobs clock = record clock { counts = kept (begins_era step) jobs clock.counts }
