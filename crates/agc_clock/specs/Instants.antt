-- A scenario is a list of instants, which its timetable alone fixes.
use Rattle.std.specs.Prelude.{ℕ, ◌+◌, ◌&&◌, Bool, true, false, if◌then◌else◌, List, [], ◌∷◌}
use Rattle.std.specs.Prelude.{◌++◌, map, replicate}
use Rattle.std.specs.List.{flat_map, range_with_len}
use Rattle.agc_plan.specs.declared.request.Request.{Request}
use Rattle.agc_plan.specs.declared.request.Request.TheVariants.{Tick}
use Rattle.agc_plan.specs.Steps.{is_tick}
use Rattle.agc_clock.specs.declared.asked.Asked.{Asked}
use Rattle.agc_clock.specs.declared.asked.Source.{Source}
use Rattle.agc_clock.specs.declared.asked.Source.TheVariants as source
use Rattle.agc_clock.specs.Coming.{comes}
use Rattle.agc_clock.specs.Events.{Event}
use Rattle.agc_clock.specs.Timetables.{Schedule, share_at}

-- at an instant the clock or an event asks for something, or the running job looks at NEWJOB, or a
-- hundredth of computing time is given
pub data Instant : Type 0 where
  Asks : Asked → Instant
  Looks : Instant
  Works : Instant

-- the clock itself asks, or the event of this number
abbrev pub by_clock : Request → Asked
by_clock request = record { request = request; source = source.Clock }

abbrev pub by_event : ℕ → Request → Asked
by_event number request = record { request = request; source = source.Event number }

abbrev pub is_clock : Source → Bool
is_clock source.Clock = true
is_clock (source.Event number) = false

-- a tick that the clock itself asks for
abbrev pub is_own_tick : Asked → Bool
is_own_tick asked = is_tick asked.request && is_clock asked.source

-- the instants of an event, if it comes at this time
abbrev pub asks_of : ℕ → ℕ → Event → List Instant
asks_of time number event =
    if comes event.times time then map (λ request. Asks (by_event number request)) event.requests
    else []

-- the instants of all events at a time, in the file's order; they are numbered from this number on
abbrev pub events_at : ℕ → ℕ → List Event → List Instant
events_at time number [] = []
events_at time number (event ∷ events) =
    asks_of time number event ++ events_at time (number + 1) events

-- a centisecond: a tick; the events of its time; a look at NEWJOB; then its computing time,
-- hundredth by hundredth
abbrev pub centisecond : Schedule → ℕ → List Instant
centisecond table time = Asks (by_clock Tick) ∷ (events_at time 0 table.events
    ++ (Looks ∷ replicate (share_at table time) Works))

-- the instants of centiseconds, from this one on
abbrev pub centiseconds : Schedule → ℕ → ℕ → List Instant
centiseconds table time more = flat_map (centisecond table) (range_with_len time more)

-- the events of centisecond 0, and then all centiseconds
abbrev pub instants : Schedule → List Instant
instants table = events_at 0 0 table.events ++ centiseconds table 1 table.lasts
