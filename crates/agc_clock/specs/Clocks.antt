-- The clock, and the next request.
use Rattle.std.specs.Prelude.{◌≡◌, ℕ, ◌+◌, ◌-◌, Bool, false, if◌then◌else◌, List, [], ◌∷◌, ◌++◌}
use Rattle.std.specs.Prelude.{drop, replicate, Option, Some, None}
use Rattle.agc_plan.specs.Jobs.{Jobs}
use Rattle.agc_clock.specs.declared.asked.Asked.{Asked}
use Rattle.agc_clock.specs.declared.timetable.Cost.{Cost}
use Rattle.agc_clock.specs.Counts.{Counts, Passed, none_given, passed}
use Rattle.agc_clock.specs.Events.{Event}
use Rattle.agc_clock.specs.Instants.{Instant, Looks, Works, asks_of, centiseconds, events_at}
use Rattle.agc_clock.specs.Instants.{is_own_tick}
use Rattle.agc_clock.specs.Timetables.{Schedule}

-- a clock: its centisecond; which event is next, and how many of its requests were asked; whether
-- the look at NEWJOB is still to come; the hundredths of computing that are left; and what is
-- counted
pub record Clocked : Type 0 where
  pub time : ℕ
  pub event : ℕ
  pub asked : ℕ
  pub looks : Bool
  pub left : ℕ
  pub counts : Counts

-- at centisecond 0: only its events are to come, and lots are drawn from this seed on
abbrev pub at_start : ℕ → Clocked
at_start seed = record {
  time = 0;
  event = 0;
  asked = 0;
  looks = false;
  left = 0;
  counts = none_given seed;
}

-- the instants of these events that are to come, after so many of the first
abbrev pub events_left : ℕ → ℕ → ℕ → List Event → List Instant
events_left time number asked [] = []
events_left time number asked (event ∷ events) =
    drop asked (asks_of time number event) ++ events_at time (number + 1) events

abbrev pub look_left : Bool → List Instant
look_left looks = if looks then Looks ∷ [] else []

-- the instants that are to come
unfoldable pub to_come : Schedule → Clocked → List Instant
to_come table clock =
    events_left clock.time clock.event clock.asked (drop clock.event table.events)
    ++ (look_left clock.looks ++ (replicate clock.left Works
    ++ centiseconds table (clock.time + 1) (table.lasts - clock.time)))

-- the next request, the instants after it, and the counts up to it
pub record Next : Type 0 where
  pub asked : Option Asked
  pub behind : List Instant
  pub counts : Counts

-- the first instant that asks for something
abbrev pub unless_asked : Passed → List Instant → (Counts → Next) → Next
unless_asked did behind goes_on = by did.asked where
  by : Option Asked → Next
  by (Some asked) = record { asked = Some asked; behind = behind; counts = did.counts }
  by None = goes_on did.counts

abbrev pub next_of : List Cost → Jobs → List Instant → Counts → Next
next_of costs jobs [] counts = record { asked = None; behind = []; counts = counts }
next_of costs jobs (instant ∷ behind) counts =
    unless_asked (passed costs jobs instant counts) behind (next_of costs jobs behind)

-- the centisecond after this was asked: a tick of the clock's own begins the next one
abbrev pub time_after : ℕ → Option Asked → ℕ
time_after time None = time
time_after time (Some asked) = if is_own_tick asked then time + 1 else time

-- a clock asks for this, and is then this one
pub record AsksNext (table : Schedule) (jobs : Jobs) (old : Clocked) (asked : Option Asked)
    (new : Clocked) : Type 0 where
  pub asked_is : asked ≡ (next_of table.costs jobs (to_come table old) old.counts).asked
  pub to_come_is : to_come table new
      ≡ (next_of table.costs jobs (to_come table old) old.counts).behind
  pub counts_is : new.counts
      ≡ (next_of table.costs jobs (to_come table old) old.counts).counts
  pub time_is : new.time ≡ time_after old.time asked
