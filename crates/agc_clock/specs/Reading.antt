-- For the proofs: what the clock's parts do.
use Rattle.std.specs.Prelude.{◌≡◌, ℕ, if◌then◌else◌, Option, Some, None, slice_get}
use Rattle.std.specs.Option.{option_and_then}
use Rattle.agc_plan.specs.declared.request.Request.{Request}
use Rattle.agc_plan.specs.Jobs.{Jobs}
use Rattle.agc_exec.specs.declared.seats.Seat.{Seat}
use Rattle.agc_clock.specs.declared.asked.Asked.{Asked}
use Rattle.agc_clock.specs.declared.counting.JobAt.{JobAt}
use Rattle.agc_clock.specs.Clocks.{AsksNext, Clocked, next_of, to_come}
use Rattle.agc_clock.specs.Coming.{comes}
use Rattle.agc_clock.specs.Events.{Event}
use Rattle.agc_clock.specs.Timetables.{Schedule}

-- the job of a core set, if it is awake
abbrev pub awake_in : Seat → Option JobAt
awake_in seat =
    if seat.asleep then None else Some (record { number = seat.number; at = seat.at })

abbrev pub awake_at : Option Seat → Option JobAt
awake_at seat = option_and_then awake_in seat

-- the next request of an event at this time, after this many of its requests
abbrev pub first_of : ℕ → ℕ → Option Event → Option Request
first_of time asked None = None
first_of time asked (Some event) =
    if comes event.times time then slice_get event.requests asked else None

-- a stage of the clock asks for nothing, and what is asked next stays the same
pub record Passes (table : Schedule) (jobs : Jobs) (old new : Clocked) : Type 0 where
  pub next_is : next_of table.costs jobs (to_come table old) old.counts
      ≡ next_of table.costs jobs (to_come table new) new.counts
  pub time_is : new.time ≡ old.time

-- or it asks for the next request
abbrev pub AsksOrPasses : Schedule → Jobs → Clocked → Option Asked → Clocked → Type 0
AsksOrPasses table jobs old (Some asked) new = AsksNext table jobs old (Some asked) new
AsksOrPasses table jobs old None new = Passes table jobs old new
