-- The jobs in the core sets.
use Rattle.std.specs.Prelude.{ℕ, ◌+◌, ◌==◌, List, [], ◌∷◌, map, Option, Some, None}
use Rattle.std.specs.Prelude.{if◌then◌else◌}
use Rattle.std.specs.List.{range_with_len}
use Rattle.std.specs.Option.{option_or}
use Rattle.agc_exec.specs.declared.seats.Seat.{Seat}
use Rattle.agc_stats.specs.declared.live_jobs.Activity.{Activity}
use Rattle.agc_stats.specs.declared.live_jobs.Activity.TheVariants.{Runs, Sleeps, Waits}
use Rattle.agc_stats.specs.declared.live_jobs.ObservedJob.{ObservedJob}

-- a job that is awake runs in core set 0, and waits in another
abbrev pub activity_of : ℕ → Seat → Activity
activity_of set seat = if seat.asleep then Sleeps else if set == 0 then Runs else Waits

-- the state of the job of a number, if this core set has it, or one from this set on
abbrev pub state_here : ℕ → ℕ → Option Seat → Option ObservedJob
state_here number set None = None
state_here number set (Some seat) = if seat.number == number
    then Some (record { at = seat.at; activity = activity_of set seat })
    else None

abbrev pub state_from : ℕ → ℕ → List (Option Seat) → Option ObservedJob
state_from number set [] = None
state_from number set (seat ∷ seats) =
    option_or (state_from number (set + 1) seats) (state_here number set seat)

-- the jobs by their numbers, 1 to 8
abbrev pub states_in : List (Option Seat) → List (Option ObservedJob)
states_in seats = map (λ number. state_from number 0 seats) (range_with_len 1 8)
