-- The requests of pulses that are owed.
use Rattle.std.specs.Prelude.{ℕ, List, ◌++◌, drop, map}
use Rattle.agc_plan.specs.declared.line.Line.{Line}
use Rattle.agc_plan.specs.declared.line.Line.TheVariants.{Timer, Key, Radar}
use Rattle.agc_plan.specs.declared.request.Request.{Request}
use Rattle.agc_plan.specs.Plans.{Planned}
use Rattle.agc_plan.specs.Pulses.{pulse_requests, repeated}

-- a request for which a pulse asks, and the pulse's line
pub record Pulse : Type 0 where
  pub line : Line
  pub request : Request

-- the requests of a pulse of the line, in order
abbrev pub pulse_of : Planned → Line → List Pulse
pulse_of plan line =
    map (λ asked. record { line = line; request = asked }) (pulse_requests plan line)

-- the requests left of this many pulses of a line, if this many requests of the first were served
abbrev pub left_on : Planned → Line → ℕ → ℕ → List Pulse
left_on plan line owed begun = drop begun (repeated (pulse_of plan line) owed)

-- the requests left of all lines, in the order in which they are made: first all of the timer's,
-- then the keyboard's, then the radar's
abbrev pub left_of : Planned → (Line → ℕ) → (Line → ℕ) → List Pulse
left_of plan owed begun =
    left_on plan Timer (owed Timer) (begun Timer)
    ++ (left_on plan Key (owed Key) (begun Key)
    ++ left_on plan Radar (owed Radar) (begun Radar))
