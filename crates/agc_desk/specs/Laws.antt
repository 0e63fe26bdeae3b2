-- Plans whose key and radar pulses do one thing.
use Rattle.std.specs.Prelude.{◌≡◌, ◌≤◌, ◌⊎◌, ℕ, List, [], ◌∷◌, length}
use Rattle.agc_latch.specs.Lines.{on}
use Rattle.agc_plan.specs.declared.request.Request.{Request}
use Rattle.agc_plan.specs.Plans.{Planned}
use Rattle.agc_plan.specs.Pulses.{requests_for}
use Rattle.agc_desk.specs.Pulses.{Pulse, left_of}

-- a key pulse does at most one thing, and so does a radar pulse
abbrev pub DoesOneEach : Planned → Type 0
DoesOneEach plan = (length (requests_for plan.key) ≤ 1) × (length (requests_for plan.radar) ≤ 1)

-- these are none, or one
abbrev pub IsOneOrNone : List Request → Type 0
IsOneOrNone asked = (asked ≡ []) ⊎ ((only : Request) × (asked ≡ only ∷ []))

-- whole pulses, so many of each line, in the order in which they are asked for
abbrev pub whole_of : Planned → List ℕ → List Pulse
whole_of plan counts = left_of plan (λ line. on line counts) (λ _. 0)
