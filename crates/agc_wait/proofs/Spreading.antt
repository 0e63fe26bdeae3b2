-- Helpers of proofs: distances that never fall.
use Rattle.std.specs.Prelude.{ℕ, ◌-◌, ◌≤◌, List, [], ◌∷◌, length}
use Rattle.agc_plan.specs.Tasks.{Waiting}

-- one centisecond nearer
abbrev pub nearer : Waiting → Waiting
nearer w = record { task = w.task; distance = w.distance - 1 }

-- the distances never fall, from this least one to this greatest
abbrev pub Spreads : ℕ → ℕ → List Waiting → Type 0
Spreads least most [] = Unit {0}
Spreads least most (w ∷ ws) =
    (least ≤ w.distance) × (w.distance ≤ most) × Spreads w.distance most ws

-- at most nine tasks, by distance, none further than the longest delay
pub record IsLawful (waits : List Waiting) : Type 0 where
  pub spreads : Spreads 0 16250 waits
  pub nine : length waits ≤ 9
