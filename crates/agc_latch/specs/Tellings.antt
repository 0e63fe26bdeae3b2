-- Helpers of proofs: what each kind of step tells.
use Rattle.std.specs.Prelude.{◌≡◌, ℕ, ◌+◌, ◌*◌, ◌≤◌, slice_index}
use Rattle.atomic_table.specs.Table.{State, Step}
use Rattle.agc_latch.specs.declared.views.View.{View}
use Rattle.agc_latch.specs.Latches.{IsLatch}
use Rattle.agc_latch.specs.Steps.{Seated, after_post, after_take}

abbrev pub IsLatchState : State (Unit {0}) View → Type 0
IsLatchState s = IsLatch s.words s.views

-- after a post: the device's count of this line grew by 1
abbrev pub Posted : Step (Unit {0}) → Seated → ℕ → Seated → Type 0
Posted s v n w = w ≡ (after_post s.word v.0, v.1)

-- after a take: the line was taken once more, with what was found. No more is taken than the
-- devices that were given out may post; once all of them came back, all that they posted is taken
abbrev pub Taken : Step (Unit {0}) → Seated → ℕ → Seated → Type 0
Taken s v n w =
    (w ≡ (after_take s.word n v.0, v.1))
    × (slice_index v.0.taken s.word + n ≤ 4294967295 * v.0.given)
    × (v.0.seats ≡ v.0.given → slice_index v.0.taken s.word + n ≡ slice_index v.0.posted s.word)
