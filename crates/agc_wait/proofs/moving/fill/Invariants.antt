use Rattle.std.proofs.Common.{◌≡◌, ℕ, length, slice_index}
use Rattle.agc_wait.specs.Moving.{filled}
use Rattle.agc_wait.proofs.moving.fill.Given as goal

abbrev pub invariant-loop-i : goal.invariant-loop-i
invariant-loop-i l = (length l.e ≡ length l.fn.e) × ((j : ℕ) → slice_index l.e j ≡ filled l.fn.e l.from l.i l.word j)
