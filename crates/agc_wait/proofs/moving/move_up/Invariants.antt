use Rattle.std.proofs.Common.{◌≡◌, ℕ, length, slice_index}
use Rattle.agc_wait.specs.Moving.{moved_up}
use Rattle.agc_wait.proofs.moving.move_up.Given as goal

abbrev pub invariant-loop-i : goal.invariant-loop-i
invariant-loop-i l = (length l.e ≡ length l.fn.e) × ((j : ℕ) → slice_index l.e j ≡ moved_up l.fn.e l.from l.i l.by j)
