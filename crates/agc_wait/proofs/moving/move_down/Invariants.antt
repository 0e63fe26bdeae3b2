use Rattle.std.proofs.Common.{◌≡◌, ℕ, ◌-◌, length, slice_index}
use Rattle.agc_wait.specs.Moving.{moved_down}
use Rattle.agc_wait.proofs.moving.move_down.Given as goal

abbrev pub invariant-loop-k : goal.invariant-loop-k
invariant-loop-k l = (length l.e ≡ length l.fn.e) × ((j : ℕ) → slice_index l.e j ≡ moved_down l.fn.e (l.to - l.k) l.to l.by j)
