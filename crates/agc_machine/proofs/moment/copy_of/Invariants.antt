use Rattle.std.proofs.Common.{◌≡◌, ℕ, ◌<◌, length, slice_index}
use Rattle.agc_machine.proofs.moment.copy_of.Given as goal

abbrev pub invariant-loop-place : goal.invariant-loop-place
invariant-loop-place l = record {
  same_length : length l.copy ≡ length l.fn.e;
  before : (j : ℕ) → j < l.place → slice_index l.copy j ≡ slice_index l.fn.e j;
}
