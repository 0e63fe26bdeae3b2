use Rattle.std.proofs.Common.{◌≡◌, ℕ, ◌<◌, length, slice_index}
use Rattle.agc_machine.proofs.migration.loaded.Given as goal

abbrev pub invariant-loop-place : goal.invariant-loop-place
invariant-loop-place l = record {
  size : length l.e ≡ 132;
  same : (i : ℕ) → i < l.place → slice_index l.e i ≡ slice_index l.words i;
}
