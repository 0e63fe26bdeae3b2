use Rattle.std.proofs.Common.{◌≡◌, ℕ, ◌<◌, length, slice_index}
use Rattle.libagc.proofs.scene.numbers_of.Given as goal

abbrev pub invariant-loop-group : goal.invariant-loop-group
invariant-loop-group l = record {
  all : length l.phases ≡ 6;
  size : length l.numbers ≡ 6;
  same : (k : ℕ) → k < l.group → slice_index l.numbers k ≡ slice_index l.phases k;
}
