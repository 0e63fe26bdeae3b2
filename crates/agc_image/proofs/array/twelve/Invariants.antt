use Rattle.std.proofs.Common.{◌≡◌, ℕ, ◌<◌, length, slice_index}
use Rattle.agc_image.proofs.array.twelve.Given as goal

abbrev pub invariant-loop-k : goal.invariant-loop-k
invariant-loop-k l = record {
  all : length l.numbers ≡ 12;
  size : length l.words ≡ 12;
  range : (k : ℕ) → k < l.k → slice_index l.numbers k < 32768;
  same : (k : ℕ) → k < l.k → slice_index l.words k ≡ slice_index l.numbers k;
}
