use Rattle.std.proofs.Common.{◌≡◌, ℕ, ◌<◌, length, slice_index}
use Rattle.agc_image.proofs.array.write_all.Given as goal

abbrev pub invariant-loop-place : goal.invariant-loop-place
invariant-loop-place l = record {
  all : length l.array ≡ 144;
  size : length l.words ≡ 144;
  range : (k : ℕ) → k < l.place → slice_index l.array k < 32768;
  same : (k : ℕ) → k < l.place → slice_index l.array k ≡ slice_index l.words k;
}
