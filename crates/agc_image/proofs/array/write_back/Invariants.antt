use Rattle.std.proofs.Common.{◌≡◌, ℕ, ◌<◌, length, drop, slice_index}
use Rattle.agc_image.proofs.array.write_back.Given as goal

abbrev pub invariant-loop-place : goal.invariant-loop-place
invariant-loop-place l = record {
  all : length l.array ≡ 144;
  words : (k : ℕ) → k < l.place → slice_index l.image k < 32768;
  same : (k : ℕ) → k < l.place → slice_index l.array k ≡ slice_index l.image k;
  rest : drop l.place-end l.array ≡ drop l.place-end l.initial.array;
}
