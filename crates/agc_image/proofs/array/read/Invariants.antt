use Rattle.std.proofs.Common.{◌≡◌, ℕ, ◌<◌, length, slice_index}
use Rattle.agc_word.specs.Profiles.{size_of}
use Rattle.agc_image.proofs.array.read.Given as goal

abbrev pub invariant-loop-place : goal.invariant-loop-place
invariant-loop-place l = record {
  all : length l.array ≡ 144;
  size : length l.image ≡ size_of l.fn.sets;
  same : (k : ℕ) → k < l.place → slice_index l.image k ≡ slice_index l.array k;
}
