use Rattle.std.proofs.Common.{◌≡◌, ◌⊎◌, ℕ, ◌<◌, ◌≤◌, length, slice_index}
use Rattle.agc_image.proofs.array.are_words.Given as goal

abbrev pub invariant-loop-place : goal.invariant-loop-place
invariant-loop-place l = record {
  all : length l.array ≡ 144;
  bound : (k : ℕ) → k < l.place → slice_index l.array k ≤ l.greatest;
  found : (l.greatest ≡ 0) ⊎ ((k : ℕ) × (k < l.place) × (slice_index l.array k ≡ l.greatest));
}
