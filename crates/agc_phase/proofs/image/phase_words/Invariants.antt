use Rattle.std.proofs.Common.{◌≡◌, ◌+◌, ℕ, ◌<◌, length, slice_index}
use Rattle.agc_word.specs.Layout as layout
use Rattle.agc_word.specs.Layout.{IsSized}
use Rattle.agc_phase.proofs.image.phase_words.Given as goal

abbrev pub invariant-loop-k : goal.invariant-loop-k
invariant-loop-k l = record {
  twelve : length l.words ≡ 12;
  sized : 0 < l.k → IsSized l.e;
  same : (i : ℕ) → i < l.k → slice_index l.words i ≡ slice_index l.e (layout.phase_words + i);
}
