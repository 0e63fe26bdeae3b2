-- Words that keep what stands in the table are read as the same base, and stay lawful.
use Rattle.std.proofs.Common.{◌≡◌, ℕ, ◌+◌, ◌<◌, ◌≤◌, List, slice_index, refl, ap, sym, subst, ◌∙◌, arith}
use Rattle.agc_word.specs.Layout.{Keeps}
use Rattle.agc_word.specs.Layout as layout
use Rattle.agc_phase.specs.Image.{IsFailreg, phases_in, phase_words, failreg_word, codes_in, code_of_word, base_of, IsLawfulTable}
use Rattle.agc_phase.specs.Image.{IsCodeWord}
use Rattle.agc_phase.specs.Writing.{minus_place}
use Rattle.agc_phase.proofs.Reading.{phases_in-is, phases_in-at, phase_in-at, ArePairs-are, ArePairs-at, codes_in-is}

-- a place of the table
abbrev pub InPhases : ℕ → Type 0
InPhases place = (layout.phase_words ≤ place) × (place < layout.last_set)

pub codes_in-same : (old new : List ℕ) → ((k : ℕ) → k < 3 → failreg_word new k ≡ failreg_word old k) → codes_in new ≡ codes_in old
codes_in-same old new same =
    codes_in-is new _ _ _ (ap code_of_word (same 0 (omega arith))) (ap code_of_word (same 1 (omega arith))) (ap code_of_word (same 2 (omega arith)))

pub phases_in-same : (old new : List ℕ) → ((k : ℕ) → k < 6 → slice_index new (minus_place k + 1) ≡ slice_index old (minus_place k + 1)) → phases_in (phase_words new) ≡ phases_in (phase_words old)
phases_in-same old new same =
    phases_in-is new (phases_in (phase_words old)) refl
    (λ k lt. same k lt ∙ sym (phase_in-at old k lt) ∙ sym (phases_in-at (phase_words old) k lt))

pub base_of-kept : (old new : List ℕ) → Keeps InPhases old new → base_of new ≡ base_of old
base_of-kept old new kept =
    rw (phases_in-same old new (λ k lt. kept.words (minus_place k + 1) (omega arith, omega arith)), codes_in-same old new (λ k lt. kept.words (layout.failreg + k) (omega arith, omega arith))) refl

pub IsLawfulTable-kept : (old new : List ℕ) → Keeps InPhases old new → IsLawfulTable old → IsLawfulTable new
IsLawfulTable-kept old new kept lawful = record {
  pairs = ArePairs-are new (λ k lt. rw (kept.words (minus_place k) (omega arith, omega arith), kept.words (minus_place k + 1) (omega arith, omega arith)) (ArePairs-at old lawful.pairs k lt));
  spelled = λ k lt. subst IsCodeWord (sym (kept.words (layout.failreg + k) (omega arith, omega arith))) (lawful.spelled k lt);
  failreg = subst IsFailreg (sym (codes_in-same old new (λ k lt. kept.words (layout.failreg + k) (omega arith, omega arith)))) lawful.failreg;
}
