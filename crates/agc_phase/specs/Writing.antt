-- Helpers of proofs: what was written so far.
use Rattle.std.specs.Prelude.{◌≡◌, ◌⊎◌, ℕ, ◌+◌, ◌*◌, ◌<◌, ◌≤◌, List, slice_index, slice_index_or}
use Rattle.std.specs.Prelude.{Option, None}
use Rattle.agc_word.specs.Layout.{Keeps, OutsidePhases, phase_words, failreg}
use Rattle.agc_word.specs.Words.{complement}
use Rattle.agc_plan.specs.declared.reply.Code.{Code}
use Rattle.agc_phase.specs.Image.{failreg_word, code_word, code_of_word, IsCodeWord}
use Rattle.agc_phase.specs.Image.{AreFirstSecondLatest}

-- the words -PHASE and PHASE of a group agree: they are complements, and the phase is at most 127
abbrev pub IsPair : ℕ → ℕ → Type 0
IsPair minus phase = (minus ≡ complement phase) × (phase ≤ 127)

-- three words of FAILREG are code words, in the order in which alarms leave them
pub record IsLawfulFailreg (first second latest : ℕ) : Type 0 where
  pub first_coded : IsCodeWord first
  pub second_coded : IsCodeWord second
  pub latest_coded : IsCodeWord latest
  pub order : AreFirstSecondLatest (code_of_word first) (code_of_word second) (code_of_word latest)

-- the place of -PHASE of a group, counted from 0
abbrev pub minus_place : ℕ → ℕ
minus_place group = phase_words + 2 * group

-- no word of this group's pair
abbrev pub OutsidePair : ℕ → ℕ → Type 0
OutsidePair group place = (place < minus_place group) ⊎ (minus_place group + 1 < place)

-- this group's pair was written, and nothing else changed
pub record WritesPair (group phase : ℕ) (old new : List ℕ) : Type 0 where
  pub minus : slice_index new (minus_place group) ≡ complement phase
  pub phase_is : slice_index new (minus_place group + 1) ≡ phase
  pub range : phase ≤ 127
  pub others : Keeps (OutsidePair group) old new

-- so many pairs were written with these phases, and nothing but phase words changed
pub record PairsWritten (phases : List ℕ) (old : List ℕ) (n : ℕ) (new : List ℕ) : Type 0 where
  pub minus : (k : ℕ) → k < n → slice_index new (minus_place k) ≡ complement (slice_index phases k)
  pub phase : (k : ℕ) → k < n → slice_index new (minus_place k + 1) ≡ slice_index phases k
  pub range : (k : ℕ) → k < n → slice_index phases k ≤ 127
  pub others : Keeps OutsidePhases old new

-- no word of FAILREG
abbrev pub OutsideFailreg : ℕ → Type 0
OutsideFailreg place = (place < failreg) ⊎ (failreg + 2 < place)

-- so many words of FAILREG were written with these codes, and nothing but FAILREG changed
pub record CodesWritten (codes : List (Option Code)) (old : List ℕ) (n : ℕ) (new : List ℕ)
    : Type 0 where
  pub word : (k : ℕ) → k < n → failreg_word new k ≡ code_word (slice_index_or codes k None)
  pub others : Keeps OutsideFailreg old new
