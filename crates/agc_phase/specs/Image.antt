-- The words of the phases and of FAILREG: the pairs -PHASE1, PHASE1 to -PHASE6, PHASE6, and after
-- them FAILREG.
use Rattle.std.specs.Prelude.{◌≡◌, ℕ, ◌+◌, ◌*◌, ◌<◌, ◌≤◌, ◌==◌, List, [], ◌∷◌, length, take, drop}
use Rattle.std.specs.Prelude.{slice_index, slice_index_or, replicate, Bool, true, false, Option}
use Rattle.std.specs.Prelude.{Some, None, IsSome}
use Rattle.std.specs.List.{find}
use Rattle.agc_word.specs.Layout.{Keeps, OutsidePhases}
use Rattle.agc_word.specs.Layout as layout
use Rattle.agc_word.specs.Words.{complement}
use Rattle.agc_plan.specs.declared.reply.Code.{Code}
use Rattle.agc_plan.specs.declared.reply.Code.TheVariants.{C1107, C1201, C1202, C1203}
use Rattle.agc_plan.specs.Base.{Base, fresh_base, with_code}

-- -PHASE of a group, counted from 0, in the twelve phase words
abbrev pub minus_in : List ℕ → ℕ → ℕ
minus_in words group = slice_index words (2 * group)

-- PHASE of a group, counted from 0, in the twelve phase words
abbrev pub phase_in : List ℕ → ℕ → ℕ
phase_in words group = slice_index words (2 * group + 1)

-- twelve phase words agree, pair by pair: -PHASE is the complement of PHASE, which is at most 127
abbrev pub ArePairs : List ℕ → Type 0
ArePairs words =
    (k : ℕ) → k < 6
    → (slice_index words (2 * k) ≡ complement (phase_in words k)) × (phase_in words k ≤ 127)

-- the phases in twelve phase words
abbrev pub phases_in : List ℕ → List ℕ
phases_in words =
    phase_in words 0 ∷ phase_in words 1 ∷ phase_in words 2 ∷ phase_in words 3 ∷ phase_in words 4 ∷ phase_in words 5 ∷ []

-- the word of a code: its digits in octal, or 00000 where there is none
abbrev pub code_word : Option Code → ℕ
code_word None = 0
code_word (Some C1107) = 0o1107
code_word (Some C1201) = 0o1201
code_word (Some C1202) = 0o1202
code_word (Some C1203) = 0o1203

-- the code that a word is read as: none, where it is no code's word
abbrev pub code_of_word : ℕ → Option Code
code_of_word word =
    find (λ code. word == code_word (Some code)) (C1107 ∷ C1201 ∷ C1202 ∷ C1203 ∷ [])

-- a word of FAILREG is 00000 or a code's word: it is the word of what it is read as
abbrev pub IsCodeWord : ℕ → Type 0
IsCodeWord word = word ≡ code_word (code_of_word word)

-- the first, the second and the latest code: none at all, one that is both first and latest, or two
-- and a latest
abbrev pub AreFirstSecondLatest : Option Code → Option Code → Option Code → Type 0
AreFirstSecondLatest None second latest = (second ≡ None) × (latest ≡ None)
AreFirstSecondLatest (Some first) None latest = latest ≡ Some first
AreFirstSecondLatest (Some first) (Some second) latest = IsSome latest

-- three codes as FAILREG may hold them
abbrev pub IsFailreg : List (Option Code) → Type 0
IsFailreg codes =
    AreFirstSecondLatest (slice_index_or codes 0 None) (slice_index_or codes 1 None) (slice_index_or codes 2 None)

-- six phases of at most 127, and three codes as FAILREG may hold them
pub record IsLawfulBase (base : Base) : Type 0 where
  pub six : length base.phases ≡ 6
  pub range : (k : ℕ) → k < 6 → slice_index base.phases k ≤ 127
  pub three : length base.codes ≡ 3
  pub failreg : IsFailreg base.codes

-- the twelve phase words of the memory
abbrev pub phase_words : List ℕ → List ℕ
phase_words words = take 12 (drop layout.phase_words words)

-- a word of FAILREG, counted from 0
abbrev pub failreg_word : List ℕ → ℕ → ℕ
failreg_word words k = slice_index words (layout.failreg + k)

-- the codes in FAILREG
abbrev pub codes_in : List ℕ → List (Option Code)
codes_in words =
    code_of_word (failreg_word words 0) ∷ code_of_word (failreg_word words 1) ∷ code_of_word (failreg_word words 2) ∷ []

-- the phases and the codes that the words are read as
abbrev pub base_of : List ℕ → Base
base_of words = record { phases = phases_in (phase_words words); codes = codes_in words }

-- the phase words agree, and FAILREG has code words, in the order in which alarms leave them
pub record IsLawfulTable (words : List ℕ) : Type 0 where
  pub pairs : ArePairs (phase_words words)
  pub spelled : (k : ℕ) → k < 3 → IsCodeWord (failreg_word words k)
  pub failreg : IsFailreg (codes_in words)

-- the base after power came back: the phases in these words where they agree, else a fresh start's
-- with code 01107
abbrev pub power_base : Bool → List ℕ → Base
power_base true words = record { phases = phases_in words; codes = replicate 3 None }
power_base false words = with_code C1107 fresh_base

-- the words are read as this base and are lawful, and nothing outside the table changed
pub record Becomes (base : Base) (old new : List ℕ) : Type 0 where
  pub lawful : IsLawfulTable new
  pub base_is : base_of new ≡ base
  pub others : Keeps OutsidePhases old new

-- the three words of FAILREG
abbrev pub failreg_words : List ℕ → List ℕ
failreg_words words = failreg_word words 0 ∷ failreg_word words 1 ∷ failreg_word words 2 ∷ []

-- both are lawful, and are read as one base
pub record ShowSameBase (these those : List ℕ) : Type 0 where
  pub lawful : IsLawfulTable these
  pub lawful_too : IsLawfulTable those
  pub same : base_of these ≡ base_of those

-- in the table, the same words
abbrev pub SameTable : List ℕ → List ℕ → Type 0
SameTable these those =
    (place : ℕ) → layout.phase_words ≤ place → place < layout.last_set
    → slice_index these place ≡ slice_index those place
