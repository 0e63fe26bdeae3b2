-- Helpers of proofs: the rules of a lawful table, one part after the other.
use Rattle.std.specs.Prelude.{◌≡◌, ◌⊎◌, ℕ, ◌+◌, ◌-◌, ◌*◌, ◌<◌, ◌≤◌, ◌==◌, if◌then◌else◌, List}
use Rattle.std.specs.Prelude.{length, slice_index}
use Rattle.agc_word.specs.Layout as layout
use Rattle.agc_wait.specs.Table.{InTable, time3, lst1, at_in, waits_of, blank_gap}
use Rattle.agc_wait.specs.Writing.{distance_in}

-- how far the first task is, by TIME3
abbrev pub distance_of : ℕ → ℕ
distance_of counter = if counter == 0 then 0 else 0o40000 - counter

-- no word of the table has more than fifteen bits
abbrev pub AreWords : List ℕ → Type 0
AreWords words = (i : ℕ) → InTable i → slice_index words i < 32768

-- TIME3 isn't negative, and is 00000 where no task waits
abbrev pub IsCounter : List ℕ → Type 0
IsCounter words = (time3 words < 0o40000) × (length (waits_of words) ≡ 0 → time3 words ≡ 0)

-- a word of LST1 may be a gap
abbrev pub IsGap : ℕ → Type 0
IsGap word = (word ≤ 1) ⊎ (0o40000 ≤ word)

-- the first so many tasks and the gaps behind them are within their ranges
pub record AreTasks (words : List ℕ) (n : ℕ) : Type 0 where
  pub near : (k : ℕ) → k < n → distance_in words k ≤ 16250
  pub address : (k : ℕ) → k < n → at_in words k < 0o40000
  pub gap : (k : ℕ) → k < n → k + 1 < length (waits_of words) → IsGap (lst1 words k)

-- the words of these places are all this one
abbrev pub AreAll : List ℕ → ℕ → ℕ → ℕ → Type 0
AreAll words from to word = (i : ℕ) → from ≤ i → i < to → slice_index words i ≡ word

-- the words of LST1 from the last of so many tasks on, and those of LST2 behind them, are blank
abbrev pub IsBlankBehind : List ℕ → ℕ → Type 0
IsBlankBehind words n =
    AreAll words (layout.lst1 + (n - 1)) layout.lst2 blank_gap
    × AreAll words (layout.lst2 + 2 * n) layout.phase_words 0
