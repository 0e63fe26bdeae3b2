-- How the words of the Waitlist are read: TIME3, eight gaps in LST1, nine pairs in LST2.
use Rattle.std.specs.Prelude.{◌≡◌, ◌⊎◌, ℕ, zero, suc, ◌+◌, ◌-◌, ◌*◌, ◌<◌, ◌≤◌, ◌==◌, nat_lt}
use Rattle.std.specs.Prelude.{if◌then◌else◌, List, [], ◌∷◌, length, slice_index}
use Rattle.std.specs.List.{All}
use Rattle.agc_word.specs.Layout as layout
use Rattle.agc_plan.specs.Tasks.{Waiting, Agenda, StandsFor}

-- the counter
abbrev pub time3 : List ℕ → ℕ
time3 words = slice_index words layout.time3

-- LST1 word k, from 0
abbrev pub lst1 : List ℕ → ℕ → ℕ
lst1 words k = slice_index words (layout.lst1 + k)

-- the address in place k of LST2
abbrev pub at_in : List ℕ → ℕ → ℕ
at_in words k = slice_index words (layout.lst2 + 2 * k)

-- the bank word in place k of LST2
abbrev pub bank_in : List ℕ → ℕ → ℕ
bank_in words k = slice_index words (layout.lst2 + 1 + 2 * k)

-- how much further the next task is, by a word of LST1: one less the word's value, which is zero
-- for either zero
abbrev pub gap_of : ℕ → ℕ
gap_of word = if nat_lt word 0o40000 then 1 - word else 0o100000 - word

-- the tasks of so many places, from place k on, the first of which is this far from now
abbrev pub waits_from : ℕ → ℕ → ℕ → List ℕ → List Waiting
waits_from zero k distance words = []
waits_from (suc left) k distance words =
    if at_in words k == 0 then []
    else (record { task = record { at = at_in words k; bank = bank_in words k }; distance = distance }
    ∷ waits_from left (k + 1) (distance + gap_of (lst1 words k)) words)

-- the tasks that are read from the words, up to the first empty place: TIME3 says how far the first
-- is, and which places are occupied is read from LST2 alone
unfoldable pub waits_of : List ℕ → List Waiting
waits_of words = waits_from 9 0 (if time3 words == 0 then 0 else 0o40000 - time3 words) words

-- a place of the table
abbrev pub InTable : ℕ → Type 0
InTable i = (layout.time3 ≤ i) × (i < layout.phase_words)

-- the word of LST1 where no gap is
abbrev pub blank_gap : ℕ
blank_gap = 0o57777

-- the table is in order: no word has more than fifteen bits, what is read is within its range, and
-- all else is blank, which is 57777 where no gap is
pub record IsLawfulTable (words : List ℕ) : Type 0 where
  pub word : (i : ℕ) → (layout.time3 ≤ i) × (i < layout.phase_words) → slice_index words i < 32768
  pub counter : time3 words < 0o40000
  pub idle : waits_of words ≡ [] → time3 words ≡ 0
  pub near : All (λ w. w.distance ≤ 16250) (waits_of words)
  pub address : (k : ℕ) → k < 9 → at_in words k < 0o40000
  pub gap : (k : ℕ) → k + 1 < length (waits_of words) → (lst1 words k ≤ 1) ⊎ (0o40000 ≤ lst1 words k)
  pub no_gap : (k : ℕ) → length (waits_of words) ≤ k + 1 → k < 8 → lst1 words k ≡ 0o57777
  pub no_task : (k : ℕ) → length (waits_of words) ≤ k → k < 9 → (at_in words k ≡ 0) × (bank_in words k ≡ 0)

-- no gap is written as minus zero
abbrev pub IsTidy : List ℕ → Type 0
IsTidy words = (k : ℕ) → k < 8 → (lst1 words k ≡ 0o77777) → ⊥

-- the table is in order and tidy, and its tasks stand for this agenda
pub record Shows (words : List ℕ) (agenda : Agenda) : Type 0 where
  pub lawful : IsLawfulTable words
  pub tidy : IsTidy words
  pub stands : StandsFor (waits_of words) agenda

-- in the table, the same words
abbrev pub SameTable : List ℕ → List ℕ → Type 0
SameTable these those = (i : ℕ) → InTable i → slice_index these i ≡ slice_index those i
