-- Where each table stands in the erasable words.
use Rattle.std.specs.Prelude.{◌≡◌, ◌⊎◌, ℕ, ◌+◌, ◌-◌, ◌*◌, ◌/◌, ◌<◌, ◌≤◌, ◌==◌, if◌then◌else◌, List}
use Rattle.std.specs.Prelude.{◌++◌, length, replicate, slice_index}

-- how many words a core set has
abbrev pub set_size : ℕ
set_size = 12

-- how many words all other tables have together: five use words, NEWJOB, TIME3, LST1, LST2, phase
-- words and FAILREG
abbrev pub others_size : ℕ
others_size = 48

-- the first of the five use words, after core sets 0 to 6
abbrev pub use_words : ℕ
use_words = 84

-- NEWJOB
abbrev pub newjob : ℕ
newjob = 89

-- TIME3
abbrev pub time3 : ℕ
time3 = 90

-- the first of the eight words of LST1
abbrev pub lst1 : ℕ
lst1 = 91

-- the first of the nine pairs of LST2
abbrev pub lst2 : ℕ
lst2 = 99

-- the first of the six pairs of phase words
abbrev pub phase_words : ℕ
phase_words = 117

-- the first of the three words of FAILREG
abbrev pub failreg : ℕ
failreg = 129

-- core set 7, of eight; with seven sets the end
abbrev pub last_set : ℕ
last_set = 132

-- words with seven sets, or with eight
abbrev pub IsSized : List ℕ → Type 0
IsSized words = (length words ≡ 132) ⊎ (length words ≡ 144)

-- as many words as there are with eight sets: 00000 after the last
abbrev pub padded : List ℕ → List ℕ
padded words = words ++ replicate (144 - length words) 0

-- how many sets these words have
abbrev pub sets_in : List ℕ → ℕ
sets_in words = (length words - others_size) / set_size

-- how many places there are: those before core set 7, which is last, and its own with eight sets
abbrev pub places_in : List ℕ → ℕ
places_in words = last_set + set_size * (sets_in words - 7)

-- the first place of a set: set 7 stands after all other tables
abbrev pub set_place : ℕ → ℕ
set_place k = set_size * k + (last_set - use_words) * (k / 7)

-- the place of the use word of an area, from 1
abbrev pub use_place : ℕ → ℕ
use_place area = use_words + (area - 1)

-- the address of VAC area 1: 0300 octal
abbrev pub first_area : ℕ
first_area = 0o300

-- how far an area is from the next: 054 octal
abbrev pub area_size : ℕ
area_size = 0o54

-- the address of an area, 0 for none
abbrev pub address_of : ℕ → ℕ
address_of area = if area == 0 then 0 else (first_area + area_size * (area - 1))

-- the area at an address, 0 for none
abbrev pub area_of : ℕ → ℕ
area_of address = if address == 0 then 0 else ((address - first_area) / area_size + 1)

-- a place of the Waitlist, or of phases and FAILREG: no core set, use word or NEWJOB
abbrev pub OutsideCores : ℕ → Type 0
OutsideCores place = (time3 ≤ place) × (place < last_set)

-- no place of TIME3, LST1 and LST2
abbrev pub OutsideWaitlist : ℕ → Type 0
OutsideWaitlist place = (place < time3) ⊎ (phase_words ≤ place)

-- no phase word and no word of FAILREG
abbrev pub OutsidePhases : ℕ → Type 0
OutsidePhases place = (place < phase_words) ⊎ (last_set ≤ place)

-- there are as many words as before, and each at a place of this kind is as before
pub record Keeps (IsKept : ℕ → Type 0) (old new : List ℕ) : Type 0 where
  pub same_length : length new ≡ length old
  pub words : (place : ℕ) → IsKept place → slice_index new place ≡ slice_index old place
