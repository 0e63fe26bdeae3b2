-- The words in a caller's array of 144 numbers, and when they are an image.
use Rattle.std.specs.Prelude.{◌≡◌, ◌⊎◌, ℕ, ◌+◌, ◌*◌, ◌<◌, List, length, take, drop, slice_index}
use Rattle.agc_word.specs.Layout.{others_size, set_size, IsSized, sets_in}
use Rattle.agc_exec.specs.Image as cores
use Rattle.agc_wait.specs.Table as table
use Rattle.agc_phase.specs.Image as phases

-- seven core sets, or eight
abbrev pub IsSets : ℕ → Type 0
IsSets sets = (sets ≡ 7) ⊎ (sets ≡ 8)

-- how many words there are with this many core sets: 132, or 144
abbrev pub size_with : ℕ → ℕ
size_with sets = others_size + set_size * sets

-- the first numbers of the array, as many as there are words
abbrev pub image_of : ℕ → List ℕ → List ℕ
image_of sets array = take (size_with sets) array

-- the numbers after them
abbrev pub behind : ℕ → List ℕ → List ℕ
behind sets array = drop (size_with sets) array

-- each is a word of fifteen bits
abbrev pub AreWords : List ℕ → Type 0
AreWords words = (place : ℕ) → place < length words → slice_index words place < 32768

-- lawful words: each table's part is. A task may be due
pub record IsLawful (words : List ℕ) : Type 0 where
  pub cores : cores.IsLawfulWords words
  pub waits : table.IsLawfulTable words
  pub phases : phases.IsLawfulTable words

-- the array has an image of this many core sets
pub record IsImage (sets : ℕ) (array : List ℕ) : Type 0 where
  pub count : IsSets sets
  pub words : AreWords (image_of sets array)
  pub lawful : IsLawful (image_of sets array)

-- these are the lawful words of an array that has an image
pub record IsOpened (sets : ℕ) (array words : List ℕ) : Type 0 where
  pub image : words ≡ image_of sets array
  pub size : length words ≡ size_with sets
  pub lawful : IsLawful words

-- these words were written into the first places of an array, and the numbers after them stay
pub record IsWritten (words old new : List ℕ) : Type 0 where
  pub sized : IsSized words
  pub range : AreWords words
  pub image : image_of (sets_in words) new ≡ words
  pub rest : behind (sets_in words) new ≡ behind (sets_in words) old

-- the words of an array became others, by what a call does, and are an image again; the numbers
-- after them are as before
pub record Changed (does : List ℕ → List ℕ → Type 0) (sets : ℕ) (old new : List ℕ) : Type 0 where
  pub did : does (image_of sets old) (image_of sets new)
  pub image : IsImage sets new
  pub rest : behind sets new ≡ behind sets old
