-- The words of so many sets, at the front of the places for eight.
use Rattle.std.proofs.Common.{◌≡◌, ℕ, ◌-◌, ◌<◌, ◌≤◌, List, length, replicate, slice_set, ap, sym, ◌∙◌, arith}
use Rattle.std.proofs.lemmas.List.{length-set, length-take-le, set-append_left}
use Rattle.std.proofs.Math.Seq.{take-set-lt}
use Rattle.agc_word.specs.declared.sets.Sets.{Sets}
use Rattle.agc_word.specs.declared.sets.Sets.TheVariants.{Seven, Eight}
use Rattle.agc_word.specs.Layout.{padded, places_in}
use Rattle.agc_word.specs.Profiles.{size_of, words_with}

size_of-most : (sets : Sets) → size_of sets ≤ 144
size_of-most Seven = omega arith
size_of-most Eight = omega arith

pub length-words_with : (sets : Sets) (words : List ℕ) → length words ≡ 144 → length (words_with sets words) ≡ size_of sets
length-words_with sets words len = let most : size_of sets ≤ 144 = size_of-most sets in length-take-le (size_of sets) words (omega arith)

-- a word was set
pub words_with-set : (sets : Sets) (words : List ℕ) (place w : ℕ) → length words ≡ 144 → place < length (words_with sets words) → words_with sets (slice_set words place w) ≡ slice_set (words_with sets words) place w
words_with-set sets words place w len lt = let size : length (words_with sets words) ≡ size_of sets = length-words_with sets words len in take-set-lt (size_of sets) words place w (omega arith)

pub padded-set : (words : List ℕ) (place w : ℕ) → place < length words → padded (slice_set words place w) ≡ slice_set (padded words) place w
padded-set words place w lt =
    let len : length (slice_set words place w) ≡ length words = length-set words place w in
    rw len (sym (set-append_left words (replicate (144 - length words) 0) place w lt))

pub padded-kept : (sets : Sets) (words : List ℕ) (place w : ℕ) → length words ≡ 144 → place < length (words_with sets words) → words ≡ padded (words_with sets words) → slice_set words place w ≡ padded (words_with sets (slice_set words place w))
padded-kept sets words place w len lt is =
    ap (λ l. slice_set l place w) is ∙ sym (padded-set (words_with sets words) place w lt) ∙ ap padded (sym (words_with-set sets words place w len lt))

-- each place that there is has a word
pub within : (sets : Sets) (words seen : List ℕ) (place : ℕ) → length words ≡ 144 → words_with sets words ≡ seen → place < places_in seen → place < length (words_with sets words)
within Seven words seen place len is lt =
    let size : length (words_with Seven words) ≡ 132 = length-words_with Seven words len in
    let same : length (words_with Seven words) ≡ length seen = ap length is in
    omega arith
within Eight words seen place len is lt =
    let size : length (words_with Eight words) ≡ 144 = length-words_with Eight words len in
    let same : length (words_with Eight words) ≡ length seen = ap length is in
    omega arith
