-- The first numbers of an array.
use Rattle.std.proofs.Common.{◌≡◌, ℕ, ◌<◌, ◌≤◌, List, length, slice_index, refl, sym, ◌∙◌, inl, inr, arith}
use Rattle.std.proofs.lemmas.List.{ext_get_or, get_or-take, length-take-le}
use Rattle.agc_word.specs.declared.sets.Sets.{Sets}
use Rattle.agc_word.specs.declared.sets.Sets.TheVariants.{Seven, Eight}
use Rattle.agc_word.specs.Layout.{IsSized, sets_in}
use Rattle.agc_word.specs.Profiles.{count_of, size_of}
use Rattle.agc_image.specs.Images.{IsSets, size_with, image_of, AreWords}

pub size_most : (sets : Sets) → size_of sets ≤ 144
size_most Seven = omega arith
size_most Eight = omega arith

pub length-image : (sets : Sets) (array : List ℕ) → length array ≡ 144 → length (image_of (count_of sets) array) ≡ size_of sets
length-image sets array long = let most : size_of sets ≤ 144 = size_most sets in length-take-le (size_of sets) array (omega arith)

pub at_image : (sets : Sets) (array : List ℕ) (place : ℕ) → place < size_of sets → slice_index (image_of (count_of sets) array) place ≡ slice_index array place
at_image sets array place lt = get_or-take (size_of sets) array place 0 lt

pub word_at : (sets : Sets) (array : List ℕ) (place : ℕ) → length array ≡ 144 → AreWords (image_of (count_of sets) array) → place < size_of sets → slice_index array place < 32768
word_at sets array place long words within =
    let size : length (image_of (count_of sets) array) ≡ size_of sets = length-image sets array long in
    let same : slice_index (image_of (count_of sets) array) place ≡ slice_index array place = at_image sets array place within in
    let word : slice_index (image_of (count_of sets) array) place < 32768 = words place (omega arith) in
    omega arith

-- words that are those of the array, place by place
pub image_is : (sets : Sets) (array words : List ℕ) → length array ≡ 144 → length words ≡ size_of sets → ((place : ℕ) → place < size_of sets → slice_index words place ≡ slice_index array place) → words ≡ image_of (count_of sets) array
image_is sets array words long size each =
    let size_too : length (image_of (count_of sets) array) ≡ size_of sets = length-image sets array long in
    ext_get_or 0 words (image_of (count_of sets) array) (size ∙ sym size_too) (λ i lt. each i (omega arith) ∙ sym (at_image sets array i (omega arith)))

pub size_is : (words : List ℕ) → IsSized words → size_with (sets_in words) ≡ length words
size_is words sized = elim sized [ inl seven ↦ omega arith | inr eight ↦ omega arith ]

-- words that were written into the array, place by place
pub written : (words array : List ℕ) → IsSized words → length array ≡ 144 → ((place : ℕ) → place < length words → slice_index array place ≡ slice_index words place) → image_of (sets_in words) array ≡ words
written words array sized long each =
    let size : size_with (sets_in words) ≡ length words = size_is words sized in
    let most : length words ≤ 144 = elim sized [ inl seven ↦ omega arith | inr eight ↦ omega arith ] in
    let len : length (image_of (sets_in words) array) ≡ size_with (sets_in words) = length-take-le (size_with (sets_in words)) array (omega arith) in
    ext_get_or 0 (image_of (sets_in words) array) words (len ∙ size)
    (λ i lt. get_or-take (size_with (sets_in words)) array i 0 (omega arith) ∙ each i (omega arith))

-- seven core sets or eight
pub counted : (sets : Sets) → IsSets (count_of sets)
counted Seven = inl refl
counted Eight = inr refl
