-- Marks of numbers and areas, one set after the other.
use Rattle.std.proofs.Common.{◌≡◌, ◌≢◌, ℕ, ◌+◌, ◌%◌, ◌<◌, ◌≤◌, Bool, true, false, List, Option, None, length, slice_index, slice_index_or, slice_set, replicate, refl, ap, sym, ◌∙◌, inl, inr, arith}
use Rattle.std.proofs.lemmas.Bool.{cases_eq, cases_lt}
use Rattle.std.proofs.lemmas.List.{get_or-set_same, get_or-set_other, get_or-replicate, get_or_past, length-set}
use Rattle.agc_word.specs.Layout.{sets_in, set_place, area_of}
use Rattle.agc_exec.specs.HeldJob.{HeldJob}
use Rattle.agc_exec.specs.Blocks.{block_in}
use Rattle.agc_exec.specs.Image.{minus_zero, sets_of}
use Rattle.agc_exec.specs.Sets.{number_in}
use Rattle.agc_exec.specs.Stages.{unsigned, IsSoundAt, Differs, IsApart, area_held, number_at, area_at, AreMarked, AreJudged, owned_in}
use Rattle.agc_exec.proofs.Judging.{area_held-word, owned_at, owned_nowhere}
use Rattle.agc_exec.proofs.Ranks.{at_words, held_by-free, number_in-held}
use Rattle.agc_exec.proofs.Reading.{get-block_in}

-- at first nothing is marked
pub AreMarked-none : (f : ℕ → ℕ) → AreMarked f 0 (replicate 9 false)
AreMarked-none f = record { nine = refl; marked = λ j lt some. absurd (omega arith); only = λ number low is. absurd (blank number is) } where
  blank : (number : ℕ) → slice_index_or (replicate 9 false) number false ≡ true → ⊥
  blank number is = elim (cases_lt number 9) [
    | inl lt ↦ let no : false ≡ true = sym (get_or-replicate 9 number false false lt) ∙ is in cc
    | inr past ↦ let no : false ≡ true = sym (get_or_past (replicate 9 false) number false past) ∙ is in cc
  ]

-- 0 isn't marked
pub AreMarked-same : (f : ℕ → ℕ) (n : ℕ) (marks : List Bool) → f n ≡ 0 → AreMarked f n marks → AreMarked f (n + 1) marks
AreMarked-same f n marks none m = record {
  nine = m.nine;
  marked = λ j lt some. elim (cases_eq j n) [
    | inl at ↦ let same : f j ≡ f n = ap f at in absurd (omega arith)
    | inr ne ↦ m.marked j (omega arith) some
  ];
  only = λ number low is. let (j, lt, at) = m.only number low is in (j, omega arith, at);
}

-- one more number is marked
pub AreMarked-more : (f : ℕ → ℕ) (n number : ℕ) (marks : List Bool) → number ≡ f n → number < 9 → AreMarked f n marks → AreMarked f (n + 1) (slice_set marks number true)
AreMarked-more f n number marks is within m = record {
  nine = length-set marks number true ∙ m.nine;
  marked = λ j lt some. elim (cases_eq (f j) number) [
    | inl same ↦ rw same (get_or-set_same marks number true false (let e : length marks ≡ 9 = m.nine in omega arith))
    | inr ne ↦ elim (cases_eq j n) [
      | inl at ↦ absurd (ne (ap f at ∙ sym is))
      | inr before ↦ get_or-set_other marks number (f j) true false ne ∙ m.marked j (omega arith) some
    ]
  ];
  only = λ other low on. elim (cases_eq other number) [
    | inl same ↦ (n, omega arith, sym is ∙ sym same)
    | inr ne ↦
        let (j, lt, at) = m.only other low (sym (get_or-set_other marks number other true false ne) ∙ on) in
        (j, omega arith, at)
  ];
}

-- a number that isn't marked is another than those before it
pub unmarked_differs : (f : ℕ → ℕ) (n : ℕ) (marks : List Bool) → AreMarked f n marks → (0 < f n → slice_index_or marks (f n) false ≡ false) → (j : ℕ) → j < n → Differs (f j) (f n)
unmarked_differs f n marks m free j lt positive same =
    let off : slice_index_or marks (f n) false ≡ false = free (omega arith) in
    let no : true ≡ false = sym (m.marked j lt positive) ∙ ap (λ x. slice_index_or marks x false) same ∙ off in
    cc

-- and the other way round
pub differs_unmarked : (f : ℕ → ℕ) (n : ℕ) (marks : List Bool) → AreMarked f n marks → ((j : ℕ) → j < n → Differs (f j) (f n)) → 0 < f n → slice_index_or marks (f n) false ≡ false
differs_unmarked f n marks m apart low = go (slice_index_or marks (f n) false) refl where
  go : (b : Bool) → slice_index_or marks (f n) false ≡ b → b ≡ false
  go false e = refl
  go true e = let (j, lt, at) = m.only (f n) low e in absurd (apart j lt (omega arith) at)

-- number and area of a set that isn't free, by its words
pub number_at-words : (words : List ℕ) (k : ℕ) → k < sets_in words → slice_index words (set_place k + 11) ≢ minus_zero → number_at (sets_of words) k ≡ slice_index words (set_place k + 0)
number_at-words words k lt ne =
    ap number_in (at_words words k lt) ∙ number_in-held (block_in words k) (slice_index words (set_place k + 11)) ne ∙ get-block_in words k 0 0 (omega arith)

pub area_at-words : (words : List ℕ) (k : ℕ) → k < sets_in words → slice_index words (set_place k + 11) ≢ minus_zero → area_at (sets_of words) k ≡ area_of (unsigned (slice_index words (set_place k + 11)) % 512)
area_at-words words k lt ne =
    ap area_held (at_words words k lt) ∙ area_held-word (block_in words k) (slice_index words (set_place k + 11)) ne

-- at first no set is judged
pub AreJudged-none : (words : List ℕ) → AreJudged words 0 (replicate 9 false) (replicate 9 false)
AreJudged-none words = record {
  sound = λ k lt. absurd (omega arith);
  apart = λ k lt. absurd (omega arith);
  numbered = AreMarked-none (number_at (sets_of words));
  owned = AreMarked-none (area_at (sets_of words));
}

-- one more set, which is free
pub AreJudged-free : (words : List ℕ) (k : ℕ) (numbers areas : List Bool) → k < sets_in words → slice_index words (set_place k + 11) ≡ minus_zero → AreJudged words k numbers areas → AreJudged words (k + 1) numbers areas
AreJudged-free words k numbers areas lt free j =
    let here : slice_index_or (sets_of words) k None ≡ None = at_words words k lt ∙ held_by-free (block_in words k) (slice_index words (set_place k + 11)) free in
    let no_number : number_at (sets_of words) k ≡ 0 = ap number_in here in
    let no_area : area_at (sets_of words) k ≡ 0 = ap area_held here in
    record {
      sound = λ i less. elim (cases_eq i k) [ inl at ↦ rw at (λ ne. absurd (ne free)) | inr ne ↦ j.sound i (omega arith) ];
      apart = λ i less. elim (cases_eq i k) [
        | inl at ↦ rw at (λ other before. record { numbers = λ positive same. omega arith; areas = λ positive same. omega arith })
        | inr ne ↦ j.apart i (omega arith)
      ];
      numbered = AreMarked-same (number_at (sets_of words)) k numbers no_number j.numbered;
      owned = AreMarked-same (area_at (sets_of words)) k areas no_area j.owned;
    }

-- one more set, whose words are a job's, and whose number and area weren't marked
pub AreJudged-more : (words : List ℕ) (k number area : ℕ) (numbers areas : List Bool) → IsSoundAt words k → number ≡ number_at (sets_of words) k → area ≡ area_at (sets_of words) k → number < 9 → area < 9 → (0 < number → slice_index_or numbers number false ≡ false) → (0 < area → slice_index_or areas area false ≡ false) → AreJudged words k numbers areas → AreJudged words (k + 1) (slice_set numbers number true) (slice_set areas area true)
AreJudged-more words k number area numbers areas sound number_is area_is few few_areas new_number new_area j = record {
  sound = λ i less. elim (cases_eq i k) [ inl at ↦ rw at sound | inr ne ↦ j.sound i (omega arith) ];
  apart = λ i less. elim (cases_eq i k) [ inl at ↦ rw at here | inr ne ↦ j.apart i (omega arith) ];
  numbered = AreMarked-more (number_at (sets_of words)) k number numbers number_is few j.numbered;
  owned = AreMarked-more (area_at (sets_of words)) k area areas area_is few_areas j.owned;
} where
  here : IsApart (sets_of words) k
  here other before = record {
    numbers = unmarked_differs (number_at (sets_of words)) k numbers j.numbered (rw number_is at new_number) other before;
    areas = unmarked_differs (area_at (sets_of words)) k areas j.owned (rw area_is at new_area) other before;
  }

-- a set that shares no number and no area has unmarked ones
pub number_unmarked : (words : List ℕ) (k : ℕ) (numbers areas : List Bool) → AreJudged words k numbers areas → IsApart (sets_of words) k → 0 < number_at (sets_of words) k → slice_index_or numbers (number_at (sets_of words) k) false ≡ false
number_unmarked words k numbers areas j apart =
    differs_unmarked (number_at (sets_of words)) k numbers j.numbered (λ other before. (apart other before).numbers)

pub area_unmarked : (words : List ℕ) (k : ℕ) (numbers areas : List Bool) → AreJudged words k numbers areas → IsApart (sets_of words) k → 0 < area_at (sets_of words) k → slice_index_or areas (area_at (sets_of words) k) false ≡ false
area_unmarked words k numbers areas j apart =
    differs_unmarked (area_at (sets_of words)) k areas j.owned (λ other before. (apart other before).areas)

-- an area that is marked is owned, and one that isn't isn't
pub marked_owned : (sets : List (Option HeldJob)) (n area : ℕ) (areas : List Bool) → 1 ≤ area → AreMarked (area_at sets) n areas → slice_index_or areas area false ≡ true → owned_in area sets ≡ true
marked_owned sets n area areas low m on = let (j, lt, at) = m.only area (omega arith) on in owned_at area sets j low at

pub unmarked_unowned : (sets : List (Option HeldJob)) (n area : ℕ) (areas : List Bool) → 1 ≤ area → n ≡ length sets → AreMarked (area_at sets) n areas → slice_index_or areas area false ≡ false → owned_in area sets ≡ false
unmarked_unowned sets n area areas low all m off = owned_nowhere area sets (λ k lt is.
    let on : slice_index_or areas (area_at sets k) false ≡ true = m.marked k (omega arith) (let same : area_at sets k ≡ area = is in omega arith) in
    let no : true ≡ false = sym on ∙ ap (λ x. slice_index_or areas x false) is ∙ off in
    cc)
