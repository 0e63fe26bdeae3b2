-- What the words are read as once a code was recorded.
use Rattle.std.proofs.Common.{◌≡◌, ◌≢◌, ℕ, ◌+◌, ◌<◌, ◌≤◌, Option, Some, None, List, [], ◌∷◌, length, slice_index, slice_set, refl, ap, sym, subst, ◌∙◌, inl, inr, arith}
use Rattle.std.proofs.lemmas.List.{get_or-set_same, get_or-set_other, length-set}
use Rattle.agc_word.specs.Layout.{Keeps, OutsidePhases}
use Rattle.agc_word.specs.Layout as layout
use Rattle.agc_plan.specs.declared.reply.Code.{Code}
use Rattle.agc_plan.specs.declared.reply.Code.TheVariants.{C1107, C1201, C1202, C1203}
use Rattle.agc_plan.specs.Base.{kept_first, with_code}
use Rattle.agc_phase.specs.Image.{AreFirstSecondLatest, IsFailreg, failreg_word, codes_in, code_word, code_of_word, base_of, IsLawfulTable, Becomes}
use Rattle.agc_phase.specs.Image.{IsCodeWord}
use Rattle.agc_phase.specs.Writing.{minus_place}
use Rattle.agc_phase.specs.Recording.{free_place}
use Rattle.agc_phase.proofs.Reading.{ArePairs-are, ArePairs-at, code_of_word-code_word, codes_in-is, each_of_three}
use Rattle.agc_phase.proofs.Kept.{phases_in-same}

-- one more code leaves a FAILREG
IsFailreg-recorded : (first second latest : Option Code) (code : Code) → AreFirstSecondLatest first second latest → IsFailreg (slice_set (kept_first first second code (first ∷ second ∷ latest ∷ [])) 2 (Some code))
IsFailreg-recorded None None latest code is = refl
IsFailreg-recorded None (Some second) latest code is = absurd (cc)
IsFailreg-recorded (Some first) None latest code is = refl
IsFailreg-recorded (Some first) (Some second) latest code is = refl

-- the word of a code was written at a place and at the last, and nothing else changed
record Recorded (place word : ℕ) (old new : List ℕ) : Type 0 where
  pub here : slice_index new place ≡ word
  pub last : slice_index new (layout.failreg + 2) ≡ word
  pub same : (j : ℕ) → j ≢ place → j ≢ layout.failreg + 2 → slice_index new j ≡ slice_index old j
  pub same_length : length new ≡ length old

-- two words were set
recorded_set : (old : List ℕ) (place word : ℕ) → layout.last_set ≤ length old → place < 132 → Recorded place word old (slice_set (slice_set old place word) (layout.failreg + 2) word)
recorded_set old place word size lt = record {
  here = grind (arith, get_or-set_same, get_or-set_other, length-set);
  last = get_or-set_same (slice_set old place word) (layout.failreg + 2) word 0 (rw (length-set old place word) (omega arith));
  same = λ j away off. get_or-set_other (slice_set old place word) (layout.failreg + 2) j word 0 off ∙ get_or-set_other old place j word 0 away;
  same_length = length-set (slice_set old place word) (layout.failreg + 2) word ∙ length-set old place word;
}

-- the words of FAILREG, once a code was recorded
record FailregIs (first second latest : ℕ) (words : List ℕ) : Type 0 where
  pub first_is : failreg_word words 0 ≡ first
  pub second_is : failreg_word words 1 ≡ second
  pub latest_is : failreg_word words 2 ≡ latest

-- a place outside is none of FAILREG's
away : (j place : ℕ) → OutsidePhases j → layout.failreg ≤ place → place < 132 → j ≢ place
away j place (inl lt) from to = omega arith
away j place (inr ge) from to = omega arith

-- from these three words on
finish : (old new : List ℕ) (place word : ℕ) (code : Code) (first second : ℕ) → IsLawfulTable old → layout.failreg ≤ place → place < 132 → Recorded place word old new → IsCodeWord first → IsCodeWord second → word ≡ code_word (Some code) → FailregIs first second word new → (code_of_word first ∷ code_of_word second ∷ Some code ∷ []) ≡ (with_code code (base_of old)).codes → Becomes (with_code code (base_of old)) old new
finish old new place word code first second lawful from to recorded first_coded second_coded word_is failreg codes_are =
    let latest_is : code_of_word word ≡ Some code = ap code_of_word word_is ∙ code_of_word-code_word (Some code) in
    let codes_is : codes_in new ≡ (with_code code (base_of old)).codes = codes_in-is new _ _ _ (ap code_of_word failreg.first_is) (ap code_of_word failreg.second_is) (ap code_of_word failreg.latest_is ∙ latest_is) ∙ codes_are in
    let same : (j : ℕ) → j < layout.failreg → slice_index new j ≡ slice_index old j = λ j lt. recorded.same j (omega arith) (omega arith) in
    record {
      lawful = record {
        pairs = ArePairs-are new (λ k lt. rw (same (minus_place k) (omega arith), same (minus_place k + 1) (omega arith)) (ArePairs-at old lawful.pairs k lt));
        spelled = each_of_three (λ k. IsCodeWord (failreg_word new k)) (subst IsCodeWord (sym failreg.first_is) first_coded) (subst IsCodeWord (sym failreg.second_is) second_coded)
            (subst IsCodeWord (sym failreg.latest_is) (rw latest_is word_is));
        failreg = subst IsFailreg (sym codes_is) (IsFailreg-recorded _ _ _ code lawful.failreg);
      };
      base_is = rw (codes_is, phases_in-same old new (λ k lt. same (minus_place k + 1) (omega arith))) refl;
      others = record { same_length = recorded.same_length; words = λ j outside. recorded.same j (away j place outside from to) (away j (layout.failreg + 2) outside (omega arith) (omega arith)) };
    }

-- no code's word is 00000
code_word-some : (code : Code) → code_word (Some code) ≢ 0
code_word-some C1107 is = omega arith
code_word-some C1201 is = omega arith
code_word-some C1202 is = omega arith
code_word-some C1203 is = omega arith

place_of-none : (words : List ℕ) → failreg_word words 0 ≡ 0 → free_place words ≡ layout.failreg
place_of-none words first = rw first refl

place_of-one : (words : List ℕ) → failreg_word words 0 ≢ 0 → failreg_word words 1 ≡ 0 → free_place words ≡ layout.failreg + 1
place_of-one words first second = grind arith

place_of-two : (words : List ℕ) → failreg_word words 0 ≢ 0 → failreg_word words 1 ≢ 0 → free_place words ≡ layout.failreg + 2
place_of-two words first second = grind arith

-- by the codes that were there
recorded_by : (old new : List ℕ) (word : ℕ) (code : Code) (first second : Option Code) → IsLawfulTable old → word ≡ code_word (Some code) → Recorded (free_place old) word old new → code_of_word (failreg_word old 0) ≡ first → code_of_word (failreg_word old 1) ≡ second → Becomes (with_code code (base_of old)) old new
recorded_by old new word code None second lawful word_is recorded first_is second_is =
    let blank : failreg_word old 0 ≡ 0 = lawful.spelled 0 (omega arith) ∙ ap code_word first_is in
    let there : Recorded layout.failreg word old new = subst (λ p. Recorded p word old new) (place_of-none old blank) recorded in
    finish old new layout.failreg word code word (failreg_word old 1) lawful (omega arith) (omega arith) there
    (rw word_is (ap code_word (sym (code_of_word-code_word (Some code))))) (lawful.spelled 1 (omega arith)) word_is
    (record { first_is = there.here; second_is = there.same (layout.failreg + 1) (omega arith) (omega arith); latest_is = there.last })
    (rw (first_is, word_is, code_of_word-code_word (Some code)) refl)
recorded_by old new word code (Some first) None lawful word_is recorded first_is second_is =
    let taken : failreg_word old 0 ≡ code_word (Some first) = lawful.spelled 0 (omega arith) ∙ ap code_word first_is in
    let filled : failreg_word old 0 ≢ 0 = λ zero_is. code_word-some first (sym taken ∙ zero_is) in
    let blank : failreg_word old 1 ≡ 0 = lawful.spelled 1 (omega arith) ∙ ap code_word second_is in
    let there : Recorded (layout.failreg + 1) word old new = subst (λ p. Recorded p word old new) (place_of-one old filled blank) recorded in
    finish old new (layout.failreg + 1) word code (failreg_word old 0) word lawful (omega arith) (omega arith) there
    (lawful.spelled 0 (omega arith)) (rw word_is (ap code_word (sym (code_of_word-code_word (Some code))))) word_is
    (record { first_is = there.same layout.failreg (omega arith) (omega arith); second_is = there.here; latest_is = there.last })
    (rw (first_is, second_is, word_is, code_of_word-code_word (Some code)) refl)
recorded_by old new word code (Some first) (Some second) lawful word_is recorded first_is second_is =
    let taken : failreg_word old 0 ≡ code_word (Some first) = lawful.spelled 0 (omega arith) ∙ ap code_word first_is in
    let filled : failreg_word old 0 ≢ 0 = λ zero_is. code_word-some first (sym taken ∙ zero_is) in
    let taken_too : failreg_word old 1 ≡ code_word (Some second) = lawful.spelled 1 (omega arith) ∙ ap code_word second_is in
    let filled_too : failreg_word old 1 ≢ 0 = λ zero_is. code_word-some second (sym taken_too ∙ zero_is) in
    let there : Recorded (layout.failreg + 2) word old new = subst (λ p. Recorded p word old new) (place_of-two old filled filled_too) recorded in
    finish old new (layout.failreg + 2) word code (failreg_word old 0) (failreg_word old 1) lawful (omega arith) (omega arith) there
    (lawful.spelled 0 (omega arith)) (lawful.spelled 1 (omega arith)) word_is
    (record { first_is = there.same layout.failreg (omega arith) (omega arith); second_is = there.same (layout.failreg + 1) (omega arith) (omega arith); latest_is = there.last })
    (rw (first_is, second_is) refl)

free_place-low : (words : List ℕ) → free_place words < 132
free_place-low words = grind arith

-- a code was recorded
pub Becomes-recorded : (old new : List ℕ) (word place : ℕ) (code : Code) → layout.last_set ≤ length old → IsLawfulTable old → word ≡ code_word (Some code) → place ≡ free_place old → new ≡ slice_set (slice_set old place word) (layout.failreg + 2) word → Becomes (with_code code (base_of old)) old new
Becomes-recorded old new word place code size lawful word_is place_is new_is =
    let at_place : Recorded place word old new = subst (Recorded place word old) (sym new_is) (recorded_set old place word size (rw place_is (free_place-low old))) in
    recorded_by old new word code _ _ lawful word_is (subst (λ p. Recorded p word old new) place_is at_place) refl refl
