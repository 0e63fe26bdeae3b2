-- What the words of the table are read as, pair by pair and code by code.
use Rattle.std.proofs.Common.{◌≡◌, ◌↔◌, ℕ, zero, suc, ◌+◌, ◌*◌, ◌<◌, ◌≤◌, Option, Some, None, List, [], ◌∷◌, length, length-set, drop, slice_index, slice_index_or, slice_set, get_or-set_same, get_or-set_other, refl, ap, sym, subst, ◌∙◌, inl, inr, arith}
use Rattle.std.proofs.lemmas.Bool.{cases_eq}
use Rattle.std.proofs.lemmas.List.{get_or-take, get_or-drop, get_or_default}
use Rattle.std.proofs.lemmas.Grind.{same_number_lists}
use Rattle.agc_word.specs.Layout as layout
use Rattle.agc_plan.specs.declared.reply.Code.{Code}
use Rattle.agc_plan.specs.declared.reply.Code.TheVariants.{C1107, C1201, C1202, C1203}
use Rattle.agc_phase.specs.Image.{ArePairs, minus_in, phase_in, phases_in, phase_words, code_word, code_of_word, failreg_word, failreg_words, codes_in, IsCodeWord, IsLawfulBase, IsLawfulTable, base_of}
use Rattle.agc_phase.specs.Writing.{IsPair, IsLawfulFailreg}
use Rattle.agc_phase.specs.Writing.{minus_place}

-- a word among the twelve phase words
pub phase_words-at : (words : List ℕ) (i j : ℕ) → i < 12 → j ≡ layout.phase_words + i → slice_index (phase_words words) i ≡ slice_index words j
phase_words-at words i j lt e =
    get_or-take 12 (drop layout.phase_words words) i 0 lt ∙ get_or-drop layout.phase_words words i 0 ∙ ap (slice_index words) (sym e)

pub minus_in-at : (words : List ℕ) (k : ℕ) → k < 6 → minus_in (phase_words words) k ≡ slice_index words (minus_place k)
minus_in-at words k lt = phase_words-at words (2 * k) (minus_place k) (omega arith) refl

pub phase_in-at : (words : List ℕ) (k : ℕ) → k < 6 → phase_in (phase_words words) k ≡ slice_index words (minus_place k + 1)
phase_in-at words k lt = phase_words-at words (2 * k + 1) (minus_place k + 1) (omega arith) (omega arith)

-- a phase among the six
pub phases_in-at : (twelve : List ℕ) (k : ℕ) → k < 6 → slice_index (phases_in twelve) k ≡ phase_in twelve k
phases_in-at twelve zero lt = refl
phases_in-at twelve (suc zero) lt = refl
phases_in-at twelve (suc (suc zero)) lt = refl
phases_in-at twelve (suc (suc (suc zero))) lt = refl
phases_in-at twelve (suc (suc (suc (suc zero)))) lt = refl
phases_in-at twelve (suc (suc (suc (suc (suc zero))))) lt = refl
phases_in-at twelve (suc (suc (suc (suc (suc (suc k)))))) lt = absurd (omega arith)

-- the phases are these six, if each stands in its pair
pub phases_in-is : (words phases : List ℕ) → length phases ≡ 6 → ((k : ℕ) → k < 6 → slice_index words (minus_place k + 1) ≡ slice_index phases k) → phases_in (phase_words words) ≡ phases
phases_in-is words phases six at =
    same_number_lists (phases_in (phase_words words)) phases (sym six)
    (λ k lt. phases_in-at (phase_words words) k lt ∙ phase_in-at words k lt ∙ at k lt)

-- pairs agree, if those at their places do
pub ArePairs-are : (words : List ℕ) → ((k : ℕ) → k < 6 → IsPair (slice_index words (minus_place k)) (slice_index words (minus_place k + 1))) → ArePairs (phase_words words)
ArePairs-are words pairs = λ k lt. rw (minus_in-at words k lt, phase_in-at words k lt) (pairs k lt)

-- and the other way round
pub ArePairs-at : (words : List ℕ) → ArePairs (phase_words words) → (k : ℕ) → k < 6 → IsPair (slice_index words (minus_place k)) (slice_index words (minus_place k + 1))
ArePairs-at words pairs k lt = rw (← minus_in-at words k lt, ← phase_in-at words k lt) (pairs k lt)

-- what stands at the place of a phase is that phase, at most 127, if the pairs agree
pub phase_in-is : (words : List ℕ) (k word : ℕ) → ArePairs (phase_words words) → k < 6 → word ≡ slice_index words (minus_place k + 1) → (word ≡ phase_in (phase_words words) k) × (word ≤ 127)
phase_in-is words k word pairs lt is =
    (is ∙ sym (phase_in-at words k lt), rw is (ArePairs-at words pairs k lt).1)

-- a code's word is read as that code
pub code_of_word-code_word : (code : Option Code) → code_of_word (code_word code) ≡ code
code_of_word-code_word None = refl
code_of_word-code_word (Some C1107) = refl
code_of_word-code_word (Some C1201) = refl
code_of_word-code_word (Some C1202) = refl
code_of_word-code_word (Some C1203) = refl

-- what holds of each of three holds of all
pub each_of_three : (P : ℕ → Type 0) → P 0 → P 1 → P 2 → (k : ℕ) → k < 3 → P k
each_of_three P a b c zero lt = a
each_of_three P a b c (suc zero) lt = b
each_of_three P a b c (suc (suc zero)) lt = c
each_of_three P a b c (suc (suc (suc k))) lt = absurd (omega arith)

-- the codes of three words
pub codes_in-is : (words : List ℕ) (first second latest : Option Code) → code_of_word (failreg_word words 0) ≡ first → code_of_word (failreg_word words 1) ≡ second → code_of_word (failreg_word words 2) ≡ latest → codes_in words ≡ first ∷ second ∷ latest ∷ []
codes_in-is words first second latest a b c = rw (a, b, c) refl

-- what lawful words are read as is a lawful base
pub IsLawfulBase-read : (words : List ℕ) → IsLawfulTable words → IsLawfulBase (base_of words)
IsLawfulBase-read words lawful = record {
  six = refl;
  range = λ k lt. rw (phases_in-at (phase_words words) k lt) (lawful.pairs k lt).1;
  three = refl;
  failreg = lawful.failreg;
}

-- the pairs and phases of so many groups, as they are read from twelve words
pub record ReadSoFar (words phases : List ℕ) (n : ℕ) : Type 0 where
  pub six : length phases ≡ 6
  pub pairs : (k : ℕ) → k < n → IsPair (minus_in words k) (phase_in words k)
  pub phases_are : (k : ℕ) → k < n → slice_index phases k ≡ phase_in words k

-- a word of twelve, read at any default
pub read_at : (words : List ℕ) (i word : ℕ) → length words ≡ 12 → i < 12 → slice_index_or words i word ≡ slice_index words i
read_at words i word twelve lt = get_or_default words i word 0 (omega arith)

-- one more pair was read
pub read_more : (words phases : List ℕ) (k minus word phase : ℕ) → k < 6 → minus ≡ minus_in words k → word ≡ phase_in words k → phase ≡ word → IsPair minus word → ReadSoFar words phases k → ReadSoFar words (slice_set phases k phase) (k + 1)
read_more words phases k minus word phase lt minus_is word_is phase_is pair so_far = record {
  six = length-set phases k phase ∙ so_far.six;
  pairs = λ j less. elim (cases_eq j k) [
    | inl e ↦ subst (λ (i : ℕ). IsPair (minus_in words i) (phase_in words i)) (sym e) here
    | inr ne ↦ so_far.pairs j (omega arith)
  ];
  phases_are = λ j less. elim (cases_eq j k) [
    | inl e ↦ ap (slice_index (slice_set phases k phase)) e ∙ set ∙ ap (phase_in words) (sym e)
    | inr ne ↦ get_or-set_other phases k j phase 0 ne ∙ so_far.phases_are j (omega arith)
  ];
}
  where
    here : IsPair (minus_in words k) (phase_in words k)
    here = subst (λ (w : ℕ). IsPair (minus_in words k) w) word_is (subst (λ (m : ℕ). IsPair m word) minus_is pair)

    set : slice_index (slice_set phases k phase) k ≡ phase_in words k
    set = let six : length phases ≡ 6 = so_far.six in get_or-set_same phases k phase 0 (omega arith) ∙ phase_is ∙ word_is

-- six pairs were read
pub phases_read : (words phases : List ℕ) → ReadSoFar words phases 6 → phases ≡ phases_in words
phases_read words phases all =
    same_number_lists phases (phases_in words) all.six
    (λ k lt. let six : length phases ≡ 6 = all.six in all.phases_are k (omega arith) ∙ sym (phases_in-at words k (omega arith)))

-- three words that FAILREG may hold, each read at some default
abbrev IsThree : ℕ → ℕ → ℕ → List ℕ → Type 0
IsThree a b c list = IsLawfulFailreg (slice_index_or list 0 a) (slice_index_or list 1 b) (slice_index_or list 2 c)

-- a lawful table is what its pairs and its three words of FAILREG are
pub lawful_by_parts : (words twelve failreg : List ℕ) (a b c : ℕ) (P : Type 0) → twelve ≡ phase_words words → failreg ≡ failreg_words words → ArePairs twelve → (P ↔ IsThree a b c failreg) → (P ↔ IsLawfulTable words)
lawful_by_parts words twelve failreg a b c P twelve_is failreg_is pairs is = (
  λ p. let f : IsThree a b c (failreg_words words) = subst (IsThree a b c) failreg_is (is.0 p) in
      record {
        pairs = subst ArePairs twelve_is pairs;
        spelled = each_of_three (λ (k : ℕ). IsCodeWord (failreg_word words k)) f.first_coded f.second_coded f.latest_coded;
        failreg = f.order;
      },
  λ lawful. let f : IsThree a b c (failreg_words words) = record {
    first_coded = lawful.spelled 0 (omega arith);
    second_coded = lawful.spelled 1 (omega arith);
    latest_coded = lawful.spelled 2 (omega arith);
    order = lawful.failreg;
  } in is.1 (subst (IsThree a b c) (sym failreg_is) f),
)
