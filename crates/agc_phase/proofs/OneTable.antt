-- Phases and codes have one table of words.
use Rattle.std.proofs.Common.{◌≡◌, ℕ, zero, suc, ◌+◌, ◌-◌, ◌*◌, ◌<◌, ◌≤◌, None, List, slice_index, slice_index_or, ap, sym, subst, ◌∙◌, inl, inr, arith}
use Rattle.std.proofs.lemmas.Bool.{cases_lt}
use Rattle.agc_word.specs.Layout as layout
use Rattle.agc_word.specs.Words.{complement}
use Rattle.agc_plan.specs.Base.{Base}
use Rattle.agc_phase.specs.Image.{phase_words, failreg_word, code_word, code_of_word, IsLawfulTable, ShowSameBase, SameTable}
use Rattle.agc_phase.specs.Writing.{minus_place}
use Rattle.agc_phase.proofs.Reading.{phases_in-at, phase_in-at, ArePairs-at, each_of_three}

-- a number is even or odd
data Halved (n : ℕ) : Type 0 where
  Even : (k : ℕ) → n ≡ 2 * k → Halved n
  Odd : (k : ℕ) → n ≡ 2 * k + 1 → Halved n

halved : (n : ℕ) → Halved n
halved zero = Even 0 (omega arith)
halved (suc n) = next (halved n)
  where
    next : Halved n → Halved (suc n)
    next (Even k is) = Odd k (omega arith)
    next (Odd k is) = Even (k + 1) (omega arith)

-- what holds of both words of each pair, and of each word of FAILREG, holds of every place
at_each_place : (P : ℕ → Type 0) → ((k : ℕ) → k < 6 → P (minus_place k)) → ((k : ℕ) → k < 6 → P (minus_place k + 1)) → ((k : ℕ) → k < 3 → P (layout.failreg + k)) → (place : ℕ) → layout.phase_words ≤ place → place < layout.last_set → P place
at_each_place P minus phase code place from to = elim (cases_lt place layout.failreg) [
  | inl lt ↦ pair lt (halved (place - layout.phase_words))
  | inr ge ↦
      let is : layout.failreg + (place - layout.failreg) ≡ place = omega arith in
      subst P is (code (place - layout.failreg) (omega arith))
]
  where
    pair : place < layout.failreg → Halved (place - layout.phase_words) → P place
    pair lt (Even k half) =
        let is : minus_place k ≡ place = omega arith in
        subst P is (minus k (omega arith))
    pair lt (Odd k half) =
        let is : minus_place k + 1 ≡ place = omega arith in
        subst P is (phase k (omega arith))

pub one_table : (these those : List ℕ) → ShowSameBase these those → SameTable these those
one_table these those shows =
    let a : IsLawfulTable these = shows.lawful in
    let b : IsLawfulTable those = shows.lawful_too in
    let phase : (k : ℕ) → k < 6 → slice_index these (minus_place k + 1) ≡ slice_index those (minus_place k + 1) = λ k lt.
    sym (phase_in-at these k lt) ∙ sym (phases_in-at (phase_words these) k lt) ∙ ap (λ (base : Base). slice_index base.phases k) shows.same ∙ phases_in-at (phase_words those) k lt ∙ phase_in-at those k lt in
    at_each_place (λ place. slice_index these place ≡ slice_index those place)
    (λ k lt. (ArePairs-at these a.pairs k lt).0 ∙ ap complement (phase k lt) ∙ sym (ArePairs-at those b.pairs k lt).0)
    phase
    (λ k lt. a.spelled k lt ∙ ap code_word (code k lt) ∙ sym (b.spelled k lt))
  where
    code : (k : ℕ) → k < 3 → code_of_word (failreg_word these k) ≡ code_of_word (failreg_word those k)
    code = each_of_three (λ k. code_of_word (failreg_word these k) ≡ code_of_word (failreg_word those k))
        (ap (λ (base : Base). slice_index_or base.codes 0 None) shows.same)
        (ap (λ (base : Base). slice_index_or base.codes 1 None) shows.same)
        (ap (λ (base : Base). slice_index_or base.codes 2 None) shows.same)
