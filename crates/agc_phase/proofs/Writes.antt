-- What the words are read as once one pair, or all pairs and codes, were written.
use Rattle.std.proofs.Common.{◌≡◌, ◌≢◌, ℕ, ◌+◌, ◌<◌, Option, None, List, [], ◌∷◌, length, slice_index, slice_index_or, slice_set, refl, ap, sym, subst, ◌∙◌, inl, inr, arith}
use Rattle.std.proofs.lemmas.Bool.{cases_eq, cases_lt}
use Rattle.std.proofs.lemmas.List.{get_or-set_same, get_or-set_other, length-set}
use Rattle.agc_word.specs.Layout.{Keeps, OutsidePhases}
use Rattle.agc_word.specs.Layout as layout
use Rattle.agc_word.proofs.Keeping.{kept_twice, kept_also}
use Rattle.agc_word.specs.Words.{complement}
use Rattle.agc_plan.specs.declared.reply.Code.{Code}
use Rattle.agc_phase.specs.Image.{IsFailreg, phases_in, phase_words, failreg_word, codes_in, code_of_word, base_of, IsLawfulTable, Becomes}
use Rattle.agc_phase.specs.Image.{IsCodeWord}
use Rattle.agc_phase.specs.Writing.{IsPair}
use Rattle.agc_phase.specs.Writing.{minus_place, OutsidePair, OutsideFailreg, WritesPair, PairsWritten, CodesWritten}
use Rattle.agc_phase.proofs.Reading.{phases_in-is, phases_in-at, phase_in-at, ArePairs-are, ArePairs-at, code_of_word-code_word, codes_in-is}
use Rattle.agc_phase.proofs.Kept.{codes_in-same}

-- another group's words are outside
before : (k group : ℕ) → k ≢ group → OutsidePair group (minus_place k)
before k group other = elim (cases_lt k group) [ inl lt ↦ inl (omega arith) | inr ge ↦ inr (omega arith) ]

behind : (k group : ℕ) → k ≢ group → OutsidePair group (minus_place k + 1)
behind k group other = elim (cases_lt k group) [ inl lt ↦ inl (omega arith) | inr ge ↦ inr (omega arith) ]

-- what is outside all phase words and FAILREG is outside each pair, and outside FAILREG
off_pair : (group : ℕ) → group < 6 → (place : ℕ) → OutsidePhases place → OutsidePair group place
off_pair group lt place (inl low) = inl (omega arith)
off_pair group lt place (inr high) = inr (omega arith)

off_failreg : (place : ℕ) → OutsidePhases place → OutsideFailreg place
off_failreg place (inl low) = inl (omega arith)
off_failreg place (inr high) = inr (omega arith)

-- the phase of each pair, once one was written
phase-written_pair : (old new : List ℕ) (group phase : ℕ) → group < 6 → WritesPair group phase old new → (k : ℕ) → k < 6 → slice_index new (minus_place k + 1) ≡ slice_index (slice_set (phases_in (phase_words old)) group phase) k
phase-written_pair old new group phase lt written k k_lt = elim (cases_eq k group) [
  | inl same ↦
      ap (λ n. slice_index new (minus_place n + 1)) same ∙ written.phase_is ∙ sym (get_or-set_same (phases_in (phase_words old)) group phase 0 lt) ∙ ap (slice_index (slice_set (phases_in (phase_words old)) group phase)) (sym same)
  | inr other ↦
      written.others.words (minus_place k + 1) (behind k group other) ∙ sym (phase_in-at old k k_lt) ∙ sym (phases_in-at (phase_words old) k k_lt) ∙ sym (get_or-set_other (phases_in (phase_words old)) group k phase 0 other)
]

-- and each pair agrees
pair-written : (old new : List ℕ) (group phase : ℕ) → WritesPair group phase old new → ((k : ℕ) → k < 6 → IsPair (slice_index old (minus_place k)) (slice_index old (minus_place k + 1))) → (k : ℕ) → k < 6 → IsPair (slice_index new (minus_place k)) (slice_index new (minus_place k + 1))
pair-written old new group phase written pairs k lt = elim (cases_eq k group) [
  | inl same ↦ subst (λ n. IsPair (slice_index new (minus_place n)) (slice_index new (minus_place n + 1))) (sym same) (rw (written.minus, written.phase_is) (refl, written.range))
  | inr other ↦ rw (written.others.words (minus_place k) (before k group other), written.others.words (minus_place k + 1) (behind k group other)) (pairs k lt)
]

-- one pair was written
pub Becomes-pair : (old new : List ℕ) (group phase : ℕ) → group < 6 → IsLawfulTable old → WritesPair group phase old new → Becomes (record { phases = slice_set (base_of old).phases group phase; codes = (base_of old).codes }) old new
Becomes-pair old new group phase lt lawful written =
    let same : (k : ℕ) → k < 3 → failreg_word new k ≡ failreg_word old k = λ k k_lt. written.others.words (layout.failreg + k) (inr (omega arith)) in
    record {
      lawful = record {
        pairs = ArePairs-are new (pair-written old new group phase written (ArePairs-at old lawful.pairs));
        spelled = λ k k_lt. subst IsCodeWord (sym (same k k_lt)) (lawful.spelled k k_lt);
        failreg = subst IsFailreg (sym (codes_in-same old new same)) lawful.failreg;
      };
      base_is = rw (phases_in-is new (slice_set (phases_in (phase_words old)) group phase) (length-set (phases_in (phase_words old)) group phase) (phase-written_pair old new group phase lt written), codes_in-same old new same) refl;
      others = kept_also (OutsidePair group) OutsidePhases old new (off_pair group lt) written.others;
    }

three_codes : (codes : List (Option Code)) → length codes ≡ 3 → (slice_index_or codes 0 None ∷ slice_index_or codes 1 None ∷ slice_index_or codes 2 None ∷ []) ≡ codes
three_codes [] e = absurd (omega arith)
three_codes (a ∷ []) e = absurd (omega arith)
three_codes (a ∷ b ∷ []) e = absurd (omega arith)
three_codes (a ∷ b ∷ c ∷ []) e = refl
three_codes (a ∷ b ∷ c ∷ d ∷ more) e = absurd (omega arith)

-- a word of FAILREG, once the codes were written
code-written : (codes : List (Option Code)) (old new : List ℕ) → CodesWritten codes old 3 new → (k : ℕ) → k < 3 → code_of_word (failreg_word new k) ≡ slice_index_or codes k None
code-written codes old new written k lt =
    ap code_of_word (written.word k lt) ∙ code_of_word-code_word (slice_index_or codes k None)

-- the codes, once they were written
codes-written : (codes : List (Option Code)) (old new : List ℕ) → length codes ≡ 3 → CodesWritten codes old 3 new → codes_in new ≡ codes
codes-written codes old new three written =
    let at : (k : ℕ) → k < 3 → code_of_word (failreg_word new k) ≡ slice_index_or codes k None = code-written codes old new written in
    codes_in-is new _ _ _ (at 0 (omega arith)) (at 1 (omega arith)) (at 2 (omega arith)) ∙ three_codes codes three

-- all pairs and codes were written
pub Becomes-restored : (phases : List ℕ) (codes : List (Option Code)) (old mid new : List ℕ) → length phases ≡ 6 → length codes ≡ 3 → IsFailreg codes → PairsWritten phases old 6 mid → CodesWritten codes mid 3 new → Becomes (record { phases = phases; codes = codes }) old new
Becomes-restored phases codes old mid new six three failreg pairs rest =
    let codes_is : codes_in new ≡ codes = codes-written codes mid new three rest in
    let minus : (k : ℕ) → k < 6 → slice_index new (minus_place k) ≡ complement (slice_index phases k) = λ k lt. rest.others.words (minus_place k) (inl (omega arith)) ∙ pairs.minus k lt in
    let phase : (k : ℕ) → k < 6 → slice_index new (minus_place k + 1) ≡ slice_index phases k = λ k lt. rest.others.words (minus_place k + 1) (inl (omega arith)) ∙ pairs.phase k lt in
    record {
      lawful = record {
        pairs = ArePairs-are new (λ k lt. rw (minus k lt, phase k lt) (refl, pairs.range k lt));
        spelled = λ k lt. rw (code-written codes mid new rest k lt) (rest.word k lt);
        failreg = subst IsFailreg (sym codes_is) failreg;
      };
      base_is = rw (phases_in-is new phases six phase, codes_is) refl;
      others = kept_twice OutsidePhases old mid new pairs.others (kept_also OutsideFailreg OutsidePhases mid new off_failreg rest.others);
    }
