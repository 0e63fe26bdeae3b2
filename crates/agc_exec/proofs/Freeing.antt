-- The first free core set, found one set at a time.
use Rattle.std.proofs.Common.{◌≡◌, ℕ, ◌+◌, ◌<◌, ◌==◌, ◌&&◌, nat_lt, cond, true, false, List, Option, None, length, slice_index_or, ap, sym, ◌∙◌, inl, inr, arith}
use Rattle.std.specs.Prelude.{IsSome}
use Rattle.std.proofs.lemmas.Bool.{cases_eq, cases_lt}
use Rattle.std.proofs.lemmas.Grind.{common_steps}
use Rattle.agc_word.specs.Layout.{IsSized, sets_in}
use Rattle.agc_plan.specs.Jobs.{least_unused}
use Rattle.agc_plan.specs.Places.{place_of}
use Rattle.agc_exec.specs.HeldJob.{HeldJob}
use Rattle.agc_exec.specs.Image.{sets_of}
use Rattle.agc_exec.specs.Sets.{number_in, slots_of, entries_of, IsLawful}
use Rattle.agc_exec.specs.Stages.{IsFirstFree, IsFreeAt}
use Rattle.agc_exec.proofs.Decoding.{IsSet-lengths, length-sets}
use Rattle.agc_exec.proofs.Full.{full-none, place_of_free}
use Rattle.agc_exec.proofs.Ranks.{free_entry, held_entry}

pub IsFirstFree-none : (sets : List (Option HeldJob)) → IsFirstFree sets 0 8
IsFirstFree-none sets = record { before = λ j lt below. absurd (omega arith); here = λ lt. absurd (omega arith) }

-- one more set
pub IsFirstFree-more : (sets : List (Option HeldJob)) (n free number : ℕ) → n < 8 → number ≡ number_in (slice_index_or sets n None) → IsFirstFree sets n free → IsFirstFree sets (n + 1) (cond ((number == 0) && nat_lt n free) n free)
IsFirstFree-more sets n free number lt is f = elim (cases_eq number 0) [
  | inr ne ↦
      let no : (number == 0) ≡ false = grind (arith, common_steps) in
      rw no (record {
        before = λ j lt_j below. elim (cases_eq j n) [
          | inl same ↦ λ z. ne (is ∙ ap (λ i. number_in (slice_index_or sets i None)) (sym same) ∙ z)
          | inr other ↦ f.before j (omega arith) below
        ];
        here = λ some. let both = f.here some in (let l : free < n = both.0 in omega arith, both.1);
      })
  | inl z ↦ elim (cases_lt n free) [
    | inl first ↦
        let yes_zero : (number == 0) ≡ true = grind (arith, common_steps) in
        let yes_lt : nat_lt n free ≡ true = grind (arith, common_steps) in
        rw (yes_zero, yes_lt) (record { before = λ j lt_j below. f.before j below (omega arith); here = λ some. (omega arith, sym is ∙ z) })
    | inr past ↦
        let no_lt : nat_lt n free ≡ false = grind (arith, common_steps) in
        let some : free < 8 = omega arith in
        let both = f.here some in
        let yes_zero : (number == 0) ≡ true = grind (arith, common_steps) in
        rw (yes_zero, no_lt) (record {
          before = λ j lt_j below. f.before j (let l : free < n = both.0 in omega arith) below;
          here = λ again. (let l : free < n = both.0 in omega arith, both.1);
        })
  ]
]

-- where a number is unused, it is free, and the first entry 0
pub first_free : (words : List ℕ) (free : ℕ) → IsSized words → IsLawful (sets_of words) → IsFirstFree (sets_of words) (length (sets_of words)) free → IsSome (least_unused 1 (slots_of (sets_of words))) → (free < sets_in words) × IsFreeAt (sets_of words) free × (free ≡ place_of 0 (entries_of (sets_of words)))
first_free words free sized lawful f room = elim (cases_lt free 8) [
  | inl some ↦
      let (lt, none) = f.here some in
      let len : length (sets_of words) ≡ sets_in words = length-sets words in
      let empty : slice_index_or (sets_of words) free None ≡ None = free_entry (sets_of words) free lawful none in
      (omega arith, empty, place_of_free (sets_of words) free lawful lt empty (λ j lt_j. held_entry (sets_of words) j (f.before j (omega arith) lt_j)))
  | inr past ↦
      let (least, most) = IsSet-lengths words sized in
      let all : least_unused 1 (slots_of (sets_of words)) ≡ None = full-none (sets_of words) lawful (λ i lt. held_entry (sets_of words) i (f.before i lt (omega arith))) in
      absurd (let no : false ≡ true = rw all at room in cc)
]
