-- Where no set is free, no number is unused.
use Rattle.std.proofs.Common.{◌≡◌, ◌≢◌, ℕ, zero, suc, ◌+◌, ◌<◌, ◌≤◌, eqb, true, false, List, [], ◌∷◌, Option, Some, None, length, slice_index_or, get_or, is_some, refl, ap, sym, ◌∙◌, inl, inr, arith}
use Rattle.std.specs.List.{IsDistinct, list_any}
use Rattle.std.proofs.lemmas.Bool.{cases_eq}
use Rattle.std.proofs.lemmas.List.{get_or-map, length-map}
use Rattle.std.proofs.lemmas.Map.Steps.{length-le_from_distinct_below}
use Rattle.std.proofs.lemmas.Map.Keys.{IsDistinct-from_apart}
use Rattle.std.proofs.lemmas.Grind.{common_steps}
use Rattle.agc_plan.specs.Jobs.{Job, least_unused}
use Rattle.agc_exec.specs.HeldJob.{HeldJob}
use Rattle.agc_exec.specs.Sets.{job_numbered, slots_of, number_in, entries_of, Holds, IsLawful}
use Rattle.agc_plan.specs.Places.{place_of}
use Rattle.agc_exec.proofs.Entries.{place_of-at}
use Rattle.agc_exec.proofs.Slots.{None-job_numbered, get_or-slots_from, length-slots_from}
use Rattle.agc_exec.proofs.Searches.{least_unused-none}

any_bound : (sets : List (Option HeldJob)) (b q : ℕ) → ((i : ℕ) (r : HeldJob) → Holds sets i r → r.number ≤ b) → list_any (eqb q) (entries_of sets) ≡ true → q ≤ b
any_bound [] b q h e = absurd (cc)
any_bound (None ∷ sets) b q h e = elim (cases_eq q 0) [
  | inl z ↦ omega arith
  | inr ne ↦ let rest : list_any (eqb q) (entries_of sets) ≡ true = grind (arith, common_steps) in any_bound sets b q (λ i. h (suc i)) rest
]
any_bound (Some r ∷ sets) b q h e = elim (cases_eq q r.number) [
  | inl same ↦ let high : r.number ≤ b = h 0 r refl in omega arith
  | inr ne ↦ let rest : list_any (eqb q) (entries_of sets) ≡ true = grind (arith, common_steps) in any_bound sets b q (λ i. h (suc i)) rest
]

-- every set holds a job
abbrev pub AllHeld : List (Option HeldJob) → Type 0
AllHeld sets = (i : ℕ) → i < length sets → slice_index_or sets i None ≢ None

held : (sets : List (Option HeldJob)) (i : ℕ) (v : Option HeldJob) → slice_index_or sets i None ≡ v → v ≢ None → (r : HeldJob) × Holds sets i r
held sets i None e h = absurd (h refl)
held sets i (Some r) e h = (r, e)

entry_of : (sets : List (Option HeldJob)) (i d : ℕ) (r : HeldJob) → i < length sets → Holds sets i r → get_or (entries_of sets) i d ≡ r.number
entry_of sets i d r lt at = get_or-map number_in sets i None d lt ∙ ap number_in at

pub full-used : (sets : List (Option HeldJob)) (n : ℕ) → IsLawful sets → AllHeld sets → 1 ≤ n → n ≤ length sets → job_numbered sets n ≡ None → ⊥
full-used sets n lawful all low high unused =
    let len : length (entries_of sets) ≡ length sets = length-map sets number_in in
    let distinct : IsDistinct eqb (0 ∷ n ∷ entries_of sets) = IsDistinct-from_apart eqb (0 ∷ n ∷ entries_of sets) apart in
    let few : length (0 ∷ n ∷ entries_of sets) ≤ length sets + 1 = length-le_from_distinct_below (0 ∷ n ∷ entries_of sets) (length sets + 1) distinct below in
    omega arith
  where
    apart : (i j d : ℕ) → i < j → j < length (0 ∷ n ∷ entries_of sets) → eqb (get_or (0 ∷ n ∷ entries_of sets) i d) (get_or (0 ∷ n ∷ entries_of sets) j d) ≡ false
    apart i zero d lt within = absurd (omega arith)
    apart zero (suc zero) d lt within = grind (arith, common_steps)
    apart (suc i) (suc zero) d lt within = absurd (omega arith)
    apart zero (suc (suc j)) d lt within =
        let len : length (entries_of sets) ≡ length sets = length-map sets number_in in
        let lt_j : j < length sets = omega arith in
        let (r, at) = held sets j (slice_index_or sets j None) refl (all j lt_j) in
        let e : get_or (entries_of sets) j d ≡ r.number = entry_of sets j d r lt_j at in
        let above : 1 ≤ r.number = lawful.low j r at in
        rw e (grind (arith, common_steps))
    apart (suc zero) (suc (suc j)) d lt within =
        let len : length (entries_of sets) ≡ length sets = length-map sets number_in in
        let lt_j : j < length sets = omega arith in
        let (r, at) = held sets j (slice_index_or sets j None) refl (all j lt_j) in
        let e : get_or (entries_of sets) j d ≡ r.number = entry_of sets j d r lt_j at in
        let ne : r.number ≢ n = None-job_numbered sets n unused j r at in
        rw e (grind (arith, common_steps))
    apart (suc (suc i)) (suc (suc j)) d lt within =
        let len : length (entries_of sets) ≡ length sets = length-map sets number_in in
        let lt_j : j < length sets = omega arith in
        let lt_i : i < length sets = omega arith in
        let (r, at) = held sets i (slice_index_or sets i None) refl (all i lt_i) in
        let (s, at_j) = held sets j (slice_index_or sets j None) refl (all j lt_j) in
        let e : get_or (entries_of sets) i d ≡ r.number = entry_of sets i d r lt_i at in
        let f : get_or (entries_of sets) j d ≡ s.number = entry_of sets j d s lt_j at_j in
        let ne : r.number ≢ s.number = λ same. let k : i ≡ j = lawful.distinct i j r s at at_j same in omega arith in
        rw (e, f) (grind (arith, common_steps))

    below : (q : ℕ) → list_any (eqb q) (0 ∷ n ∷ entries_of sets) ≡ true → q < length sets + 1
    below q e = elim (cases_eq q 0) [
      | inl z ↦ omega arith
      | inr nz ↦ elim (cases_eq q n) [
        | inl same ↦ omega arith
        | inr ne ↦
            let rest : list_any (eqb q) (entries_of sets) ≡ true = grind (arith, common_steps) in
            let most : q ≤ length sets = any_bound sets (length sets) q lawful.high rest in
            omega arith
      ]
    ]

-- with no free set, no number is unused
pub full-none : (sets : List (Option HeldJob)) → IsLawful sets → AllHeld sets → least_unused 1 (slots_of sets) ≡ None
full-none sets lawful all = least_unused-none 1 (slots_of sets) (λ j lt.
    let len : length (slots_of sets) ≡ length sets = length-slots_from (length sets) 1 sets in
    used j (omega arith) (job_numbered sets (1 + j)) refl)
  where
    used : (j : ℕ) → j < length sets → (o : Option Job) → job_numbered sets (1 + j) ≡ o → is_some (slice_index_or (slots_of sets) j None) ≡ true
    used j lt None e = absurd (full-used sets (1 + j) lawful all (omega arith) (omega arith) e)
    used j lt (Some job) e = rw (get_or-slots_from (length sets) 1 sets j lt, e)

-- the first free set is the first entry 0
pub place_of_free : (sets : List (Option HeldJob)) (k : ℕ) → IsLawful sets → k < length sets → slice_index_or sets k None ≡ None → ((j : ℕ) → j < k → slice_index_or sets j None ≢ None) → k ≡ place_of 0 (entries_of sets)
place_of_free sets k lawful lt free before = sym (place_of-at sets 0 k lt (ap number_in free) (λ j below e. taken j below e)) where
  taken : (j : ℕ) → j < k → number_in (slice_index_or sets j None) ≡ 0 → ⊥
  taken j below e =
      let (r, at) = held sets j (slice_index_or sets j None) refl (before j below) in
      let low : 1 ≤ r.number = lawful.low j r at in
      let number : number_in (slice_index_or sets j None) ≡ r.number = ap number_in at in
      omega arith
