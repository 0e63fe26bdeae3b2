-- Which areas are owned, after a change of one slot.
use Rattle.std.proofs.Common.{◌≡◌, ◌≢◌, ℕ, zero, suc, ◌<◌, ◌≤◌, ◌==◌, ◌||◌, false, List, [], ◌∷◌, Option, Some, None, length, slice_index_or, slice_set, refl, inl, inr, arith}
use Rattle.agc_exec.specs.Stages.{SameOwners}
use Rattle.std.proofs.lemmas.Bool.{cases_eq}
use Rattle.std.proofs.lemmas.Grind.{common_steps}
use Rattle.agc_plan.specs.Jobs.{Job, is_owned}

abbrev pub area_in : Option Job → ℕ
area_in None = 0
area_in (Some job) = job.area

-- the slot's job has the same area as before
pub SameOwners-set : (slots : List (Option Job)) (i : ℕ) (job : Option Job) → area_in (slice_index_or slots i None) ≡ area_in job → SameOwners slots (slice_set slots i job)
SameOwners-set [] i job e area low = refl
SameOwners-set (None ∷ slots) zero None e area low = refl
SameOwners-set (None ∷ slots) zero (Some job) e area low =
    let no : (job.area == area) ≡ false = grind (arith, common_steps) in
    rw no
SameOwners-set (Some old ∷ slots) zero None e area low =
    let no : (old.area == area) ≡ false = grind (arith, common_steps) in
    rw no
SameOwners-set (Some old ∷ slots) zero (Some job) e area low = rw e
SameOwners-set (None ∷ slots) (suc i) job e area low = SameOwners-set slots i job e area low
SameOwners-set (Some old ∷ slots) (suc i) job e area low = rw (SameOwners-set slots i job e area low)

-- the area of a new job becomes owned
pub is_owned-new : (slots : List (Option Job)) (i : ℕ) (job : Job) (area : ℕ) → i < length slots → slice_index_or slots i None ≡ None → is_owned area (slice_set slots i (Some job)) ≡ ((job.area == area) || is_owned area slots)
is_owned-new [] i job area lt free = absurd (omega arith)
is_owned-new (None ∷ slots) zero job area lt free = elim (cases_eq job.area area) [
  | inl same ↦ grind (arith, common_steps)
  | inr ne ↦ grind (arith, common_steps)
]
is_owned-new (Some old ∷ slots) zero job area lt free = absurd (cc)
is_owned-new (None ∷ slots) (suc i) job area lt free = is_owned-new slots i job area (omega arith) free
is_owned-new (Some old ∷ slots) (suc i) job area lt free =
    let rest : is_owned area (slice_set slots i (Some job)) ≡ ((job.area == area) || is_owned area slots) = is_owned-new slots i job area (omega arith) free in
    elim (cases_eq job.area area) [
      | inl same ↦ elim (cases_eq old.area area) [ inl here ↦ grind (arith, common_steps) | inr there ↦ grind (arith, common_steps) ]
      | inr ne ↦ elim (cases_eq old.area area) [ inl here ↦ grind (arith, common_steps) | inr there ↦ grind (arith, common_steps) ]
    ]

-- an area that neither the old nor the new job of the slot has
pub is_owned-other : (slots : List (Option Job)) (i : ℕ) (job : Option Job) (area : ℕ) → 1 ≤ area → area_in (slice_index_or slots i None) ≢ area → area_in job ≢ area → is_owned area (slice_set slots i job) ≡ is_owned area slots
is_owned-other [] i job area low ne ne_new = refl
is_owned-other (None ∷ slots) zero None area low ne ne_new = refl
is_owned-other (None ∷ slots) zero (Some job) area low ne ne_new = let no : (job.area == area) ≡ false = grind (arith, common_steps) in rw no
is_owned-other (Some old ∷ slots) zero None area low ne ne_new = let no : (old.area == area) ≡ false = grind (arith, common_steps) in rw no
is_owned-other (Some old ∷ slots) zero (Some job) area low ne ne_new = let no : (old.area == area) ≡ false = grind (arith, common_steps) in let no_new : (job.area == area) ≡ false = grind (arith, common_steps) in rw (no, no_new)
is_owned-other (None ∷ slots) (suc i) job area low ne ne_new = is_owned-other slots i job area low ne ne_new
is_owned-other (Some old ∷ slots) (suc i) job area low ne ne_new = rw (is_owned-other slots i job area low ne ne_new)
