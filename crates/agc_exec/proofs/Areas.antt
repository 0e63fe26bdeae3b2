-- Who owns which area.
use Rattle.std.proofs.Common.{◌≡◌, ◌≢◌, ℕ, zero, suc, ◌-◌, Bool, true, false, List, [], ◌∷◌, Option, Some, None, slice_index_or, refl, ap, ◌∙◌, inl, inr, arith}
use Rattle.agc_exec.specs.Stages.{owned_in, IsUnowned}
use Rattle.std.proofs.lemmas.Bool.{cases_eq}
use Rattle.std.proofs.lemmas.Option.{same_Some}
use Rattle.std.proofs.lemmas.Grind.{common_steps}
use Rattle.agc_plan.specs.Jobs.{Job, is_owned}
use Rattle.agc_exec.specs.HeldJob.{HeldJob}
use Rattle.agc_exec.specs.Sets.{job_of, slots_of, Holds, IsLawful}
use Rattle.agc_exec.proofs.Bests.{slot_found, slot_of}

pub owned_in-false : (area : ℕ) (sets : List (Option HeldJob)) → owned_in area sets ≡ false → IsUnowned sets area
owned_in-false area [] e j s at = absurd (cc)
owned_in-false area (None ∷ sets) e zero s at = absurd (cc)
owned_in-false area (None ∷ sets) e (suc j) s at = owned_in-false area sets e j s at
owned_in-false area (Some r ∷ sets) e zero s at = let same : r ≡ s = same_Some r s at in grind (arith, common_steps)
owned_in-false area (Some r ∷ sets) e (suc j) s at = let rest : owned_in area sets ≡ false = grind (arith, common_steps) in owned_in-false area sets rest j s at

pub owned_in-true : (area : ℕ) (sets : List (Option HeldJob)) → owned_in area sets ≡ true → (j : ℕ) × (s : HeldJob) × Holds sets j s × (s.area ≡ area)
owned_in-true area [] e = absurd (cc)
owned_in-true area (None ∷ sets) e = let (j, s, at, is) = owned_in-true area sets e in (suc j, s, at, is)
owned_in-true area (Some r ∷ sets) e = elim (cases_eq r.area area) [
  | inl same ↦ (0, r, refl, same)
  | inr ne ↦ let rest : owned_in area sets ≡ true = grind (arith, common_steps) in let (j, s, at, is) = owned_in-true area sets rest in (suc j, s, at, is)
]

pub is_owned-false : (area : ℕ) (slots : List (Option Job)) → ((j : ℕ) (job : Job) → slice_index_or slots j None ≡ Some job → job.area ≢ area) → is_owned area slots ≡ false
is_owned-false area [] h = refl
is_owned-false area (None ∷ slots) h = is_owned-false area slots (λ j. h (suc j))
is_owned-false area (Some job ∷ slots) h =
    let ne : job.area ≢ area = h 0 job refl in
    let rest : is_owned area slots ≡ false = is_owned-false area slots (λ j. h (suc j)) in
    grind (arith, common_steps)

is_owned-true : (area : ℕ) (slots : List (Option Job)) (j : ℕ) (job : Job) → slice_index_or slots j None ≡ Some job → job.area ≡ area → is_owned area slots ≡ true
is_owned-true area [] j job at e = absurd (cc)
is_owned-true area (None ∷ slots) zero job at e = absurd (cc)
is_owned-true area (None ∷ slots) (suc j) job at e = is_owned-true area slots j job at e
is_owned-true area (Some first ∷ slots) zero job at e = let same : first ≡ job = same_Some first job at in grind (arith, common_steps)
is_owned-true area (Some first ∷ slots) (suc j) job at e = let rest : is_owned area slots ≡ true = is_owned-true area slots j job at e in grind (arith, common_steps)

-- the slots and the sets agree on who owns what
pub is_owned_slots : (area : ℕ) (sets : List (Option HeldJob)) → IsLawful sets → is_owned area (slots_of sets) ≡ owned_in area sets
is_owned_slots area sets lawful = go (owned_in area sets) refl where
  go : (b : Bool) → owned_in area sets ≡ b → is_owned area (slots_of sets) ≡ b
  go false e = is_owned-false area (slots_of sets) (λ j job at same. let (i, s, here, number, is) = slot_found sets j job at in owned_in-false area sets e i s here (ap (λ x. x.area) is ∙ same))
  go true e = let (j, s, at, is) = owned_in-true area sets e in is_owned-true area (slots_of sets) (s.number - 1) (job_of s) (slot_of sets j s lawful at) is
