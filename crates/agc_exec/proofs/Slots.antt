-- The slots of the jobs that sets hold.
use Rattle.std.proofs.Common.{◌≡◌, ◌≢◌, ℕ, zero, suc, ◌+◌, ◌-◌, ◌<◌, ◌≤◌, ◌==◌, cond, List, [], ◌∷◌, map, Option, Some, None, length, slice_index_or, slice_set, refl, ap, inl, inr, arith}
use Rattle.std.proofs.lemmas.Bool.{cases_eq}
use Rattle.std.proofs.lemmas.Grind.{common_steps}
use Rattle.agc_plan.specs.Jobs.{Job}
use Rattle.agc_exec.specs.HeldJob.{HeldJob}
use Rattle.agc_exec.specs.Sets.{job_of, job_numbered, number_in, Holds}
use Rattle.std.specs.List.{range_with_len}

-- the jobs of so many numbers, from this one on
abbrev pub slots_from : ℕ → ℕ → List (Option HeldJob) → List (Option Job)
slots_from more number sets = map (job_numbered sets) (range_with_len number more)

-- a number that no set has
pub job_numbered-none : (sets : List (Option HeldJob)) (n : ℕ) → ((i : ℕ) (r : HeldJob) → Holds sets i r → r.number ≢ n) → job_numbered sets n ≡ None
job_numbered-none [] n h = refl
job_numbered-none (None ∷ sets) n h = job_numbered-none sets n (λ i r. h (suc i) r)
job_numbered-none (Some s ∷ sets) n h =
    let here : s.number ≢ n = h 0 s refl in
    let rest : job_numbered sets n ≡ None = job_numbered-none sets n (λ i r. h (suc i) r) in
    grind (arith, common_steps)

-- the number of set i, which no other set has
pub job_numbered-at : (sets : List (Option HeldJob)) (i : ℕ) (r : HeldJob) (n : ℕ) → r.number ≡ n → ((j : ℕ) (s : HeldJob) → Holds sets j s → s.number ≡ n → j ≡ i) → Holds sets i r → job_numbered sets n ≡ Some (job_of r)
job_numbered-at [] i r n e h at = absurd (cc)
job_numbered-at (None ∷ sets) zero r n e h at = absurd (cc)
job_numbered-at (None ∷ sets) (suc i) r n e h at = job_numbered-at sets i r n e (λ j s holds same. let k : suc j ≡ suc i = h (suc j) s holds same in omega arith) at
job_numbered-at (Some s ∷ sets) zero r n e h at =
    let same : s ≡ r = cc in
    let is : s.number ≡ n = cc in
    grind (arith, common_steps)
job_numbered-at (Some s ∷ sets) (suc i) r n e h at =
    let other : s.number ≢ n = λ same. let k : zero ≡ suc i = h 0 s refl same in omega arith in
    let rest : job_numbered sets n ≡ Some (job_of r) = job_numbered-at sets i r n e (λ j t holds same. let k : suc j ≡ suc i = h (suc j) t holds same in omega arith) at in
    grind (arith, common_steps)

-- a write to set k changes no other number
pub job_numbered-other : (sets : List (Option HeldJob)) (k : ℕ) (v : Option HeldJob) (n : ℕ) → number_in (slice_index_or sets k None) ≢ n → number_in v ≢ n → job_numbered (slice_set sets k v) n ≡ job_numbered sets n
job_numbered-other [] k v n a b = refl
job_numbered-other (None ∷ sets) zero None n a b = refl
job_numbered-other (None ∷ sets) zero (Some r) n a b = grind (arith, common_steps)
job_numbered-other (Some s ∷ sets) zero None n a b = grind (arith, common_steps)
job_numbered-other (Some s ∷ sets) zero (Some r) n a b = grind (arith, common_steps)
job_numbered-other (None ∷ sets) (suc k) v n a b = job_numbered-other sets k v n a b
job_numbered-other (Some s ∷ sets) (suc k) v n a b = ap (cond (s.number == n) (Some (job_of s))) (job_numbered-other sets k v n a b)

-- a number that is found stands in a set
pub job_numbered-found : (sets : List (Option HeldJob)) (n : ℕ) (job : Job) → job_numbered sets n ≡ Some job → (i : ℕ) × (r : HeldJob) × Holds sets i r × (r.number ≡ n) × (job_of r ≡ job)
job_numbered-found [] n job e = absurd (cc)
job_numbered-found (None ∷ sets) n job e = let (i, r, at, is, same) = job_numbered-found sets n job e in (suc i, r, at, is, same)
job_numbered-found (Some s ∷ sets) n job e = elim (cases_eq s.number n) [
  | inl same ↦ let is : job_of s ≡ job = grind (arith, common_steps) in (0, s, refl, same, is)
  | inr ne ↦
      let rest : job_numbered sets n ≡ Some job = grind (arith, common_steps) in
      let (i, r, at, is, is_job) = job_numbered-found sets n job rest in (suc i, r, at, is, is_job)
]

pub None-job_numbered : (sets : List (Option HeldJob)) (n : ℕ) → job_numbered sets n ≡ None → (i : ℕ) (r : HeldJob) → Holds sets i r → r.number ≢ n
None-job_numbered [] n e i r at = absurd (cc)
None-job_numbered (None ∷ sets) n e zero r at = absurd (cc)
None-job_numbered (None ∷ sets) n e (suc i) r at = None-job_numbered sets n e i r at
None-job_numbered (Some s ∷ sets) n e zero r at = let same : s ≡ r = cc in grind (arith, common_steps)
None-job_numbered (Some s ∷ sets) n e (suc i) r at =
    let rest : job_numbered sets n ≡ None = grind (arith, common_steps) in None-job_numbered sets n rest i r at

-- slots that are alike
pub slots_from-same : (more from : ℕ) (sets written : List (Option HeldJob)) → ((n : ℕ) → from ≤ n → job_numbered written n ≡ job_numbered sets n) → slots_from more from written ≡ slots_from more from sets
slots_from-same zero from sets written h = refl
slots_from-same (suc more) from sets written h =
    let here : job_numbered written from ≡ job_numbered sets from = h from (omega arith) in
    let rest : slots_from more (from + 1) written ≡ slots_from more (from + 1) sets = slots_from-same more (from + 1) sets written (λ n le. h n (omega arith)) in
    cc

-- slots that differ at one number
pub slots_from-set : (more from : ℕ) (sets written : List (Option HeldJob)) (m : ℕ) (job : Option Job) → from ≤ m → ((n : ℕ) → from ≤ n → n ≢ m → job_numbered written n ≡ job_numbered sets n) → job_numbered written m ≡ job → slots_from more from written ≡ slice_set (slots_from more from sets) (m - from) job
slots_from-set zero from sets written m job le other here = refl
slots_from-set (suc more) from sets written m job le other here = elim (cases_eq from m) [
  | inl same ↦
      let z : m - from ≡ 0 = omega arith in
      let is : job_numbered written from ≡ job = rw same here in
      let rest : slots_from more (from + 1) written ≡ slots_from more (from + 1) sets = slots_from-same more (from + 1) sets written (λ n le. other n (omega arith) (λ e. let no : ⊥ = omega arith in no)) in
      rw (z, is, rest)
  | inr ne ↦
      let z : m - from ≡ suc (m - (from + 1)) = omega arith in
      let is : job_numbered written from ≡ job_numbered sets from = other from (omega arith) ne in
      let rest : slots_from more (from + 1) written ≡ slice_set (slots_from more (from + 1) sets) (m - (from + 1)) job = slots_from-set more (from + 1) sets written m job (omega arith) (λ n le. other n (omega arith)) here in
      rw (z, is, rest)
]

-- the slot of a number
pub get_or-slots_from : (more from : ℕ) (sets : List (Option HeldJob)) (i : ℕ) → i < more → slice_index_or (slots_from more from sets) i None ≡ job_numbered sets (from + i)
get_or-slots_from zero from sets i lt = absurd (omega arith)
get_or-slots_from (suc more) from sets zero lt = let z : from + 0 ≡ from = omega arith in rw z
get_or-slots_from (suc more) from sets (suc i) lt =
    let z : from + suc i ≡ from + 1 + i = omega arith in
    rw z (get_or-slots_from more (from + 1) sets i (omega arith))

pub length-slots_from : (more from : ℕ) (sets : List (Option HeldJob)) → length (slots_from more from sets) ≡ more
length-slots_from zero from sets = refl
length-slots_from (suc more) from sets = ap suc (length-slots_from more (from + 1) sets)
