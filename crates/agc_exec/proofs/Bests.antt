-- Where the best job stands, and what an exchange that brings it to set 0 does.
use Rattle.std.proofs.Common.{◌≡◌, ◌⊎◌, ℕ, ◌+◌, ◌-◌, ◌<◌, ◌≤◌, true, false, List, [], ◌∷◌, Option, Some, None, length, slice_index_or, swap, refl, ap, sym, ◌∙◌, inl, inr, arith}
use Rattle.agc_exec.specs.Stages.{IsBestBelow, BestBelow, BringsBest}
use Rattle.std.specs.Prelude.{option_map}
use Rattle.std.proofs.lemmas.Bool.{cases_lt}
use Rattle.std.proofs.lemmas.List.{get_or_past}
use Rattle.std.proofs.lemmas.List.Edits.{length-swap}
use Rattle.agc_plan.specs.Jobs.{Job, best, best_from}
use Rattle.agc_plan.specs.Places.{place_of}
use Rattle.agc_exec.specs.HeldJob.{HeldJob}
use Rattle.agc_exec.specs.Sets.{job_of, job_numbered, slots_of, number_in, running_in, entries_of, Holds, IsLawful}
use Rattle.agc_exec.proofs.Slots.{job_numbered-at, job_numbered-found, get_or-slots_from, length-slots_from}
use Rattle.agc_exec.proofs.Entries.{place_of-at}
use Rattle.agc_exec.proofs.Swaps.{Holds-within, get_or-swap, IsLawful-swap, slots_of-swap, map-swap}
use Rattle.agc_exec.proofs.Searches.{best_from-none, best_from-is}

-- a job in a slot stands in a set
pub slot_found : (sets : List (Option HeldJob)) (j : ℕ) (job : Job) → slice_index_or (slots_of sets) j None ≡ Some job → (i : ℕ) × (r : HeldJob) × Holds sets i r × (r.number ≡ j + 1) × (job_of r ≡ job)
slot_found sets j job e = elim (cases_lt j (length sets)) [
  | inl lt ↦
      let at : job_numbered sets (1 + j) ≡ Some job = sym (get_or-slots_from (length sets) 1 sets j lt) ∙ e in
      let (i, r, here, is, same) = job_numbered-found sets (1 + j) job at in (i, r, here, omega arith, same)
  | inr past ↦
      let len : length (slots_of sets) ≡ length sets = length-slots_from (length sets) 1 sets in
      let none : slice_index_or (slots_of sets) j None ≡ None = get_or_past (slots_of sets) j None (omega arith) in absurd (cc)
]

-- the job of a set stands in its slot
pub slot_of : (sets : List (Option HeldJob)) (k : ℕ) (r : HeldJob) → IsLawful sets → Holds sets k r → slice_index_or (slots_of sets) (r.number - 1) None ≡ Some (job_of r)
slot_of sets k r lawful at =
    let low : 1 ≤ r.number = lawful.low k r at in
    let high : r.number ≤ length sets = lawful.high k r at in
    get_or-slots_from (length sets) 1 sets (r.number - 1) (omega arith)
    ∙ job_numbered-at sets k r (1 + (r.number - 1)) (omega arith) (λ j s at_j same. lawful.distinct j k s r at_j at (omega arith)) at

pub best_ready : (sets : List (Option HeldJob)) (k : ℕ) (r : HeldJob) → IsLawful sets → IsBestBelow sets (length sets) k r → best_from 1 (slots_of sets) ≡ Some (record { number = r.number; priority = r.priority })
best_ready sets k r lawful is =
    let low : 1 ≤ r.number = lawful.low k r is.here in
    let number : 1 + (r.number - 1) ≡ r.number = omega arith in
    best_from-is 1 (slots_of sets) (r.number - 1) (job_of r) (slot_of sets k r lawful is.here) is.awake yields
    ∙ ap (λ n. Some (record { number = n; priority = r.priority })) number
  where
    yields : (j : ℕ) (job : Job) → slice_index_or (slots_of sets) j None ≡ Some job → job.asleep ≡ false → (job.priority < r.priority) ⊎ ((job.priority ≡ r.priority) × (r.number - 1 ≤ j))
    yields j job e awake =
        let (i, s, at, number, same) = slot_found sets j job e in
        let awake_s : s.asleep ≡ false = ap (λ x. x.asleep) same ∙ awake in
        let priority : s.priority ≡ job.priority = ap (λ x. x.priority) same in
        elim (is.first i s (Holds-within sets i s at) at awake_s) [ inl lt ↦ inl (omega arith) | inr both ↦ inr (omega arith, omega arith) ]

pub best-is : (sets : List (Option HeldJob)) (k : ℕ) (r : HeldJob) → IsLawful sets → IsBestBelow sets (length sets) k r → best (slots_of sets) ≡ Some r.number
best-is sets k r lawful is = ap (option_map (λ x. x.number)) (best_ready sets k r lawful is)

pub ready-none : (sets : List (Option HeldJob)) → IsLawful sets → BestBelow sets (length sets) None → best_from 1 (slots_of sets) ≡ None
ready-none sets lawful asleep =
    best_from-none 1 (slots_of sets) (λ j job e. let (i, s, at, number, same) = slot_found sets j job e in sym (ap (λ x. x.asleep) same) ∙ asleep i s (Holds-within sets i s at) at)

pub best-none : (sets : List (Option HeldJob)) → IsLawful sets → BestBelow sets (length sets) None → best (slots_of sets) ≡ None
best-none sets lawful asleep =
    ap (option_map (λ x. x.number)) (best_from-none 1 (slots_of sets) (λ j job e. let (i, s, at, number, same) = slot_found sets j job e in sym (ap (λ x. x.asleep) same) ∙ asleep i s (Holds-within sets i s at) at))

pub running_in-awake : (sets : List (Option HeldJob)) (r : HeldJob) → Holds sets 0 r → r.asleep ≡ false → running_in sets ≡ Some r.number
running_in-awake [] r at awake = absurd (cc)
running_in-awake (set ∷ sets) r at awake = rw (at, awake)

pub running_in-asleep : (sets : List (Option HeldJob)) → ((r : HeldJob) → Holds sets 0 r → r.asleep ≡ true) → running_in sets ≡ None
running_in-asleep [] h = refl
running_in-asleep (None ∷ sets) h = refl
running_in-asleep (Some r ∷ sets) h = rw (h r refl)

-- the entry of a job's number is its set's
pub place_of_number : (sets : List (Option HeldJob)) (k : ℕ) (r : HeldJob) → IsLawful sets → Holds sets k r → place_of r.number (entries_of sets) ≡ k
place_of_number sets k r lawful at =
    place_of-at sets r.number k (Holds-within sets k r at) (ap number_in at) (λ j lt e. apart j lt (slice_index_or sets j None) refl e)
  where
    apart : (j : ℕ) → j < k → (v : Option HeldJob) → slice_index_or sets j None ≡ v → number_in (slice_index_or sets j None) ≡ r.number → ⊥
    apart j lt None is e =
        let low : 1 ≤ r.number = lawful.low k r at in
        let z : number_in (slice_index_or sets j None) ≡ 0 = ap number_in is in omega arith
    apart j lt (Some s) is e =
        let same : j ≡ k = lawful.distinct j k s r is at (sym (ap number_in is) ∙ e) in omega arith

-- the exchange that brings the best
pub BringsBest-swap : (sets : List (Option HeldJob)) (k : ℕ) (r : HeldJob) → IsLawful sets → IsBestBelow sets (length sets) k r → BringsBest sets (swap sets 0 k)
BringsBest-swap sets k r lawful is =
    let lt : k < length sets = Holds-within sets k r is.here in
    let is_best : best (slots_of sets) ≡ Some r.number = best-is sets k r lawful is in
    let front : Holds (swap sets 0 k) 0 r = get_or-swap sets k 0 lt ∙ is.here in
    let place : place_of r.number (entries_of sets) ≡ k = place_of_number sets k r lawful is.here in
    record {
      lawful = IsLawful-swap sets k lt lawful;
      in_front = λ i s at awake. (r, front, is.awake);
      same_length = length-swap sets 0 k;
      slots = slots_of-swap sets k lt lawful;
      running = running_in-awake (swap sets 0 k) r front is.awake ∙ sym is_best;
      entries = rw (is_best, place) (map-swap number_in sets k None lt);
    }

pub BringsBest-none : (sets : List (Option HeldJob)) → IsLawful sets → BestBelow sets (length sets) None → BringsBest sets sets
BringsBest-none sets lawful asleep =
    let none : best (slots_of sets) ≡ None = best-none sets lawful asleep in
    record {
      lawful = lawful;
      in_front = λ i s at awake. absurd (let a : s.asleep ≡ true = asleep i s (Holds-within sets i s at) at in cc);
      same_length = refl;
      slots = refl;
      running = running_in-asleep sets (λ r at. asleep 0 r (Holds-within sets 0 r at) at) ∙ sym none;
      entries = rw none;
    }
