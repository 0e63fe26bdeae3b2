-- Sets with one more behind them, which is free.
use Rattle.std.proofs.Common.{◌≡◌, ℕ, zero, suc, ◌+◌, ◌≤◌, ◌==◌, true, cond, List, [], ◌∷◌, ◌++◌, Option, Some, None, length, refl, ap, sym, ◌∙◌, arith}
use Rattle.std.proofs.lemmas.List.{length-append, map-append}
use Rattle.agc_plan.specs.Jobs.{Job, is_owned}
use Rattle.agc_exec.specs.HeldJob.{HeldJob}
use Rattle.agc_exec.specs.Stages.{newjob_of}
use Rattle.agc_exec.specs.Sets.{job_of, job_numbered, slots_of, number_in, entries_of, running_in, Holds, IsLawful, IsStanding}
use Rattle.agc_exec.specs.Stages.{jobs_of}
use Rattle.agc_exec.specs.Stages.{IsBestBelow, BestBelow}
use Rattle.agc_exec.proofs.Finishing.{newjob_of-none, newjob_of-best}
use Rattle.agc_exec.proofs.Named.{best_exists}
use Rattle.agc_exec.proofs.Slots.{job_numbered-none, slots_from, slots_from-same}
use Rattle.agc_exec.proofs.Swaps.{Holds-within}
use Rattle.agc_machine.specs.Migration.{roomier}

-- the same jobs stand in the same sets
pub held_before : (sets : List (Option HeldJob)) (k : ℕ) (r : HeldJob) → Holds (sets ++ None ∷ []) k r → Holds sets k r
held_before [] zero r at = absurd (cc)
held_before [] (suc k) r at = absurd (cc)
held_before (s ∷ sets) zero r at = at
held_before (s ∷ sets) (suc k) r at = held_before sets k r at

pub held_still : (sets : List (Option HeldJob)) (k : ℕ) (r : HeldJob) → Holds sets k r → Holds (sets ++ None ∷ []) k r
held_still [] k r at = absurd (cc)
held_still (s ∷ sets) zero r at = at
held_still (s ∷ sets) (suc k) r at = held_still sets k r at

length-roomier : (sets : List (Option HeldJob)) → length (sets ++ None ∷ []) ≡ suc (length sets)
length-roomier sets = let long : length (sets ++ None ∷ []) ≡ length sets + 1 = length-append sets (None ∷ []) in omega arith

job_numbered-roomier : (sets : List (Option HeldJob)) (n : ℕ) → job_numbered (sets ++ None ∷ []) n ≡ job_numbered sets n
job_numbered-roomier [] n = refl
job_numbered-roomier (None ∷ sets) n = job_numbered-roomier sets n
job_numbered-roomier (Some r ∷ sets) n = ap (cond (r.number == n) (Some (job_of r))) (job_numbered-roomier sets n)

-- one number more
slots_from-more : (more from : ℕ) (sets : List (Option HeldJob)) → slots_from (suc more) from sets ≡ slots_from more from sets ++ job_numbered sets (from + more) ∷ []
slots_from-more zero from sets = let z : from + 0 ≡ from = omega arith in rw z refl
slots_from-more (suc more) from sets =
    let z : from + suc more ≡ from + 1 + more = omega arith in
    rw z (ap (λ (slots : List (Option Job)). job_numbered sets from ∷ slots) (slots_from-more more (from + 1) sets))

pub slots_of-roomier : (sets : List (Option HeldJob)) → IsLawful sets → slots_of (sets ++ None ∷ []) ≡ slots_of sets ++ None ∷ []
slots_of-roomier sets lawful =
    slots_from-same (length (sets ++ None ∷ [])) 1 sets (sets ++ None ∷ []) (λ n le. job_numbered-roomier sets n)
    ∙ ap (λ (n : ℕ). slots_from n 1 sets) (length-roomier sets)
    ∙ slots_from-more (length sets) 1 sets
    ∙ ap (λ (job : Option Job). slots_of sets ++ job ∷ []) (job_numbered-none sets (1 + length sets) (λ i r at same. let high : r.number ≤ length sets = lawful.high i r at in let no : ⊥ = omega arith in no))

pub is_owned-roomier : (area : ℕ) (slots : List (Option Job)) → is_owned area (slots ++ None ∷ []) ≡ is_owned area slots
is_owned-roomier area [] = refl
is_owned-roomier area (None ∷ slots) = is_owned-roomier area slots
is_owned-roomier area (Some job ∷ slots) = ap (cond (job.area == area) true) (is_owned-roomier area slots)

running_in-roomier : (sets : List (Option HeldJob)) → running_in (sets ++ None ∷ []) ≡ running_in sets
running_in-roomier [] = refl
running_in-roomier (set ∷ sets) = refl

pub jobs_of-roomier : (sets : List (Option HeldJob)) → IsLawful sets → jobs_of (sets ++ None ∷ []) ≡ roomier (jobs_of sets)
jobs_of-roomier sets lawful = rw (slots_of-roomier sets lawful, running_in-roomier sets) refl

pub entries_of-roomier : (sets : List (Option HeldJob)) → entries_of (sets ++ None ∷ []) ≡ entries_of sets ++ 0 ∷ []
entries_of-roomier sets = map-append number_in sets (None ∷ [])

pub IsLawful-roomier : (sets : List (Option HeldJob)) → IsLawful sets → IsLawful (sets ++ None ∷ [])
IsLawful-roomier sets lawful = record {
  distinct = λ i j r s at_i at_j same. lawful.distinct i j r s (held_before sets i r at_i) (held_before sets j s at_j) same;
  low = λ i r at. lawful.low i r (held_before sets i r at);
  high = λ i r at.
      let high : r.number ≤ length sets = lawful.high i r (held_before sets i r at) in
      let long : length (sets ++ None ∷ []) ≡ suc (length sets) = length-roomier sets in
      omega arith;
  areas = λ i j r s at_i at_j positive same. lawful.areas i j r s (held_before sets i r at_i) (held_before sets j s at_j) positive same;
}

pub IsStanding-roomier : (sets : List (Option HeldJob)) → IsStanding sets → IsStanding (sets ++ None ∷ [])
IsStanding-roomier sets standing = record {
  lawful = IsLawful-roomier sets standing.lawful;
  in_front = λ i r at awake.
      let (s, here, ready) = standing.in_front i r (held_before sets i r at) awake in
      (s, held_still sets 0 s here, ready);
}

-- the best job stays the best
best_still : (sets : List (Option HeldJob)) (k : ℕ) (r : HeldJob) → IsBestBelow sets (length sets) k r → IsBestBelow (sets ++ None ∷ []) (length (sets ++ None ∷ [])) k r
best_still sets k r best = record {
  here = held_still sets k r best.here;
  awake = best.awake;
  first = λ j s lt at awake. best.first j s (Holds-within sets j s (held_before sets j s at)) (held_before sets j s at) awake;
}

pub newjob_of-roomier : (sets : List (Option HeldJob)) → IsStanding sets → newjob_of (sets ++ None ∷ []) ≡ newjob_of sets
newjob_of-roomier sets standing =
    let (o, best) = best_exists sets (length sets) in
    go o best
  where
    go : (o : Option (ℕ × HeldJob)) → BestBelow sets (length sets) o → newjob_of (sets ++ None ∷ []) ≡ newjob_of sets
    go None asleep =
        newjob_of-none (sets ++ None ∷ []) (IsLawful-roomier sets standing.lawful) (λ j s lt at. asleep j s (Holds-within sets j s (held_before sets j s at)) (held_before sets j s at))
        ∙ sym (newjob_of-none sets standing.lawful asleep)
    go (Some b) best =
        let (job, here, awake) = standing.in_front b.0 b.1 best.here best.awake in
        newjob_of-best (sets ++ None ∷ []) b.0 b.1 job (IsLawful-roomier sets standing.lawful) (best_still sets b.0 b.1 best) (held_still sets 0 job here)
        ∙ sym (newjob_of-best sets b.0 b.1 job standing.lawful best here)
