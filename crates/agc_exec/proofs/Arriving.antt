-- What a new job in the first free set does to the plain list of jobs.
use Rattle.std.proofs.Common.{◌≡◌, ◌≢◌, ℕ, suc, ◌+◌, ◌-◌, ◌<◌, ◌≤◌, Bool, true, false, List, [], ◌∷◌, Option, Some, None, length, slice_index_or, slice_set, swap, refl, ap, sym, ◌∙◌, arith}
use Rattle.agc_exec.specs.Stages.{IsFreeAt, IsUnowned, Gives, BringsBest}
use Rattle.std.proofs.lemmas.List.{get_or-set_other, map-set}
use Rattle.agc_plan.specs.Jobs.{Job, least_unused, with_job, best, establish_at, new_job}
use Rattle.agc_plan.specs.Places.{place_of, with_new, placed_new}
use Rattle.agc_plan.specs.declared.request.Entry.{Entry}
use Rattle.agc_plan.specs.declared.reply.Reply.TheVariants.{Established}
use Rattle.agc_exec.specs.HeldJob.{HeldJob}
use Rattle.agc_exec.specs.Sets.{job_of, job_numbered, slots_of, number_in, running_in, entries_of, Holds, IsLawful, IsStanding}
use Rattle.agc_exec.specs.Stages.{jobs_of}
use Rattle.std.proofs.lemmas.Option.{same_Some}
use Rattle.agc_exec.proofs.Slots.{None-job_numbered, get_or-slots_from, length-slots_from}
use Rattle.agc_exec.proofs.Swaps.{Fits, IsLawful-set, slots_of-written}
use Rattle.agc_exec.proofs.Bests.{place_of_number, running_in-awake}

-- what is known of the least unused number
pub least_unused-fits : (from : ℕ) (slots : List (Option Job)) (n : ℕ) → least_unused from slots ≡ Some n → (from ≤ n) × (n < from + length slots) × (slice_index_or slots (n - from) None ≡ None)
least_unused-fits from [] n e = absurd (cc)
least_unused-fits from (None ∷ slots) n e =
    let same : from ≡ n = cc in
    let z : n - from ≡ 0 = omega arith in
    (omega arith, omega arith, rw z)
least_unused-fits from (Some job ∷ slots) n e =
    let (low, high, at) = least_unused-fits (from + 1) slots n e in
    let z : n - from ≡ suc (n - (from + 1)) = omega arith in
    (omega arith, omega arith, rw z at)

pub unused_number : (sets : List (Option HeldJob)) (n : ℕ) → least_unused 1 (slots_of sets) ≡ Some n → (1 ≤ n) × (n ≤ length sets) × (job_numbered sets n ≡ None)
unused_number sets n e =
    let (low, high, at) = least_unused-fits 1 (slots_of sets) n e in
    let len : length (slots_of sets) ≡ length sets = length-slots_from (length sets) 1 sets in
    let number : 1 + (n - 1) ≡ n = omega arith in
    (low, omega arith, ap (job_numbered sets) (sym number) ∙ sym (get_or-slots_from (length sets) 1 sets (n - 1) (omega arith)) ∙ at)

pub Fits-new : (sets : List (Option HeldJob)) (k : ℕ) (r : HeldJob) → least_unused 1 (slots_of sets) ≡ Some r.number → (0 < r.area → IsUnowned sets r.area) → Fits sets k r
Fits-new sets k r e own =
    let (low, high, unused) = unused_number sets r.number e in
    record {
      low = low;
      high = high;
      apart = λ j s ne at. None-job_numbered sets r.number unused j s at;
      own = λ j s ne at above. own above j s at;
    }

pub written-lawful : (sets : List (Option HeldJob)) (k : ℕ) (r : HeldJob) → IsLawful sets → least_unused 1 (slots_of sets) ≡ Some r.number → (0 < r.area → IsUnowned sets r.area) → IsLawful (slice_set sets k (Some r))
written-lawful sets k r lawful e own = IsLawful-set sets k (Some r) lawful (λ s same. let is : r ≡ s = same_Some r s same in rw (← is) (Fits-new sets k r e own))

-- the jobs and the places after the write
pub written-slots : (sets : List (Option HeldJob)) (k : ℕ) (r : HeldJob) → k < length sets → IsFreeAt sets k → least_unused 1 (slots_of sets) ≡ Some r.number → slots_of (slice_set sets k (Some r)) ≡ with_job (slots_of sets) r.number (Some (job_of r))
written-slots sets k r lt free e =
    let (low, high, unused) = unused_number sets r.number e in
    slots_of-written sets k r lt free low unused

pub written-entries : (sets : List (Option HeldJob)) (k : ℕ) (r : HeldJob) → k ≡ place_of 0 (entries_of sets) → entries_of (slice_set sets k (Some r)) ≡ with_new r.number (entries_of sets)
written-entries sets k r e = map-set number_in sets k (Some r) ∙ ap (λ i. slice_set (entries_of sets) i r.number) e

pub swap-none : (xs : List ℕ) → swap xs 0 0 ≡ xs
swap-none [] = refl
swap-none (x ∷ xs) = refl

pub running_in-found : (sets : List (Option HeldJob)) (n : ℕ) → running_in sets ≡ Some n → (s : HeldJob) × Holds sets 0 s × (s.asleep ≡ false) × (s.number ≡ n)
running_in-found [] n e = absurd (cc)
running_in-found (None ∷ sets) n e = absurd (cc)
running_in-found (Some s ∷ sets) n e = go s.asleep refl where
  go : (b : Bool) → s.asleep ≡ b → (t : HeldJob) × (Some s ≡ Some t) × (t.asleep ≡ false) × (t.number ≡ n)
  go true asleep = let no : None ≡ Some n = rw asleep at e in absurd (cc)
  go false awake = let is : Some s.number ≡ Some n = rw awake at e in (s, refl, awake, same_Some s.number n is)

-- a new job comes to set k, the first free one
pub record Arrives (sets : List (Option HeldJob)) (k : ℕ) (r : HeldJob) (job : Job) : Type 0 where
  pub standing : IsStanding sets
  pub within : k < length sets
  pub free : IsFreeAt sets k
  pub first : k ≡ place_of 0 (entries_of sets)
  pub number : Some r.number ≡ least_unused 1 (slots_of sets)
  pub five : r.area ≤ 5
  pub own : 0 < r.area → IsUnowned sets r.area
  pub same : job_of r ≡ job

pub Arrives-made : (sets : List (Option HeldJob)) (k : ℕ) (r : HeldJob) (number priority : ℕ) (entry : Entry) (area : ℕ) → IsStanding sets → (k < length sets) × IsFreeAt sets k → k ≡ place_of 0 (entries_of sets) → Some number ≡ least_unused 1 (slots_of sets) → area ≤ 5 → (0 < area → IsUnowned sets area) → r.number ≡ number → job_of r ≡ new_job priority entry area → Arrives sets k r (new_job priority entry area)
Arrives-made sets k r number priority entry area standing free first e five own is same =
    let of_area : r.area ≡ area = ap (λ j. j.area) same in
    record { standing = standing; within = free.0; free = free.1; first = first; number = ap Some is ∙ e; five = rw of_area five; own = rw of_area own; same = same }

pub arrived-lawful : (sets : List (Option HeldJob)) (k : ℕ) (r : HeldJob) (job : Job) → Arrives sets k r job → IsLawful (slice_set sets k (Some r))
arrived-lawful sets k r job a = written-lawful sets k r a.standing.lawful (sym a.number) a.own

-- somebody runs: the new job stays where it came
pub Gives-busy : (sets : List (Option HeldJob)) (k n : ℕ) (r : HeldJob) (job : Job) → Arrives sets k r job → running_in sets ≡ Some n → let new = slice_set sets k (Some r) in let number = least_unused 1 (slots_of sets) in Gives (establish_at number job (jobs_of sets)) (placed_new (Some r.number) (running_in new) (entries_of sets)) new (Established r.number)
Gives-busy sets k n r job a runs =
    let (s, at, awake, number) = running_in-found sets n runs in
    let apart : 0 ≢ k = λ e. let none : slice_index_or sets 0 None ≡ None = ap (λ i. slice_index_or sets i None) e ∙ a.free in let no : None ≡ Some s = sym none ∙ at in absurd (cc) in
    let there : Holds (slice_set sets k (Some r)) 0 s = get_or-set_other sets k 0 (Some r) None apart ∙ at in
    let lawful : IsLawful (slice_set sets k (Some r)) = arrived-lawful sets k r job a in
    let slots : slots_of (slice_set sets k (Some r)) ≡ with_job (slots_of sets) r.number (Some (job_of r)) = written-slots sets k r a.within a.free (sym a.number) in
    let runner : running_in (slice_set sets k (Some r)) ≡ Some n = running_in-awake (slice_set sets k (Some r)) s there awake ∙ ap Some number in
    let entries : entries_of (slice_set sets k (Some r)) ≡ with_new r.number (entries_of sets) = written-entries sets k r a.first in
    let place : place_of n (entries_of (slice_set sets k (Some r))) ≡ 0 = ap (λ m. place_of m (entries_of (slice_set sets k (Some r)))) (sym number) ∙ place_of_number (slice_set sets k (Some r)) 0 s lawful there in
    record {
      standing = record { lawful = lawful; in_front = λ i q at_i awake_i. (s, there, awake) };
      outcome_is = rw (← a.number, slots, runner, runs, ← a.same);
      entries_is = rw (runner, ← entries, place) (sym (swap-none (entries_of (slice_set sets k (Some r)))));
    }

-- nobody runs: the best comes to set 0
pub Gives-idle : (sets new : List (Option HeldJob)) (k : ℕ) (r : HeldJob) (job : Job) → Arrives sets k r job → running_in sets ≡ None → BringsBest (slice_set sets k (Some r)) new → let number = least_unused 1 (slots_of sets) in Gives (establish_at number job (jobs_of sets)) (placed_new (Some r.number) (running_in new) (entries_of sets)) new (Established r.number)
Gives-idle sets new k r job a idle brings =
    let written : slots_of (slice_set sets k (Some r)) ≡ with_job (slots_of sets) r.number (Some (job_of r)) = written-slots sets k r a.within a.free (sym a.number) in
    let slots : slots_of new ≡ with_job (slots_of sets) r.number (Some (job_of r)) = brings.slots ∙ written in
    let runs : running_in new ≡ best (with_job (slots_of sets) r.number (Some (job_of r))) = brings.running ∙ ap best written in
    record {
      standing = record { lawful = brings.lawful; in_front = brings.in_front };
      outcome_is = rw (← a.number, slots, runs, idle, ← a.same);
      entries_is = brings.entries ∙ rw (← brings.running, written-entries sets k r a.first);
    }
