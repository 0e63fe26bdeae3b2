-- What leaving set 0 does to the plain list of jobs.
use Rattle.std.proofs.Common.{◌≡◌, ℕ, false, List, Option, Some, None, map, slice_index_or, slice_set, ap, sym, ◌∙◌}
use Rattle.agc_exec.specs.Stages.{Gives, BringsBest}
use Rattle.std.proofs.lemmas.List.{map-set, set-get_or}
use Rattle.std.proofs.lemmas.Option.{same_Some}
use Rattle.agc_plan.specs.Jobs.{job_in, with_job, best, end_of_job, sleep, sleeping_at}
use Rattle.agc_plan.specs.Places.{place_of, fronted, without, placed_end}
use Rattle.agc_plan.specs.declared.reply.Reply.TheVariants.{Left}
use Rattle.agc_exec.specs.HeldJob.{HeldJob}
use Rattle.agc_exec.specs.Sets.{job_of, slots_of, number_in, running_in, entries_of, Holds, IsLawful, IsStanding}
use Rattle.agc_exec.specs.Stages.{jobs_of}
use Rattle.agc_exec.proofs.Swaps.{Fits, IsLawful-set, slots_of-cleared, slots_of-changed}
use Rattle.agc_exec.proofs.Bests.{slot_of, place_of_number, running_in-awake}

pub cleared-lawful : (sets : List (Option HeldJob)) (k : ℕ) → IsLawful sets → IsLawful (slice_set sets k None)
cleared-lawful sets k lawful = IsLawful-set sets k None lawful (λ r no. absurd (cc))

-- a job may stay where it is, with its number and its area
pub Fits-same : (sets : List (Option HeldJob)) (k : ℕ) (r new : HeldJob) → IsLawful sets → Holds sets k r → new.number ≡ r.number → new.area ≡ r.area → Fits sets k new
Fits-same sets k r new lawful at number area = record {
  low = rw number (lawful.low k r at);
  high = rw number (lawful.high k r at);
  apart = λ j s ne at_j same. ne (lawful.distinct j k s r at_j at (same ∙ number));
  own = λ j s ne at_j above same. ne (lawful.areas j k s r at_j at (rw same above) (same ∙ area));
}

pub changed-lawful : (sets : List (Option HeldJob)) (k : ℕ) (r new : HeldJob) → IsLawful sets → Holds sets k r → new.number ≡ r.number → new.area ≡ r.area → IsLawful (slice_set sets k (Some new))
changed-lawful sets k r new lawful at number area = IsLawful-set sets k (Some new) lawful (λ s same. let is : new ≡ s = same_Some new s same in rw (← is) (Fits-same sets k r new lawful at number area))

pub changed-entries : (sets : List (Option HeldJob)) (k : ℕ) (r new : HeldJob) → Holds sets k r → new.number ≡ r.number → entries_of (slice_set sets k (Some new)) ≡ entries_of sets
changed-entries sets k r new at number =
    map-set number_in sets k (Some new) ∙ ap (slice_set (entries_of sets) k) (number ∙ sym (ap number_in at)) ∙ sym (map-set number_in sets k (slice_index_or sets k None)) ∙ ap (map number_in) (set-get_or sets k None)

-- the running job was removed, and the best came
pub Gives-end : (sets new : List (Option HeldJob)) (r : HeldJob) → IsStanding sets → Holds sets 0 r → r.asleep ≡ false → BringsBest (slice_set sets 0 None) new → Gives (end_of_job (jobs_of sets)) (placed_end (running_in sets) (running_in new) (entries_of sets)) new (Left (running_in new))
Gives-end sets new r standing at awake brings =
    let lawful : IsLawful sets = standing.lawful in
    let cleared : slots_of (slice_set sets 0 None) ≡ with_job (slots_of sets) r.number None = slots_of-cleared sets 0 r lawful at in
    let slots : slots_of new ≡ with_job (slots_of sets) r.number None = brings.slots ∙ cleared in
    let runs : running_in new ≡ best (with_job (slots_of sets) r.number None) = brings.running ∙ ap best cleared in
    let ran : running_in sets ≡ Some r.number = running_in-awake sets r at awake in
    let place : place_of r.number (entries_of sets) ≡ 0 = place_of_number sets 0 r lawful at in
    let entries : entries_of (slice_set sets 0 None) ≡ without r.number (entries_of sets) = rw place (map-set number_in sets 0 None) in
    record {
      standing = record { lawful = brings.lawful; in_front = brings.in_front };
      outcome_is = rw (ran, slots, runs);
      entries_is = brings.entries ∙ rw (← brings.running, ran, entries);
    }

-- the running job fell asleep, and the best came
pub Gives-sleep : (sets new : List (Option HeldJob)) (r slept : HeldJob) (at : ℕ) → IsStanding sets → Holds sets 0 r → r.asleep ≡ false → slept.number ≡ r.number → job_of slept ≡ sleeping_at at (job_of r) → BringsBest (slice_set sets 0 (Some slept)) new → Gives (sleep at (jobs_of sets)) (fronted (running_in new) (entries_of sets)) new (Left (running_in new))
Gives-sleep sets new r slept at standing here awake number job brings =
    let lawful : IsLawful sets = standing.lawful in
    let changed : slots_of (slice_set sets 0 (Some slept)) ≡ with_job (slots_of sets) r.number (Some (sleeping_at at (job_of r))) = slots_of-changed sets 0 r slept lawful here number ∙ ap (λ j. with_job (slots_of sets) r.number (Some j)) job in
    let slots : slots_of new ≡ with_job (slots_of sets) r.number (Some (sleeping_at at (job_of r))) = brings.slots ∙ changed in
    let runs : running_in new ≡ best (with_job (slots_of sets) r.number (Some (sleeping_at at (job_of r)))) = brings.running ∙ ap best changed in
    let ran : running_in sets ≡ Some r.number = running_in-awake sets r here awake in
    let slot : job_in (slots_of sets) r.number ≡ Some (job_of r) = slot_of sets 0 r lawful here in
    record {
      standing = record { lawful = brings.lawful; in_front = brings.in_front };
      outcome_is = rw (ran, slot, slots, runs);
      entries_is = brings.entries ∙ rw (← brings.running, changed-entries sets 0 r slept here number);
    }
