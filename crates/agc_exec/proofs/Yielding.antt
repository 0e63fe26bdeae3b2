-- What a change of the running job does to the plain list of jobs.
use Rattle.std.proofs.Common.{◌≡◌, ℕ, true, false, nat_lt, List, Option, Some, None, length, slice_set, swap, refl, ap, sym, ◌∙◌}
use Rattle.agc_exec.specs.Stages.{Gives, BringsBest, GivesWay, IsBestBelow}
use Rattle.std.proofs.lemmas.List.{get_or-set_same}
use Rattle.agc_plan.specs.Jobs.{Job, job_in, with_job, best, best_from, change, store, with_word}
use Rattle.agc_plan.proofs.Running.{with_running, store_is}
use Rattle.agc_plan.specs.Places.{place_of, fronted}
use Rattle.agc_plan.specs.declared.reply.Reply.TheVariants.{Runs, Stored}
use Rattle.agc_exec.specs.HeldJob.{HeldJob}
use Rattle.agc_exec.specs.Sets.{job_of, slots_of, running_in, entries_of, Holds, IsStanding}
use Rattle.agc_exec.specs.Stages.{jobs_of}
use Rattle.agc_exec.proofs.Swaps.{Holds-within, slots_of-changed}
use Rattle.agc_exec.proofs.Bests.{slot_of, place_of_number, running_in-awake, best_ready, BringsBest-swap}
use Rattle.agc_exec.proofs.Arriving.{swap-none}
use Rattle.agc_exec.proofs.Leaving.{changed-lawful, changed-entries}

-- the best is strictly more urgent
pub GivesWay-swap : (sets : List (Option HeldJob)) (k : ℕ) (r first : HeldJob) → IsStanding sets → Holds sets 0 r → IsBestBelow sets (length sets) k first → nat_lt r.priority first.priority ≡ true → GivesWay r.number sets (swap sets 0 k) first.number
GivesWay-swap sets k r first standing at is less =
    let b : BringsBest sets (swap sets 0 k) = BringsBest-swap sets k first standing.lawful is in
    let ready : best_from 1 (slots_of sets) ≡ Some (record { number = first.number; priority = first.priority }) = best_ready sets k first standing.lawful is in
    let slot : job_in (slots_of sets) r.number ≡ Some (job_of r) = slot_of sets 0 r standing.lawful at in
    let most : best (slots_of sets) ≡ Some first.number = rw ready in
    record {
      standing = record { lawful = b.lawful; in_front = b.in_front };
      slots = b.slots;
      now_is = rw (ready, slot, less);
      running = b.running ∙ most;
      entries = b.entries ∙ ap (λ o. fronted o (entries_of sets)) most;
    }

-- the best isn't
pub GivesWay-none : (sets : List (Option HeldJob)) (k : ℕ) (r first : HeldJob) → IsStanding sets → Holds sets 0 r → r.asleep ≡ false → IsBestBelow sets (length sets) k first → nat_lt r.priority first.priority ≡ false → GivesWay r.number sets sets r.number
GivesWay-none sets k r first standing at awake is less =
    let ready : best_from 1 (slots_of sets) ≡ Some (record { number = first.number; priority = first.priority }) = best_ready sets k first standing.lawful is in
    let slot : job_in (slots_of sets) r.number ≡ Some (job_of r) = slot_of sets 0 r standing.lawful at in
    let place : place_of r.number (entries_of sets) ≡ 0 = place_of_number sets 0 r standing.lawful at in
    record {
      standing = standing;
      slots = refl;
      now_is = rw (ready, slot, less);
      running = running_in-awake sets r at awake;
      entries = rw place (sym (swap-none (entries_of sets)));
    }

-- the running job changed where it stands
pub changed-standing : (sets : List (Option HeldJob)) (r new : HeldJob) → IsStanding sets → Holds sets 0 r → new.number ≡ r.number → new.area ≡ r.area → new.asleep ≡ false → IsStanding (slice_set sets 0 (Some new))
changed-standing sets r new standing at number area awake =
    let there : Holds (slice_set sets 0 (Some new)) 0 new = get_or-set_same sets 0 (Some new) None (Holds-within sets 0 r at) in
    record {
      lawful = changed-lawful sets 0 r new standing.lawful at number area;
      in_front = λ i s at_i awake_i. (new, there, awake);
    }

pub Gives-change : (sets new : List (Option HeldJob)) (r : HeldJob) (now : ℕ) → Holds sets 0 r → r.asleep ≡ false → GivesWay r.number sets new now → Gives (change (jobs_of sets)) (fronted (running_in new) (entries_of sets)) new (Runs now)
Gives-change sets new r now at awake way =
    let ran : running_in sets ≡ Some r.number = running_in-awake sets r at awake in
    record {
      standing = way.standing;
      outcome_is = rw (ran, way.slots, way.running, way.now_is);
      entries_is = rw way.running way.entries;
    }

-- the plain jobs after a write to the running job's record
pub jobs_of-changed : (sets : List (Option HeldJob)) (r new : HeldJob) (made : Job → Job) → IsStanding sets → Holds sets 0 r → r.asleep ≡ false → new.number ≡ r.number → job_of new ≡ made (job_of r) → new.asleep ≡ false → jobs_of (slice_set sets 0 (Some new)) ≡ with_running made (jobs_of sets)
jobs_of-changed sets r new made standing at awake number job awake' =
    let ran : running_in sets ≡ Some r.number = running_in-awake sets r at awake in
    let slot : job_in (slots_of sets) r.number ≡ Some (job_of r) = slot_of sets 0 r standing.lawful at in
    let there : Holds (slice_set sets 0 (Some new)) 0 new = get_or-set_same sets 0 (Some new) None (Holds-within sets 0 r at) in
    let runs : running_in (slice_set sets 0 (Some new)) ≡ Some r.number = running_in-awake (slice_set sets 0 (Some new)) new there awake' ∙ ap Some number in
    let slots : slots_of (slice_set sets 0 (Some new)) ≡ with_job (slots_of sets) r.number (Some (made (job_of r))) = slots_of-changed sets 0 r new standing.lawful at number ∙ ap (λ j. with_job (slots_of sets) r.number (Some j)) job in
    rw (ran, slot, slots, runs)

pub Gives-store : (sets : List (Option HeldJob)) (r changed : HeldJob) (place word : ℕ) → IsStanding sets → Holds sets 0 r → r.asleep ≡ false → changed.number ≡ r.number → job_of changed ≡ with_word place word (job_of r) → Gives (store place word (jobs_of sets)) (entries_of sets) (slice_set sets 0 (Some changed)) Stored
Gives-store sets r changed place word standing at awake number job =
    let area : changed.area ≡ r.area = ap (λ j. j.area) job in
    let awake' : changed.asleep ≡ false = ap (λ j. j.asleep) job ∙ awake in
    let ran : running_in sets ≡ Some r.number = running_in-awake sets r at awake in
    record {
      standing = changed-standing sets r changed standing at number area awake';
      outcome_is = rw (store_is place word (jobs_of sets), jobs_of-changed sets r changed (with_word place word) standing at awake number job awake', ran);
      entries_is = changed-entries sets 0 r changed at number;
    }
