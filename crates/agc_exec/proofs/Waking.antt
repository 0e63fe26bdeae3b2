-- What waking a sleeper does to the plain list of jobs.
use Rattle.std.proofs.Common.{◌≡◌, ◌≢◌, ℕ, ◌+◌, ◌-◌, ◌<◌, ◌≤◌, Bool, true, false, List, Option, Some, None, length, slice_index_or, slice_set, refl, ap, sym, ◌∙◌, arith}
use Rattle.agc_exec.specs.Stages.{Gives, BringsBest, IsFirstBelow, FirstBelow}
use Rattle.std.proofs.lemmas.List.{get_or-set_other}
use Rattle.std.proofs.lemmas.Option.{same_Some}
use Rattle.std.proofs.lemmas.Grind.{common_steps}
use Rattle.agc_plan.specs.Jobs.{Job, job_in, with_job, best, is_sleeper, sleeper_from, woken, rouse}
use Rattle.agc_plan.specs.Places.{place_of, fronted}
use Rattle.agc_plan.specs.declared.reply.Reply.TheVariants.{Roused, NoSleeper}
use Rattle.agc_exec.specs.HeldJob.{HeldJob}
use Rattle.agc_exec.specs.Sets.{job_of, slots_of, running_in, entries_of, Holds, IsLawful, IsStanding}
use Rattle.agc_exec.specs.Stages.{jobs_of}
use Rattle.agc_exec.proofs.Swaps.{Holds-within, slots_of-changed}
use Rattle.agc_exec.proofs.Bests.{slot_found, slot_of, place_of_number, running_in-awake}
use Rattle.agc_exec.proofs.Arriving.{swap-none, running_in-found}
use Rattle.agc_exec.proofs.Leaving.{changed-lawful, changed-entries}
use Rattle.agc_exec.proofs.Searches.{sleeper_from-is, sleeper_from-none}

pub sleeper-is : (sets : List (Option HeldJob)) (at k : ℕ) (r : HeldJob) → IsLawful sets → IsFirstBelow sets at (length sets) k r → sleeper_from 1 at (slots_of sets) ≡ Some r.number
sleeper-is sets at k r lawful is =
    let low : 1 ≤ r.number = lawful.low k r is.here in
    let number : 1 + (r.number - 1) ≡ r.number = omega arith in
    sleeper_from-is 1 at (slots_of sets) (r.number - 1) (job_of r) (slot_of sets k r lawful is.here) is.sleeps before ∙ ap Some number
  where
    before : (j : ℕ) (other : Job) → j < r.number - 1 → slice_index_or (slots_of sets) j None ≡ Some other → is_sleeper at other ≡ false
    before j other lt e =
        let (i, s, here, number, same) = slot_found sets j other e in
        go s i here number same (is_sleeper at other) refl
      where
        go : (s : HeldJob) (i : ℕ) → Holds sets i s → s.number ≡ j + 1 → job_of s ≡ other → (b : Bool) → is_sleeper at other ≡ b → is_sleeper at other ≡ false
        go s i here number same false e = e
        go s i here number same true e = let le : r.number ≤ s.number = is.first i s (Holds-within sets i s here) here (ap (is_sleeper at) same ∙ e) in absurd (omega arith)

pub Gives-no_sleeper : (sets : List (Option HeldJob)) (at : ℕ) → IsStanding sets → FirstBelow sets at (length sets) None → Gives (rouse at (jobs_of sets)) (fronted (running_in sets) (entries_of sets)) sets NoSleeper
Gives-no_sleeper sets at standing asleep =
    let none : sleeper_from 1 at (slots_of sets) ≡ None = sleeper_from-none 1 at (slots_of sets) (λ j other e. let (i, s, here, number, same) = slot_found sets j other e in sym (ap (is_sleeper at) same) ∙ asleep i s (Holds-within sets i s here) here) in
    record { standing = standing; outcome_is = rw none; entries_is = sym (fronted-same sets standing) }
  where
    go : (sets : List (Option HeldJob)) → IsStanding sets → (o : Option ℕ) → running_in sets ≡ o → fronted o (entries_of sets) ≡ entries_of sets
    go sets standing None e = refl
    go sets standing (Some n) e =
        let (s, here, awake, number) = running_in-found sets n e in
        let place : place_of n (entries_of sets) ≡ 0 = ap (λ m. place_of m (entries_of sets)) (sym number) ∙ place_of_number sets 0 s standing.lawful here in
        rw place (swap-none (entries_of sets))

    fronted-same : (sets : List (Option HeldJob)) → IsStanding sets → fronted (running_in sets) (entries_of sets) ≡ entries_of sets
    fronted-same sets standing = go sets standing (running_in sets) refl

-- a job that wakes at its set
pub record Wakes (sets : List (Option HeldJob)) (at k : ℕ) (r changed : HeldJob) : Type 0 where
  pub standing : IsStanding sets
  pub is : IsFirstBelow sets at (length sets) k r
  pub number : changed.number ≡ r.number
  pub job : job_of changed ≡ woken (job_of r)

pub woken-lawful : (sets : List (Option HeldJob)) (at k : ℕ) (r changed : HeldJob) → Wakes sets at k r changed → IsLawful (slice_set sets k (Some changed))
woken-lawful sets at k r changed w = changed-lawful sets k r changed w.standing.lawful w.is.here w.number (ap (λ j. j.area) w.job)

woken-slots : (sets : List (Option HeldJob)) (at k : ℕ) (r changed : HeldJob) → Wakes sets at k r changed → slots_of (slice_set sets k (Some changed)) ≡ with_job (slots_of sets) r.number (Some (woken (job_of r)))
woken-slots sets at k r changed w = slots_of-changed sets k r changed w.standing.lawful w.is.here w.number ∙ ap (λ j. with_job (slots_of sets) r.number (Some j)) w.job

pub Gives-rouse-idle : (sets new : List (Option HeldJob)) (at k : ℕ) (r changed : HeldJob) → Wakes sets at k r changed → running_in sets ≡ None → BringsBest (slice_set sets k (Some changed)) new → Gives (rouse at (jobs_of sets)) (fronted (running_in new) (entries_of sets)) new (Roused r.number)
Gives-rouse-idle sets new at k r changed w idle brings =
    let slot : job_in (slots_of sets) r.number ≡ Some (job_of r) = slot_of sets k r w.standing.lawful w.is.here in
    let sleeper : sleeper_from 1 at (slots_of sets) ≡ Some r.number = sleeper-is sets at k r w.standing.lawful w.is in
    let slots : slots_of new ≡ with_job (slots_of sets) r.number (Some (woken (job_of r))) = brings.slots ∙ woken-slots sets at k r changed w in
    let runs : running_in new ≡ best (with_job (slots_of sets) r.number (Some (woken (job_of r)))) = brings.running ∙ ap best (woken-slots sets at k r changed w) in
    record {
      standing = record { lawful = brings.lawful; in_front = brings.in_front };
      outcome_is = rw (sleeper, slot, slots, runs, idle);
      entries_is = brings.entries ∙ rw (← brings.running, changed-entries sets k r changed w.is.here w.number);
    }

pub Gives-rouse-busy : (sets : List (Option HeldJob)) (at k n : ℕ) (r changed : HeldJob) → Wakes sets at k r changed → running_in sets ≡ Some n → let new = slice_set sets k (Some changed) in Gives (rouse at (jobs_of sets)) (fronted (running_in new) (entries_of sets)) new (Roused r.number)
Gives-rouse-busy sets at k n r changed w runs =
    let (s, here, awake, number) = running_in-found sets n runs in
    let slot : job_in (slots_of sets) r.number ≡ Some (job_of r) = slot_of sets k r w.standing.lawful w.is.here in
    let sleeper : sleeper_from 1 at (slots_of sets) ≡ Some r.number = sleeper-is sets at k r w.standing.lawful w.is in
    let apart : 0 ≢ k = λ e.
    let same : Some s ≡ Some r = sym here ∙ ap (λ i. slice_index_or sets i None) e ∙ w.is.here in
    let is : s ≡ r = same_Some s r same in
    let sleeps : r.asleep ≡ true = grind (arith, common_steps, w.is.sleeps) in
    let no : true ≡ false = sym sleeps ∙ sym (ap (λ x. x.asleep) is) ∙ awake in absurd (cc) in
    let there : Holds (slice_set sets k (Some changed)) 0 s = get_or-set_other sets k 0 (Some changed) None apart ∙ here in
    let runner : running_in (slice_set sets k (Some changed)) ≡ Some n = running_in-awake (slice_set sets k (Some changed)) s there awake ∙ ap Some number in
    let place : place_of n (entries_of sets) ≡ 0 = ap (λ m. place_of m (entries_of sets)) (sym number) ∙ place_of_number sets 0 s w.standing.lawful here in
    record {
      standing = record { lawful = woken-lawful sets at k r changed w; in_front = λ i q at_i awake_i. (s, there, awake) };
      outcome_is = rw (sleeper, slot, woken-slots sets at k r changed w, runner, runs);
      entries_is = changed-entries sets k r changed w.is.here w.number ∙ rw (runner, place) (sym (swap-none (entries_of sets)));
    }
