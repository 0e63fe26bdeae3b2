-- What stays true of the jobs, whatever is done to them; and that nobody waits who is more urgent.
use Rattle.std.proofs.Common.{◌≡◌, ◌≢◌, ◌⊎◌, ◌↔◌, ℕ, zero, suc, ◌+◌, ◌-◌, ◌<◌, ◌≤◌, true, false, List, Option, Some, None, length, slice_index_or, slice_set, replicate, refl, ap, sym, subst, ◌∙◌, inl, inr, nat_lt, arith}
use Rattle.std.proofs.lemmas.Bool.{cases_eq, cases_Bool}
use Rattle.std.proofs.lemmas.List.{get_or-set_other, get_or-set_same, length-set, length-replicate}
use Rattle.std.proofs.lemmas.Option.{same_Some}
use Rattle.std.proofs.lemmas.Grind.{common_steps}
use Rattle.std.specs.Prelude.{option_map, IsSome}
use Rattle.agc_plan.specs.declared.request.Entry.{Entry}
use Rattle.agc_plan.specs.Jobs.{Job, Jobs, Ready, no_jobs, job_in, with_job, best, best_from, runner_after, least_unused, least_unowned, new_job, Outcome, establish_at, novac, findvac_at, findvac, end_of_job, sleeping_at, sleep, outrun_by, run_on, change, with_priority, prio, with_word, store, sleeper_from, woken, rouse}
use Rattle.agc_plan.specs.Laws.{Lives, LivesAwake, SomebodyIsAwake, NobodyIsAwake, IsLeastUnused, IsLeastUnowned, IsRunnerAwake, IsNoAreaShared, IsEachAreaKnown, IsUnrivalled}
use Rattle.agc_plan.proofs.Running.{with_running, prio_is, store_is}
use Rattle.agc_plan.proofs.Searches.{At, at_within, lives_at, option_cases, best-most_urgent, best-nobody, ready_found, least_unused-least, least_unowned-least}

-- so many slots, areas up to 5, and none owned twice
pub record IsOrderly (n : ℕ) (slots : List (Option Job)) : Type 0 where
  pub size : length slots ≡ n
  pub areas : (i : ℕ) (job : Job) → At slots i (Some job) → job.area ≤ 5
  pub once : (i j : ℕ) (job other : Job) → At slots i (Some job) → At slots j (Some other) → 1 ≤ job.area → job.area ≡ other.area → i ≡ j

-- the job that runs is awake, and where nobody runs nobody is
pub record IsRunBy (slots : List (Option Job)) (running : Option ℕ) : Type 0 where
  pub runner : (number : ℕ) → running ≡ Some number → (job : Job) × LivesAwake slots number job
  pub nobody : running ≡ None → NobodyIsAwake slots

pub record IsSound (n : ℕ) (jobs : Jobs) : Type 0 where
  pub orderly : IsOrderly n jobs.slots
  pub run : IsRunBy jobs.slots jobs.running

-- who stands where after one slot was set
at_set : (slots : List (Option Job)) (k : ℕ) (o : Option Job) (i : ℕ) (job : Job) → At (slice_set slots k o) i (Some job) → ((i ≡ k) × (o ≡ Some job)) ⊎ ((i ≢ k) × At slots i (Some job))
at_set slots k o i job at = elim (cases_eq i k) [
  | inl same ↦
      let within : i < length (slice_set slots k o) = at_within (slice_set slots k o) i job at in
      let len : length (slice_set slots k o) ≡ length slots = length-set slots k o in
      let here : slice_index_or (slice_set slots k o) k None ≡ o = get_or-set_same slots k o None (omega arith) in
      inl (same, sym here ∙ ap (λ n. slice_index_or (slice_set slots k o) n None) (sym same) ∙ at)
  | inr ne ↦ inr (ne, sym (get_or-set_other slots k i o None ne) ∙ at)
]

-- what stands in one slot becomes this, which owns nobody else's area
set_orderly : {size : ℕ} → (slots : List (Option Job)) (k : ℕ) (o : Option Job) → IsOrderly size slots → ((job : Job) → o ≡ Some job → (job.area ≤ 5) × ((i : ℕ) (other : Job) → i ≢ k → At slots i (Some other) → 1 ≤ other.area → job.area ≡ other.area → ⊥)) → IsOrderly size (slice_set slots k o)
set_orderly slots k o h fits = record {
  size = length-set slots k o ∙ h.size;
  areas = λ i job at. elim (at_set slots k o i job at) [ inl here ↦ (fits job here.1).0 | inr there ↦ h.areas i job there.1 ];
  once = λ i j job other at_i at_j owns same. elim (at_set slots k o i job at_i) [
    | inl here ↦ elim (at_set slots k o j other at_j) [
      | inl too ↦ here.0 ∙ sym too.0
      | inr there ↦ absurd ((fits job here.1).1 j other there.0 there.1 (omega arith) same)
    ]
    | inr there ↦ elim (at_set slots k o j other at_j) [
      | inl here ↦ absurd ((fits other here.1).1 i job there.0 there.1 owns (sym same))
      | inr too ↦ h.once i j job other there.1 too.1 owns same
    ]
  ];
}

removed_orderly : {size : ℕ} → (slots : List (Option Job)) (number : ℕ) → IsOrderly size slots → IsOrderly size (with_job slots number None)
removed_orderly slots number h = set_orderly slots (number - 1) None h (λ job is. absurd (let no : None ≡ Some job = is in cc))

made_from : (made : Job → Job) (o : Option Job) (job : Job) → option_map made o ≡ Some job → (old : Job) × (o ≡ Some old) × (made old ≡ job)
made_from made None job e = absurd (cc)
made_from made (Some old) job e = (old, refl, same_Some (made old) job e)

changed_orderly : {size : ℕ} → (slots : List (Option Job)) (number : ℕ) (made : Job → Job) → ((job : Job) → (made job).area ≡ job.area) → IsOrderly size slots → IsOrderly size (with_job slots number (option_map made (job_in slots number)))
changed_orderly slots number made keeps h = set_orderly slots (number - 1) (option_map made (job_in slots number)) h fits
  where
    fits : (job : Job) → option_map made (job_in slots number) ≡ Some job → (job.area ≤ 5) × ((i : ℕ) (other : Job) → i ≢ number - 1 → At slots i (Some other) → 1 ≤ other.area → job.area ≡ other.area → ⊥)
    fits job is =
        let (old, at, same) = made_from made (job_in slots number) job is in
        let area : job.area ≡ old.area = ap (λ x. x.area) (sym same) ∙ keeps old in
        let le : old.area ≤ 5 = h.areas (number - 1) old at in
        (omega arith, λ i other ne there owns alike. ne (h.once i (number - 1) other old there at owns (sym alike ∙ area)))

-- a job in another slot stays
still_other : (slots : List (Option Job)) (k : ℕ) (o : Option Job) (number : ℕ) (job : Job) → number - 1 ≢ k → LivesAwake slots number job → LivesAwake (slice_set slots k o) number job
still_other slots k o number job ne lives = ((lives.0.0, get_or-set_other slots k (number - 1) o None ne ∙ lives.0.1), lives.1)

-- an awake job stays awake where a job is changed into one that is as awake
still_changed : (slots : List (Option Job)) (n : ℕ) (made : Job → Job) → ((job : Job) → job.asleep ≡ false → (made job).asleep ≡ false) → (number : ℕ) (job : Job) → LivesAwake slots number job → (new : Job) × LivesAwake (with_job slots n (option_map made (job_in slots n))) number new
still_changed slots n made keeps number job lives = elim (cases_eq (number - 1) (n - 1)) [
  | inl same ↦
      let within : number - 1 < length slots = at_within slots (number - 1) job lives.0.1 in
      let was : job_in slots n ≡ Some job = ap (λ k. slice_index_or slots k None) (sym same) ∙ lives.0.1 in
      let here : slice_index_or (with_job slots n (option_map made (job_in slots n))) (n - 1) None ≡ option_map made (job_in slots n) = get_or-set_same slots (n - 1) (option_map made (job_in slots n)) None (omega arith) in
      (made job, ((lives.0.0, ap (λ k. slice_index_or (with_job slots n (option_map made (job_in slots n))) k None) same ∙ here ∙ ap (option_map made) was), keeps job lives.1))
  | inr ne ↦ (job, still_other slots (n - 1) (option_map made (job_in slots n)) number job ne lives)
]

best_runs : (slots : List (Option Job)) → IsRunBy slots (best slots)
best_runs slots = record {
  runner = λ number is. let most = best-most_urgent slots number is in (most.job, most.awake);
  nobody = best-nobody slots;
}

after_runs : (running : Option ℕ) (slots : List (Option Job)) → ((number : ℕ) → running ≡ Some number → (job : Job) × LivesAwake slots number job) → IsRunBy slots (runner_after running slots)
after_runs None slots still = best_runs slots
after_runs (Some n) slots still = record { runner = still; nobody = λ e. absurd (let no : Some n ≡ None = e in cc) }

-- a new job at an unused number
pub established_sound : {size : ℕ} → (job : Job) (jobs : Jobs) → IsSound size jobs → (o : Option ℕ) → ((n : ℕ) → o ≡ Some n → IsLeastUnused jobs.slots n) → job.area ≤ 5 → ((i : ℕ) (other : Job) → At jobs.slots i (Some other) → 1 ≤ other.area → job.area ≡ other.area → ⊥) → IsSound size (establish_at o job jobs).jobs
established_sound job jobs s None least area own = s
established_sound job jobs s (Some n) least area own = record {
  orderly = set_orderly jobs.slots (n - 1) (Some job) s.orderly (λ new is. let same : job ≡ new = same_Some job new is in let alike : job.area ≡ new.area = ap (λ x. x.area) same in (omega arith, λ i other ne there owns e. own i other there owns (alike ∙ e)));
  run = after_runs jobs.running (with_job jobs.slots n (Some job)) still;
}
  where
    still : (number : ℕ) → jobs.running ≡ Some number → (old : Job) × LivesAwake (with_job jobs.slots n (Some job)) number old
    still number is =
        let (old, lives) = s.run.runner number is in
        let free : slice_index_or jobs.slots (n - 1) None ≡ None = (least n refl).unused in
        let apart : number - 1 ≢ n - 1 = λ same. let no : Some old ≡ None = sym lives.0.1 ∙ ap (λ k. slice_index_or jobs.slots k None) same ∙ free in cc in
        (old, still_other jobs.slots (n - 1) (Some job) number old apart lives)

pub novac_sound : {size : ℕ} → (priority : ℕ) (entry : Entry) (jobs : Jobs) → IsSound size jobs → IsSound size (novac priority entry jobs).jobs
novac_sound priority entry jobs s = established_sound (new_job priority entry 0) jobs s (least_unused 1 jobs.slots) (least_unused-least jobs.slots) (omega arith) (λ i other at owns same. omega arith)

findvac_at_sound : {size : ℕ} → (o : Option ℕ) (priority : ℕ) (entry : Entry) (jobs : Jobs) → ((area : ℕ) → o ≡ Some area → IsLeastUnowned jobs.slots area) → IsSound size jobs → IsSound size (findvac_at o priority entry jobs).jobs
findvac_at_sound None priority entry jobs least s = s
findvac_at_sound (Some area) priority entry jobs least s =
    let free : IsLeastUnowned jobs.slots area = least area refl in
    established_sound (new_job priority entry area) jobs s (least_unused 1 jobs.slots) (least_unused-least jobs.slots) free.high (λ i other at owns same. free.unowned (1 + i) other (lives_at jobs.slots i other at) (sym same))

pub findvac_sound : {size : ℕ} → (priority : ℕ) (entry : Entry) (jobs : Jobs) → IsSound size jobs → IsSound size (findvac priority entry jobs).jobs
findvac_sound priority entry jobs s = findvac_at_sound (least_unowned 5 1 jobs.slots) priority entry jobs (least_unowned-least jobs.slots) s

end_sound : {size : ℕ} → (slots : List (Option Job)) (running : Option ℕ) → IsSound size (record { slots = slots; running = running }) → IsSound size (end_of_job (record { slots = slots; running = running })).jobs
end_sound slots None s = s
end_sound slots (Some n) s = record { orderly = removed_orderly slots n s.orderly; run = best_runs (with_job slots n None) }

pub end_of_job_sound : {size : ℕ} → (jobs : Jobs) → IsSound size jobs → IsSound size (end_of_job jobs).jobs
end_of_job_sound jobs s = end_sound jobs.slots jobs.running s

slept_sound : {size : ℕ} → (at : ℕ) (slots : List (Option Job)) (running : Option ℕ) → IsSound size (record { slots = slots; running = running }) → IsSound size (sleep at (record { slots = slots; running = running })).jobs
slept_sound at slots None s = s
slept_sound at slots (Some n) s = record {
  orderly = changed_orderly slots n (sleeping_at at) (λ job. refl) s.orderly;
  run = best_runs (with_job slots n (option_map (sleeping_at at) (job_in slots n)));
}

pub sleep_sound : {size : ℕ} → (at : ℕ) (jobs : Jobs) → IsSound size jobs → IsSound size (sleep at jobs).jobs
sleep_sound at jobs s = slept_sound at jobs.slots jobs.running s

-- who runs on is awake
outrun_awake : (slots : List (Option Job)) (n : ℕ) (job : Job) → LivesAwake slots n job → (o : Option Ready) → best_from 1 slots ≡ o → (at : Option Job) → (number : ℕ) → outrun_by o at n ≡ number → (new : Job) × LivesAwake slots number new
outrun_awake slots n job lives None is at number e = subst (λ m. (new : Job) × LivesAwake slots m new) e (job, lives)
outrun_awake slots n job lives (Some r) is None number e = subst (λ m. (new : Job) × LivesAwake slots m new) e (job, lives)
outrun_awake slots n job lives (Some r) is (Some other) number e = elim (cases_Bool (nat_lt other.priority r.priority)) [
  | inl less ↦
      let same : r.number ≡ number = rw less at e in
      let (best, awake, p) = ready_found slots r is in
      subst (λ m. (new : Job) × LivesAwake slots m new) same (best, awake)
  | inr more ↦ let same : n ≡ number = rw more at e in subst (λ m. (new : Job) × LivesAwake slots m new) same (job, lives)
]

run_on_sound : {size : ℕ} → (slots : List (Option Job)) (n : ℕ) (job : Job) → IsOrderly size slots → LivesAwake slots n job → IsSound size (run_on n slots).jobs
run_on_sound slots n job h lives = record {
  orderly = h;
  run = record {
    runner = λ number is. outrun_awake slots n job lives (best_from 1 slots) refl (job_in slots n) number (same_Some (outrun_by (best_from 1 slots) (job_in slots n) n) number is);
    nobody = λ e. absurd (let no : Some (outrun_by (best_from 1 slots) (job_in slots n) n) ≡ None = e in cc);
  };
}

changes_sound : {size : ℕ} → (slots : List (Option Job)) (running : Option ℕ) → IsSound size (record { slots = slots; running = running }) → IsSound size (change (record { slots = slots; running = running })).jobs
changes_sound slots None s = s
changes_sound slots (Some n) s = let (job, lives) = s.run.runner n refl in run_on_sound slots n job s.orderly lives

pub change_sound : {size : ℕ} → (jobs : Jobs) → IsSound size jobs → IsSound size (change jobs).jobs
change_sound jobs s = changes_sound jobs.slots jobs.running s

-- the running job is changed into one as awake, with the same area
made_sound : {size : ℕ} → (made : Job → Job) → ((job : Job) → (made job).area ≡ job.area) → ((job : Job) → job.asleep ≡ false → (made job).asleep ≡ false) → (slots : List (Option Job)) (running : Option ℕ) → IsSound size (record { slots = slots; running = running }) → IsSound size (with_running made (record { slots = slots; running = running }))
made_sound made keeps awake slots None s = s
made_sound made keeps awake slots (Some n) s = record {
  orderly = changed_orderly slots n made keeps s.orderly;
  run = record {
    runner = λ number is. let (job, lives) = s.run.runner number is in still_changed slots n made awake number job lives;
    nobody = λ e. absurd (let no : Some n ≡ None = e in cc);
  };
}

pub prio_sound : {size : ℕ} → (priority : ℕ) (jobs : Jobs) → IsSound size jobs → IsSound size (prio priority jobs).jobs
prio_sound {size = size} priority jobs s = subst (λ (o : Outcome). IsSound size o.jobs) (sym (prio_is priority jobs)) (change_sound (with_running (with_priority priority) jobs) (made_sound (with_priority priority) (λ job. refl) (λ job e. e) jobs.slots jobs.running s))

pub store_sound : {size : ℕ} → (place word : ℕ) (jobs : Jobs) → IsSound size jobs → IsSound size (store place word jobs).jobs
store_sound {size = size} place word jobs s = subst (λ (o : Outcome). IsSound size o.jobs) (sym (store_is place word jobs)) (made_sound (with_word place word) (λ job. refl) (λ job e. e) jobs.slots jobs.running s)

pub rouse_sound : {size : ℕ} → (at : ℕ) (jobs : Jobs) → IsSound size jobs → IsSound size (rouse at jobs).jobs
rouse_sound {size = size} at jobs s = elim (option_cases (sleeper_from 1 at jobs.slots)) [
  | inl found ↦ rw found.1 (roused found.0)
  | inr off ↦ rw off s
]
  where
    roused : (n : ℕ) → IsSound size (record { slots = with_job jobs.slots n (option_map woken (job_in jobs.slots n)); running = runner_after jobs.running (with_job jobs.slots n (option_map woken (job_in jobs.slots n))) })
    roused n = record {
      orderly = changed_orderly jobs.slots n woken (λ job. refl) s.orderly;
      run = after_runs jobs.running (with_job jobs.slots n (option_map woken (job_in jobs.slots n))) (λ number is. let (job, lives) = s.run.runner number is in still_changed jobs.slots n woken (λ j e. refl) number job lives);
    }

empty_slot : (n j : ℕ) → slice_index_or (replicate {A = Option Job} n None) j None ≡ None
empty_slot zero j = refl
empty_slot (suc n) zero = refl
empty_slot (suc n) (suc j) = empty_slot n j

nobody_at : (n j : ℕ) (job : Job) → At (replicate n None) j (Some job) → ⊥
nobody_at n j job at = let no : None ≡ Some job = sym (empty_slot n j) ∙ at in cc

pub no_jobs_sound : (n : ℕ) → IsSound n (no_jobs n)
no_jobs_sound n = record {
  orderly = record {
    size = length-replicate n None;
    areas = λ i job at. absurd (nobody_at n i job at);
    once = λ i j job other at_i at_j owns same. absurd (nobody_at n i job at_i);
  };
  run = record {
    runner = λ number is. absurd (let no : None ≡ Some number = is in cc);
    nobody = λ e number job lives. absurd (nobody_at n (number - 1) job lives.1);
  };
}

-- what a reader wants to know of them
pub sound_runner : {size : ℕ} → (jobs : Jobs) → IsSound size jobs → IsRunnerAwake jobs
sound_runner jobs s = s.run.runner

pub sound_somebody : {size : ℕ} → (jobs : Jobs) → IsSound size jobs → IsSome jobs.running ↔ SomebodyIsAwake jobs.slots
sound_somebody jobs s = (there, back)
  where
    there : IsSome jobs.running → SomebodyIsAwake jobs.slots
    there some = go jobs.running refl some where
      go : (o : Option ℕ) → jobs.running ≡ o → IsSome o → SomebodyIsAwake jobs.slots
      go None is some = absurd (cc)
      go (Some n) is some = let (job, lives) = s.run.runner n is in (n, job, lives)

    back : SomebodyIsAwake jobs.slots → IsSome jobs.running
    back (number, job, lives) = go jobs.running refl where
      go : (o : Option ℕ) → jobs.running ≡ o → IsSome o
      go None is = let asleep : job.asleep ≡ true = s.run.nobody is number job lives.0 in let no : true ≡ false = sym asleep ∙ lives.1 in absurd (cc)
      go (Some n) is = refl

pub sound_areas : {size : ℕ} → (jobs : Jobs) → IsSound size jobs → IsNoAreaShared jobs.slots
sound_areas jobs s first second job other lives also owns same =
    let e : first - 1 ≡ second - 1 = s.orderly.once (first - 1) (second - 1) job other lives.1 also.1 owns same in
    let low : 1 ≤ first = lives.0 in
    let too : 1 ≤ second = also.0 in omega arith

pub sound_known : {size : ℕ} → (jobs : Jobs) → IsSound size jobs → IsEachAreaKnown jobs.slots
sound_known jobs s number job lives = s.orderly.areas (number - 1) job lives.1

-- nobody waits who is more urgent than the job that runs
best_unrivalled : (slots : List (Option Job)) → IsUnrivalled (record { slots = slots; running = best slots })
best_unrivalled slots number job is lives other rival awake =
    let most = best-most_urgent slots number is in
    let same : most.job ≡ job = same_Some most.job job (sym most.awake.0.1 ∙ lives.1) in
    let le : rival.priority ≤ most.job.priority = most.greatest other rival awake in
    subst (λ (x : Job). rival.priority ≤ x.priority) same le

idle_unrivalled : (slots : List (Option Job)) → IsUnrivalled (record { slots = slots; running = None })
idle_unrivalled slots number job is lives other rival awake = absurd (let no : None ≡ Some number = is in cc)

ended_unrivalled : (slots : List (Option Job)) (running : Option ℕ) → IsUnrivalled (end_of_job (record { slots = slots; running = running })).jobs
ended_unrivalled slots None = idle_unrivalled slots
ended_unrivalled slots (Some n) = best_unrivalled (with_job slots n None)

pub end_unrivalled : (jobs : Jobs) → IsUnrivalled (end_of_job jobs).jobs
end_unrivalled jobs = ended_unrivalled jobs.slots jobs.running

slept_unrivalled : (at : ℕ) (slots : List (Option Job)) (running : Option ℕ) → IsUnrivalled (sleep at (record { slots = slots; running = running })).jobs
slept_unrivalled at slots None = idle_unrivalled slots
slept_unrivalled at slots (Some n) = best_unrivalled (with_job slots n (option_map (sleeping_at at) (job_in slots n)))

pub sleep_unrivalled : (at : ℕ) (jobs : Jobs) → IsUnrivalled (sleep at jobs).jobs
sleep_unrivalled at jobs = slept_unrivalled at jobs.slots jobs.running

outrun_unrivalled : (slots : List (Option Job)) (n : ℕ) (o : Option Ready) → best_from 1 slots ≡ o → (at : Option Job) → job_in slots n ≡ at → (number : ℕ) (job : Job) → outrun_by o at n ≡ number → Lives slots number job → (other : ℕ) (rival : Job) → LivesAwake slots other rival → rival.priority ≤ job.priority
outrun_unrivalled slots n None is at here number job e lives other rival awake =
    let asleep : rival.asleep ≡ true = best-nobody slots (ap (option_map (λ r. r.number)) is) other rival awake.0 in
    let no : true ≡ false = sym asleep ∙ awake.1 in absurd (cc)
outrun_unrivalled slots n (Some r) is None here number job e lives other rival awake =
    let no : None ≡ Some job = sym here ∙ ap (job_in slots) e ∙ lives.1 in absurd (cc)
outrun_unrivalled slots n (Some r) is (Some runs) here number job e lives other rival awake =
    let most = best-most_urgent slots r.number (ap (option_map (λ x. x.number)) is) in
    let (best, ready, p) = ready_found slots r is in
    let le : rival.priority ≤ most.job.priority = most.greatest other rival awake in
    let one : most.job ≡ best = same_Some most.job best (sym most.awake.0.1 ∙ ready.0.1) in
    let top : most.job.priority ≡ r.priority = ap (λ x. x.priority) one ∙ p in
    elim (cases_Bool (nat_lt runs.priority r.priority)) [
      | inl less ↦
          let same : r.number ≡ number = rw less at e in
          let is_job : most.job ≡ job = same_Some most.job job (sym most.awake.0.1 ∙ ap (job_in slots) same ∙ lives.1) in
          subst (λ (x : Job). rival.priority ≤ x.priority) is_job le
      | inr more ↦
          let same : n ≡ number = rw more at e in
          let is_job : runs ≡ job = same_Some runs job (sym here ∙ ap (job_in slots) same ∙ lives.1) in
          let ge : r.priority ≤ runs.priority = grind (arith, common_steps) in
          let high : rival.priority ≤ runs.priority = omega arith in
          subst (λ (x : Job). rival.priority ≤ x.priority) is_job high
    ]

changed_unrivalled : (slots : List (Option Job)) (running : Option ℕ) → IsUnrivalled (change (record { slots = slots; running = running })).jobs
changed_unrivalled slots None = idle_unrivalled slots
changed_unrivalled slots (Some n) = λ number job is. outrun_unrivalled slots n (best_from 1 slots) refl (job_in slots n) refl number job (same_Some (outrun_by (best_from 1 slots) (job_in slots n) n) number is)

pub change_unrivalled : (jobs : Jobs) → IsUnrivalled (change jobs).jobs
change_unrivalled jobs = changed_unrivalled jobs.slots jobs.running

pub prio_unrivalled : (priority : ℕ) (jobs : Jobs) → IsUnrivalled (prio priority jobs).jobs
prio_unrivalled priority jobs = subst (λ (o : Outcome). IsUnrivalled o.jobs) (sym (prio_is priority jobs)) (change_unrivalled (with_running (with_priority priority) jobs))

-- who runs goes on where a job comes or wakes
established_running : (o : Option ℕ) (job : Job) (jobs : Jobs) (number : ℕ) → jobs.running ≡ Some number → (establish_at o job jobs).jobs.running ≡ Some number
established_running None job jobs number is = is
established_running (Some n) job jobs number is = rw is

pub novac_running : (priority : ℕ) (entry : Entry) (jobs : Jobs) (number : ℕ) → jobs.running ≡ Some number → (novac priority entry jobs).jobs.running ≡ Some number
novac_running priority entry jobs number = established_running (least_unused 1 jobs.slots) (new_job priority entry 0) jobs number

findvac_at_running : (o : Option ℕ) (priority : ℕ) (entry : Entry) (jobs : Jobs) (number : ℕ) → jobs.running ≡ Some number → (findvac_at o priority entry jobs).jobs.running ≡ Some number
findvac_at_running None priority entry jobs number is = is
findvac_at_running (Some area) priority entry jobs number is = established_running (least_unused 1 jobs.slots) (new_job priority entry area) jobs number is

pub findvac_running : (priority : ℕ) (entry : Entry) (jobs : Jobs) (number : ℕ) → jobs.running ≡ Some number → (findvac priority entry jobs).jobs.running ≡ Some number
findvac_running priority entry jobs number = findvac_at_running (least_unowned 5 1 jobs.slots) priority entry jobs number

pub rouse_running : (at : ℕ) (jobs : Jobs) (number : ℕ) → jobs.running ≡ Some number → (rouse at jobs).jobs.running ≡ Some number
rouse_running at jobs number is = elim (option_cases (sleeper_from 1 at jobs.slots)) [
  | inl found ↦ rw (found.1, is)
  | inr off ↦ rw off is
]
