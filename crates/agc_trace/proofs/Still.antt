-- A quiet request changes nothing but the time.
use Rattle.std.proofs.Common.{◌≡◌, ℕ, zero, suc, ◌+◌, ◌≤◌, ◌==◌, List, [], ◌∷◌, ◌++◌, map, Option, Some, None, length, refl, sym, ap, ◌∙◌, inl, inr, arith}
use Rattle.std.specs.Option.{option_map_or}
use Rattle.std.proofs.lemmas.Bool.{cases_Bool}
use Rattle.std.proofs.lemmas.Grind.{common_steps}
use Rattle.std.proofs.lemmas.List.{length-append}
use Rattle.std.proofs.lemmas.Option.{same_Some}
use Rattle.agc_plan.specs.declared.reply.Alarm.{Alarm}
use Rattle.agc_plan.specs.declared.reply.Reply.TheVariants as reply
use Rattle.agc_plan.specs.declared.request.Entry.{Entry}
use Rattle.agc_plan.specs.declared.request.Request.{Request}
use Rattle.agc_plan.specs.declared.request.Request.TheVariants as request
use Rattle.agc_plan.specs.declared.request.Task.{Task}
use Rattle.agc_plan.specs.declared.request.Action.{Action}
use Rattle.agc_plan.specs.Jobs.{Job, Jobs, Outcome, least_unused, least_unowned, new_job, establish_at, findvac_at, left_by, if_running, end_of_job, sleep, change, prio, store, sleeper_from, rouse, job_in, outrun_by, best_from, with_changed, with_priority, run_on}
use Rattle.agc_plan.specs.Tasks.{has_room, first_due, count_due}
use Rattle.agc_plan.specs.Places.{fronted, placed_end}
use Rattle.agc_plan.specs.Plans.{Planned, Rows, actions_in}
use Rattle.agc_plan.specs.Eras.{Work}
use Rattle.agc_plan.specs.Seats.{places_acted}
use Rattle.agc_plan.specs.Groups.{seated_through}
use Rattle.agc_plan.specs.Steps.{Plain, Did, Fires, with_listed, done, all_done, those_done, dispatched_work, later_work, unless_alarm, fire_first, fire, tick_fires, acted, fired_in}
use Rattle.agc_plan.proofs.Searches.{option_cases}
use Rattle.agc_run.specs.Scenes.{Scene, scene_of, seat_of}
use Rattle.agc_trace.specs.declared.brief.Quiet.{Quiet}
use Rattle.agc_trace.specs.declared.brief.Quiet.TheVariants.{Tick, NoSleeper, NoJob, Change, Prio}
use Rattle.agc_trace.specs.Brief.{has_priority, is_running, quiet_tick, quiet_reply, quiet_if_runs, quiet_run, time_of, later_by}
use Rattle.agc_trace.proofs.Runners.{if_true, same_priority, stays_runner}

-- no time at all
pub not_later : (plain : Plain) → later_by 0 plain ≡ plain
not_later plain =
    let same : plain.work.agenda.time + 0 ≡ plain.work.agenda.time = omega arith in
    ap (λ (n : ℕ). record plain { work = record plain.work { agenda = record plain.work.agenda { time = n } } }) same

-- nothing else changes, and where the running job had core set 0 each job keeps its own
pub record IsStill (plan : Planned) (asked : Request) (plain : Plain) (quiet : Quiet) : Type 0 where
  pub plain_is : (acted plan asked plain).plain ≡ later_by (time_of quiet) plain
  pub places_are : (places : List ℕ) → fronted plain.work.jobs.running places ≡ places → places_acted plan asked plain places ≡ places

-- a new job is loud
loud_new : (o : Option ℕ) (job : Job) (jobs : Jobs) (before : Scene) (asked : Request) (fired : List Task) (q : Quiet) → quiet_reply before asked (establish_at o job jobs).reply fired ≡ Some q → ⊥
loud_new None job jobs before asked fired q e = let no : None ≡ Some q = e in cc
loud_new (Some n) job jobs before asked fired q e = let no : None ≡ Some q = e in cc

loud_found : (o : Option ℕ) (priority : ℕ) (entry : Entry) (jobs : Jobs) (before : Scene) (asked : Request) (fired : List Task) (q : Quiet) → quiet_reply before asked (findvac_at o priority entry jobs).reply fired ≡ Some q → ⊥
loud_found None priority entry jobs before asked fired q e = let no : None ≡ Some q = e in cc
loud_found (Some area) priority entry jobs before asked fired q e = loud_new (least_unused 1 jobs.slots) (new_job priority entry area) jobs before asked fired q e

-- and so is a listing
loud_listed : (delay : ℕ) (task : Task) (work : Work) (before : Scene) (asked : Request) (fired : List Task) (q : Quiet) → quiet_reply before asked (with_listed delay task work).reply fired ≡ Some q → ⊥
loud_listed delay task work before asked fired q e = elim (cases_Bool (has_room work.agenda)) [
  | inl room ↦ let no : None ≡ Some q = rw room at e in cc
  | inr off ↦ let no : None ≡ Some q = rw off at e in cc
]

-- the jobs after a quiet outcome, and how it is quiet
record IsIdle (jobs : Jobs) (outcome : Outcome) (q : Quiet) : Type 0 where
  jobs_are : outcome.jobs ≡ jobs
  no_time : time_of q ≡ 0

idle_running : (act : ℕ → Outcome) (jobs : Jobs) (before : Scene) (asked : Request) (fired : List Task) (q : Quiet) → ((n : ℕ) → quiet_reply before asked (act n).reply fired ≡ None) → (o : Option ℕ) → jobs.running ≡ o → quiet_reply before asked (if_running act jobs).reply fired ≡ Some q → IsIdle jobs (if_running act jobs) q × (jobs.running ≡ None)
idle_running act jobs before asked fired q loud None is e =
    let same : NoJob ≡ q = same_Some NoJob q (rw is at e) in
    (record { jobs_are = rw is refl; no_time = ap time_of (sym same) }, is)
idle_running act jobs before asked fired q loud (Some n) is e = absurd (let no : None ≡ Some q = sym (loud n) ∙ (rw is at e) in cc)

-- what is done where a job runs
done_is : (act : ℕ → Outcome) (jobs : Jobs) (n : ℕ) → jobs.running ≡ Some n → if_running act jobs ≡ act n
done_is act jobs n is = ap (λ (o : Option ℕ). option_map_or act o (record { jobs = jobs; reply = reply.NoJob })) is

-- a change of job, or of priority, after which the job runs that ran
idle_change : (jobs : Jobs) (before : Scene) (fired : List Task) (q : Quiet) → before.running ≡ jobs.running → (o : Option ℕ) → jobs.running ≡ o → quiet_reply before request.Change (change jobs).reply fired ≡ Some q → IsIdle jobs (change jobs) q
idle_change jobs before fired q same None is e =
    let quiet : NoJob ≡ q = same_Some NoJob q (rw is at e) in
    record { jobs_are = rw is refl; no_time = ap time_of (sym quiet) }
idle_change jobs before fired q same (Some n) is e =
    let now = outrun_by (best_from 1 jobs.slots) (job_in jobs.slots n) n in
    let here : quiet_run before request.Change now ≡ Some q = rw is at e in
    let (runs, quiet) = if_true (is_running before now) (Some Change) q here in
    record {
      jobs_are = ap (λ (o : Outcome). o.jobs) (done_is (λ k. run_on k jobs.slots) jobs n is) ∙ stays_runner jobs before n now (same ∙ is) is runs;
      no_time = ap time_of (sym (same_Some Change q quiet));
    }

idle_prio : (priority : ℕ) (jobs : Jobs) (places : List ℕ) (before : Scene) (fired : List Task) (q : Quiet) → before.running ≡ jobs.running → before.seats ≡ map (seat_of jobs) places → (o : Option ℕ) → jobs.running ≡ o → quiet_reply before (request.Prio priority) (prio priority jobs).reply fired ≡ Some q → IsIdle jobs (prio priority jobs) q
idle_prio priority jobs places before fired q same seats None is e =
    let quiet : NoJob ≡ q = same_Some NoJob q (rw is at e) in
    record { jobs_are = rw is refl; no_time = ap time_of (sym quiet) }
idle_prio priority jobs places before fired q same seats (Some n) is e =
    let changed = with_changed (with_priority priority) jobs.slots n in
    let now = outrun_by (best_from 1 changed) (job_in changed n) n in
    let here : quiet_run before (request.Prio priority) now ≡ Some q = rw is at e in
    let (runs, more) = if_true (is_running before now) (quiet_if_runs before (request.Prio priority) now) q here in
    let (has, quiet) = if_true (has_priority before.seats now priority) (Some Prio) q more in
    let kept : changed ≡ jobs.slots = same_priority jobs places before n now priority (same ∙ is) seats runs has in
    record {
      jobs_are = ap (λ (o : Outcome). o.jobs) (done_is (λ k. run_on k (with_changed (with_priority priority) jobs.slots k)) jobs n is)
          ∙ ap (λ (s : List (Option Job)). record { slots = s; running = Some now }) kept ∙ stays_runner jobs before n now (same ∙ is) is runs;
      no_time = ap time_of (sym (same_Some Prio q quiet));
    }

idle_rouse : (at : ℕ) (jobs : Jobs) (before : Scene) (asked : Request) (fired : List Task) (q : Quiet) → quiet_reply before asked (rouse at jobs).reply fired ≡ Some q → IsIdle jobs (rouse at jobs) q
idle_rouse at jobs before asked fired q e = elim (option_cases (sleeper_from 1 at jobs.slots)) [
  | inl found ↦ absurd (let no : None ≡ Some q = rw found.1 at e in cc)
  | inr off ↦
      let same : NoSleeper ≡ q = same_Some NoSleeper q (rw off at e) in
      record { jobs_are = rw off refl; no_time = ap time_of (sym same) }
]

-- so the state stays
stays : (plain : Plain) (outcome : Outcome) (q : Quiet) → IsIdle plain.work.jobs outcome q → record plain { work = record plain.work { jobs = outcome.jobs } } ≡ later_by (time_of q) plain
stays plain outcome q idle =
    ap (λ (j : Jobs). record plain { work = record plain.work { jobs = j } }) idle.jobs_are
    ∙ sym (not_later plain) ∙ ap (λ (n : ℕ). later_by n plain) (sym idle.no_time)

front_stays : (jobs : Jobs) (outcome : Outcome) (q : Quiet) (places : List ℕ) → IsIdle jobs outcome q → fronted jobs.running places ≡ places → fronted outcome.jobs.running places ≡ places
front_stays jobs outcome q places idle front = ap (λ (j : Jobs). fronted j.running places) idle.jobs_are ∙ front

-- what fired before a task fires is still there
longer_by : (o : Option Alarm) (work : Work) (fired : List Task) (acts : List (List Action)) (again : Work → List Task → List (List Action) → Fires) → ((w : Work) (f : List Task) (a : List (List Action)) → length f ≤ length (again w f a).fired) → length fired ≤ length (unless_alarm o work fired acts again).fired
longer_by None work fired acts again more = more work fired acts
longer_by (Some alarm) work fired acts again more = omega arith

longer_first : (o : Option Task) (rows : Rows) (work : Work) (fired : List Task) (acts : List (List Action)) (again : Work → List Task → List (List Action) → Fires) → ((w : Work) (f : List Task) (a : List (List Action)) → length f ≤ length (again w f a).fired) → length fired ≤ length (fire_first o rows work fired acts again).fired
longer_first None rows work fired acts again more = omega arith
longer_first (Some task) rows work fired acts again more =
    let its : List Action = actions_in rows task in
    let here : Work = dispatched_work work in
    let did : Did = all_done its here in
    let rest = longer_by did.alarm did.work (fired ++ task ∷ []) (acts ++ those_done its here ∷ []) again more in
    let both : length (fired ++ task ∷ []) ≡ length fired + 1 = length-append fired (task ∷ []) in
    omega (arith, rest, both)

longer : (more : ℕ) (rows : Rows) (work : Work) (fired : List Task) (acts : List (List Action)) → length fired ≤ length (fire more rows work fired acts).fired
longer zero rows work fired acts = omega arith
longer (suc more) rows work fired acts = longer_first (first_due work.agenda.time work.agenda.tasks) rows work fired acts (fire more rows) (longer more rows)

-- where no task fired nothing was done
record IsNothing (work : Work) (acts : List (List Action)) (fires : Fires) : Type 0 where
  work_is : fires.work ≡ work
  acts_are : fires.acts ≡ acts

nothing_first : (o : Option Task) (rows : Rows) (work : Work) (fired : List Task) (acts : List (List Action)) (again : Work → List Task → List (List Action) → Fires) → ((w : Work) (f : List Task) (a : List (List Action)) → length f ≤ length (again w f a).fired) → length (fire_first o rows work fired acts again).fired ≡ length fired → IsNothing work acts (fire_first o rows work fired acts again)
nothing_first None rows work fired acts again more e = record { work_is = refl; acts_are = refl }
nothing_first (Some task) rows work fired acts again more e =
    let its : List Action = actions_in rows task in
    let here : Work = dispatched_work work in
    let did : Did = all_done its here in
    let rest = longer_by did.alarm did.work (fired ++ task ∷ []) (acts ++ those_done its here ∷ []) again more in
    let both : length (fired ++ task ∷ []) ≡ length fired + 1 = length-append fired (task ∷ []) in
    absurd (omega (arith, rest, both, e))

nothing : (more : ℕ) (rows : Rows) (work : Work) (fired : List Task) (acts : List (List Action)) → length (fire more rows work fired acts).fired ≡ length fired → IsNothing work acts (fire more rows work fired acts)
nothing zero rows work fired acts e = record { work_is = refl; acts_are = refl }
nothing (suc more) rows work fired acts e = nothing_first (first_due work.agenda.time work.agenda.tasks) rows work fired acts (fire more rows) (longer more rows) e

-- a tick that is quiet fired nothing
quiet_fired : (o : Option Alarm) (fired : List Task) (q : Quiet) → quiet_tick o fired ≡ Some q → (length fired ≡ 0) × (Tick ≡ q)
quiet_fired (Some alarm) fired q e = absurd (let no : None ≡ Some q = e in cc)
quiet_fired None fired q e = elim (cases_Bool (length fired == 0)) [
  | inl empty ↦ (grind (arith, common_steps), same_Some Tick q (rw empty at e))
  | inr off ↦ absurd (let no : None ≡ Some q = rw off at e in cc)
]

tick_still : (plan : Planned) (plain : Plain) (before : Scene) (q : Quiet) → quiet_reply before request.Tick (acted plan request.Tick plain).reply (fired_in plan request.Tick plain) ≡ Some q → IsStill plan request.Tick plain q
tick_still plan plain before q e =
    let fires : Fires = tick_fires plan.rows plain.work in
    let here : Work = later_work plain.work in
    let (empty, same) = quiet_fired fires.alarm fires.fired q e in
    let none = nothing (count_due here.agenda.time here.agenda.tasks) plan.rows here [] [] empty in
    record {
      plain_is = ap (λ (w : Work). record plain { work = w }) none.work_is ∙ ap (λ (r : Quiet). later_by (time_of r) plain) same;
      places_are = λ places front. ap (λ (a : List (List Action)). (seated_through a (record { jobs = plain.work.jobs; places = places })).places) none.acts_are;
    }

pub still : (plan : Planned) (asked : Request) (plain : Plain) (seats : List ℕ) (q : Quiet) → quiet_reply (scene_of plain seats) asked (acted plan asked plain).reply (fired_in plan asked plain) ≡ Some q → IsStill plan asked plain q
still plan (request.Novac priority entry) plain seats q e = absurd (loud_new (least_unused 1 plain.work.jobs.slots) (new_job priority entry 0) plain.work.jobs (scene_of plain seats) (request.Novac priority entry) [] q e)
still plan (request.Findvac priority entry) plain seats q e = absurd (loud_found (least_unowned 5 1 plain.work.jobs.slots) priority entry plain.work.jobs (scene_of plain seats) (request.Findvac priority entry) [] q e)
still plan request.EndOfJob plain seats q e =
    let (idle, nobody) = idle_running (λ n. left_by n None plain.work.jobs) plain.work.jobs (scene_of plain seats) request.EndOfJob [] q (λ n. refl) plain.work.jobs.running refl e in
    record {
      plain_is = stays plain (end_of_job plain.work.jobs) q idle;
      places_are = λ places front. ap (λ (r : Option ℕ). placed_end r (end_of_job plain.work.jobs).jobs.running places) nobody;
    }
still plan (request.Sleep at) plain seats q e =
    let idle = (idle_running _ plain.work.jobs (scene_of plain seats) (request.Sleep at) [] q (λ n. refl) plain.work.jobs.running refl e).0 in
    record {
      plain_is = stays plain (sleep at plain.work.jobs) q idle;
      places_are = λ places front. front_stays plain.work.jobs (sleep at plain.work.jobs) q places idle front;
    }
still plan (request.Rouse at) plain seats q e =
    let idle = idle_rouse at plain.work.jobs (scene_of plain seats) (request.Rouse at) [] q e in
    record {
      plain_is = stays plain (rouse at plain.work.jobs) q idle;
      places_are = λ places front. front_stays plain.work.jobs (rouse at plain.work.jobs) q places idle front;
    }
still plan (request.Prio priority) plain seats q e =
    let idle = idle_prio priority plain.work.jobs seats (scene_of plain seats) [] q refl refl plain.work.jobs.running refl e in
    record {
      plain_is = stays plain (prio priority plain.work.jobs) q idle;
      places_are = λ places front. front_stays plain.work.jobs (prio priority plain.work.jobs) q places idle front;
    }
still plan request.Change plain seats q e =
    let idle = idle_change plain.work.jobs (scene_of plain seats) [] q refl plain.work.jobs.running refl e in
    record {
      plain_is = stays plain (change plain.work.jobs) q idle;
      places_are = λ places front. front_stays plain.work.jobs (change plain.work.jobs) q places idle front;
    }
still plan (request.Store place word) plain seats q e =
    let idle = (idle_running _ plain.work.jobs (scene_of plain seats) (request.Store place word) [] q (λ n. refl) plain.work.jobs.running refl e).0 in
    record {
      plain_is = stays plain (store place word plain.work.jobs) q idle;
      places_are = λ places front. refl;
    }
still plan (request.List delay task) plain seats q e = absurd (loud_listed delay task plain.work (scene_of plain seats) (request.List delay task) [] q e)
still plan request.Tick plain seats q e = tick_still plan plain (scene_of plain seats) q e
still plan (request.SetPhase group phase) plain seats q e = absurd (let no : None ≡ Some q = e in cc)
still plan request.Restart plain seats q e = absurd (let no : None ≡ Some q = e in cc)
still plan request.Fresh plain seats q e = absurd (let no : None ≡ Some q = e in cc)
