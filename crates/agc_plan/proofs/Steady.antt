-- What stays true of jobs and tasks, over every run of requests.
use Rattle.std.proofs.Common.{◌≡◌, ℕ, zero, suc, ◌+◌, ◌<◌, ◌≤◌, List, [], ◌∷◌, ◌++◌, Option, Some, None, length, ◌↔◌, sym, subst, inl, inr, nat_le, arith}
use Rattle.std.proofs.lemmas.Bool.{cases_Bool}
use Rattle.std.proofs.lemmas.List.{length-append}
use Rattle.std.proofs.lemmas.Grind.{common_steps}
use Rattle.std.specs.List.{fold}
use Rattle.std.specs.Prelude.{IsSome}
use Rattle.std.specs.Option.{is_some}
use Rattle.agc_plan.specs.declared.reply.Alarm.{Alarm}
use Rattle.agc_plan.specs.declared.request.Action.{Action}
use Rattle.agc_plan.specs.declared.request.Action.TheVariants as action
use Rattle.agc_plan.specs.declared.request.JobStart.{JobStart}
use Rattle.agc_plan.specs.declared.request.JobStart.TheVariants.{Novac, Findvac}
use Rattle.agc_plan.specs.declared.request.Request.{Request}
use Rattle.agc_plan.specs.declared.request.Request.TheVariants as request
use Rattle.agc_plan.specs.declared.request.Task.{Task}
use Rattle.agc_plan.specs.Jobs.{Job, Jobs}
use Rattle.agc_plan.specs.Tasks.{Agenda, Pending, has_room, listed_if_room, without_first_due, first_due, count_due}
use Rattle.agc_plan.specs.Base.{Base}
use Rattle.agc_plan.specs.Begins.{Begins}
use Rattle.agc_plan.specs.Plans.{Planned, Rows, actions_in}
use Rattle.agc_plan.specs.Eras.{Work, no_work, active}
use Rattle.agc_plan.specs.Groups.{jobs_begun, agenda_begun, group_begun, begun_from}
use Rattle.agc_plan.proofs.Groups.{begun_is}
use Rattle.agc_plan.specs.Steps.{Plain, Did, Fires, Stepped, era, done, all_done, those_done, dispatched_work, unless_alarm, fire_first, fire, later_work, acted, begins, base_after, ended, step, reached}
use Rattle.agc_plan.specs.Groups.{and_then}
use Rattle.agc_plan.specs.Laws.{SomebodyIsAwake, IsRunnerAwake, IsNoAreaShared, IsEachAreaKnown, IsUnrivalled}
use Rattle.agc_plan.proofs.Sound.{IsSound, no_jobs_sound, novac_sound, findvac_sound, end_of_job_sound, sleep_sound, change_sound, prio_sound, store_sound, rouse_sound, sound_runner, sound_somebody, sound_areas, sound_known, end_unrivalled, sleep_unrivalled, prio_unrivalled, change_unrivalled}

-- sound jobs, and at most nine tasks
pub record IsSteady (n : ℕ) (work : Work) : Type 0 where
  pub jobs : IsSound n work.jobs
  pub tasks : length work.agenda.tasks ≤ 9

listed_few : (delay : ℕ) (task : Task) (agenda : Agenda) → length agenda.tasks ≤ 9 → length (listed_if_room delay task agenda).tasks ≤ 9
listed_few delay task agenda le = elim (cases_Bool (has_room agenda)) [
  | inl room ↦ let lt : length agenda.tasks < 9 = grind (arith, common_steps) in rw (room, length-append) (omega arith)
  | inr off ↦ rw off le
]

fewer_left : (time : ℕ) (tasks : List Pending) → length (without_first_due time tasks) ≤ length tasks
fewer_left time [] = omega arith
fewer_left time (x ∷ xs) = elim (cases_Bool (nat_le x.due time)) [
  | inl due ↦ rw due (omega arith)
  | inr off ↦ let le : length (without_first_due time xs) ≤ length xs = fewer_left time xs in rw off (omega arith)
]

pub dispatched_steady : {size : ℕ} → (work : Work) → IsSteady size work → IsSteady size (dispatched_work work)
dispatched_steady work s = record { jobs = s.jobs; tasks = let le = fewer_left work.agenda.time work.agenda.tasks in let few : length work.agenda.tasks ≤ 9 = s.tasks in omega arith }

pub done_steady : {size : ℕ} → (a : Action) (work : Work) → IsSteady size work → IsSteady size (done a work).work
done_steady action.Nothing work s = s
done_steady (action.Novac priority entry) work s = record { jobs = novac_sound priority entry work.jobs s.jobs; tasks = s.tasks }
done_steady (action.Findvac priority entry) work s = record { jobs = findvac_sound priority entry work.jobs s.jobs; tasks = s.tasks }
done_steady (action.Rouse at) work s = record { jobs = rouse_sound at work.jobs s.jobs; tasks = s.tasks }
done_steady (action.List delay task) work s = record { jobs = s.jobs; tasks = listed_few delay task work.agenda s.tasks }

then_steady : {size : ℕ} → (did : Did) (next : Work → Did) → ((w : Work) → IsSteady size w → IsSteady size (next w).work) → IsSteady size did.work → IsSteady size (and_then did next).work
then_steady did next on s = elim (cases_Bool (is_some did.alarm)) [
  | inl over ↦ rw over s
  | inr off ↦ rw off (on did.work s)
]

pub all_steady : {size : ℕ} → (acts : List Action) (work : Work) → IsSteady size work → IsSteady size (all_done acts work).work
all_steady [] work s = s
all_steady (act ∷ acts) work s = then_steady (done act work) (all_done acts) (λ w t. all_steady acts w t) (done_steady act work s)

-- it goes on only without an alarm
unless_steady : {size : ℕ} → (alarm : Option Alarm) (work : Work) (fired : List Task) (acts : List (List Action)) (again : Work → List Task → List (List Action) → Fires) → ((w : Work) (f : List Task) (a : List (List Action)) → IsSteady size w → IsSteady size (again w f a).work) → IsSteady size work → IsSteady size (unless_alarm alarm work fired acts again).work
unless_steady None work fired acts again on s = on work fired acts s
unless_steady (Some alarm) work fired acts again on s = s

first_steady : {size : ℕ} → (o : Option Task) (rows : Rows) (work : Work) (fired : List Task) (acts : List (List Action)) (again : Work → List Task → List (List Action) → Fires) → ((w : Work) (f : List Task) (a : List (List Action)) → IsSteady size w → IsSteady size (again w f a).work) → IsSteady size work → IsSteady size (fire_first o rows work fired acts again).work
first_steady None rows work fired acts again on s = s
first_steady (Some task) rows work fired acts again on s =
    let its = actions_in rows task in
    let here = dispatched_work work in
    unless_steady (all_done its here).alarm (all_done its here).work (fired ++ task ∷ []) (acts ++ those_done its here ∷ []) again on (all_steady its here (dispatched_steady work s))

fire_steady : {size : ℕ} → (more : ℕ) (rows : Rows) (work : Work) (fired : List Task) (acts : List (List Action)) → IsSteady size work → IsSteady size (fire more rows work fired acts).work
fire_steady zero rows work fired acts s = s
fire_steady (suc more) rows work fired acts s = first_steady (first_due work.agenda.time work.agenda.tasks) rows work fired acts (fire more rows) (fire_steady more rows) s

pub later_steady : {size : ℕ} → (work : Work) → IsSteady size work → IsSteady size (later_work work)
later_steady work s = record { jobs = s.jobs; tasks = s.tasks }

acted_steady : {size : ℕ} → (plan : Planned) (asked : Request) (plain : Plain) → IsSteady size plain.work → IsSteady size (acted plan asked plain).plain.work
acted_steady plan (request.Novac priority entry) plain s = record { jobs = novac_sound priority entry plain.work.jobs s.jobs; tasks = s.tasks }
acted_steady plan (request.Findvac priority entry) plain s = record { jobs = findvac_sound priority entry plain.work.jobs s.jobs; tasks = s.tasks }
acted_steady plan request.EndOfJob plain s = record { jobs = end_of_job_sound plain.work.jobs s.jobs; tasks = s.tasks }
acted_steady plan (request.Sleep at) plain s = record { jobs = sleep_sound at plain.work.jobs s.jobs; tasks = s.tasks }
acted_steady plan (request.Rouse at) plain s = record { jobs = rouse_sound at plain.work.jobs s.jobs; tasks = s.tasks }
acted_steady plan (request.Prio priority) plain s = record { jobs = prio_sound priority plain.work.jobs s.jobs; tasks = s.tasks }
acted_steady plan request.Change plain s = record { jobs = change_sound plain.work.jobs s.jobs; tasks = s.tasks }
acted_steady plan (request.Store place word) plain s = record { jobs = store_sound place word plain.work.jobs s.jobs; tasks = s.tasks }
acted_steady plan (request.List delay task) plain s = record { jobs = s.jobs; tasks = listed_few delay task plain.work.agenda s.tasks }
acted_steady plan request.Tick plain s = fire_steady (count_due (later_work plain.work).agenda.time (later_work plain.work).agenda.tasks) plan.rows (later_work plain.work) [] [] (later_steady plain.work s)
acted_steady plan (request.SetPhase group phase) plain s = s
acted_steady plan request.Restart plain s = s
acted_steady plan request.Fresh plain s = s

-- an era begins
jobs_begun_sound : {size : ℕ} → (job : Option JobStart) (jobs : Jobs) → IsSound size jobs → IsSound size (jobs_begun job jobs)
jobs_begun_sound None jobs s = s
jobs_begun_sound (Some (Novac priority entry)) jobs s = novac_sound priority entry jobs s
jobs_begun_sound (Some (Findvac priority entry)) jobs s = findvac_sound priority entry jobs s

agenda_begun_few : (task : Option (ℕ × Task)) (agenda : Agenda) → length agenda.tasks ≤ 9 → length (agenda_begun task agenda).tasks ≤ 9
agenda_begun_few None agenda le = le
agenda_begun_few (Some listing) agenda le = listed_few listing.0 listing.1 agenda le

group_steady : {size : ℕ} → (o : Option Begins) (work : Work) → IsSteady size work → IsSteady size (group_begun o work)
group_steady None work s = s
group_steady (Some e) work s = record { jobs = jobs_begun_sound e.job work.jobs s.jobs; tasks = agenda_begun_few e.task work.agenda s.tasks }

begun_steady : {size : ℕ} → (entries : List Begins) (group : ℕ) (phases : List ℕ) (work : Work) → IsSteady size work → IsSteady size (begun_from entries group phases work)
begun_steady entries group [] work s = s
begun_steady entries group (phase ∷ phases) work s = begun_steady entries (group + 1) phases (group_begun (active entries group phase) work) (group_steady (active entries group phase) work s)

era_steady : (plan : Planned) (base : Base) → IsSteady plan.sets (era plan base).work
era_steady plan base = subst (IsSteady plan.sets) (sym (begun_is plan base.phases)) (begun_steady plan.entries 1 base.phases (no_work plan.sets) (record { jobs = no_jobs_sound plan.sets; tasks = omega arith }))

ended_steady : (plan : Planned) (did : Stepped) → IsSteady plan.sets did.plain.work → IsSteady plan.sets (ended plan did).work
ended_steady plan did s = elim (cases_Bool (begins did.reply)) [
  | inl over ↦ rw over (era_steady plan (base_after did.reply did.plain.base))
  | inr on ↦ rw on s
]

step_steady : (plan : Planned) (asked : Request) (plain : Plain) → IsSteady plan.sets plain.work → IsSteady plan.sets (step plan asked plain).plain.work
step_steady plan asked plain s = ended_steady plan (acted plan asked plain) (acted_steady plan asked plain s)

steps_steady : (plan : Planned) (log : List Request) (plain : Plain) → IsSteady plan.sets plain.work → IsSteady plan.sets (fold (λ p asked. (step plan asked p).plain) plain log).work
steps_steady plan [] plain s = s
steps_steady plan (asked ∷ log) plain s = steps_steady plan log (step plan asked plain).plain (step_steady plan asked plain s)

pub reached_steady : (plan : Planned) (base : Base) (log : List Request) → IsSteady plan.sets (reached plan base log).work
reached_steady plan base log = steps_steady plan log (era plan base) (era_steady plan base)

pub reached_somebody : (plan : Planned) (base : Base) (log : List Request) → IsSome (reached plan base log).work.jobs.running ↔ SomebodyIsAwake (reached plan base log).work.jobs.slots
reached_somebody plan base log = sound_somebody (reached plan base log).work.jobs (reached_steady plan base log).jobs

pub reached_runner : (plan : Planned) (base : Base) (log : List Request) → IsRunnerAwake (reached plan base log).work.jobs
reached_runner plan base log = sound_runner (reached plan base log).work.jobs (reached_steady plan base log).jobs

pub reached_sets : (plan : Planned) (base : Base) (log : List Request) → length (reached plan base log).work.jobs.slots ≡ plan.sets
reached_sets plan base log = (reached_steady plan base log).jobs.orderly.size

pub reached_known : (plan : Planned) (base : Base) (log : List Request) → IsEachAreaKnown (reached plan base log).work.jobs.slots
reached_known plan base log = sound_known (reached plan base log).work.jobs (reached_steady plan base log).jobs

pub reached_areas : (plan : Planned) (base : Base) (log : List Request) → IsNoAreaShared (reached plan base log).work.jobs.slots
reached_areas plan base log = sound_areas (reached plan base log).work.jobs (reached_steady plan base log).jobs

pub reached_nine : (plan : Planned) (base : Base) (log : List Request) → length (reached plan base log).work.agenda.tasks ≤ 9
reached_nine plan base log = (reached_steady plan base log).tasks

-- after these requests nobody waits who is more urgent; none of them begins an era
abbrev plain_of : List (Option Job) → Option ℕ → Agenda → Base → Plain
plain_of slots running agenda base = record { work = record { jobs = record { slots = slots; running = running }; agenda = agenda }; base = base }

ended_step : (plan : Planned) (slots : List (Option Job)) (running : Option ℕ) (agenda : Agenda) (base : Base) → IsUnrivalled (step plan request.EndOfJob (plain_of slots running agenda base)).plain.work.jobs
ended_step plan slots None agenda base = end_unrivalled (record { slots = slots; running = None })
ended_step plan slots (Some n) agenda base = end_unrivalled (record { slots = slots; running = Some n })

slept_step : (plan : Planned) (at : ℕ) (slots : List (Option Job)) (running : Option ℕ) (agenda : Agenda) (base : Base) → IsUnrivalled (step plan (request.Sleep at) (plain_of slots running agenda base)).plain.work.jobs
slept_step plan at slots None agenda base = sleep_unrivalled at (record { slots = slots; running = None })
slept_step plan at slots (Some n) agenda base = sleep_unrivalled at (record { slots = slots; running = Some n })

prio_step : (plan : Planned) (priority : ℕ) (slots : List (Option Job)) (running : Option ℕ) (agenda : Agenda) (base : Base) → IsUnrivalled (step plan (request.Prio priority) (plain_of slots running agenda base)).plain.work.jobs
prio_step plan priority slots None agenda base = prio_unrivalled priority (record { slots = slots; running = None })
prio_step plan priority slots (Some n) agenda base = prio_unrivalled priority (record { slots = slots; running = Some n })

changed_step : (plan : Planned) (slots : List (Option Job)) (running : Option ℕ) (agenda : Agenda) (base : Base) → IsUnrivalled (step plan request.Change (plain_of slots running agenda base)).plain.work.jobs
changed_step plan slots None agenda base = change_unrivalled (record { slots = slots; running = None })
changed_step plan slots (Some n) agenda base = change_unrivalled (record { slots = slots; running = Some n })

pub step_ended : (plan : Planned) (plain : Plain) → IsUnrivalled (step plan request.EndOfJob plain).plain.work.jobs
step_ended plan plain = ended_step plan plain.work.jobs.slots plain.work.jobs.running plain.work.agenda plain.base

pub step_slept : (plan : Planned) (at : ℕ) (plain : Plain) → IsUnrivalled (step plan (request.Sleep at) plain).plain.work.jobs
step_slept plan at plain = slept_step plan at plain.work.jobs.slots plain.work.jobs.running plain.work.agenda plain.base

pub step_prio : (plan : Planned) (priority : ℕ) (plain : Plain) → IsUnrivalled (step plan (request.Prio priority) plain).plain.work.jobs
step_prio plan priority plain = prio_step plan priority plain.work.jobs.slots plain.work.jobs.running plain.work.agenda plain.base

pub step_changed : (plan : Planned) (plain : Plain) → IsUnrivalled (step plan request.Change plain).plain.work.jobs
step_changed plan plain = changed_step plan plain.work.jobs.slots plain.work.jobs.running plain.work.agenda plain.base
