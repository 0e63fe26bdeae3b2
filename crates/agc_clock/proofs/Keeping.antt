-- Who is awake before and after a request stands at the same address.
use Rattle.std.proofs.Common.{◌≡◌, ℕ, zero, suc, ◌-◌, ◌<◌, Bool, true, false, cond, List, [], ◌∷◌, ◌++◌, length, Option, Some, None, option_map, is_some, slice_index_or, slice_set, get_or-set_same, get_or-set_other, refl, sym, ap, subst, ◌∙◌, inl, inr, arith}
use Rattle.std.proofs.lemmas.Bool.{cases_eq, cases_Bool}
use Rattle.std.proofs.lemmas.List.Sums.{fold_push}
use Rattle.std.proofs.lemmas.Option.{same_Some}
use Rattle.agc_plan.specs.declared.reply.Alarm.{Alarm}
use Rattle.agc_plan.specs.declared.reply.Reply.TheVariants.{Stored}
use Rattle.agc_plan.specs.declared.request.Action.{Action}
use Rattle.agc_plan.specs.declared.request.Action.TheVariants as action
use Rattle.agc_plan.specs.declared.request.Entry.{Entry}
use Rattle.agc_plan.specs.declared.request.Request.{Request}
use Rattle.agc_plan.specs.declared.request.Request.TheVariants as request
use Rattle.agc_plan.specs.declared.request.Task.{Task}
use Rattle.agc_plan.specs.Eras.{Work}
use Rattle.agc_plan.specs.Jobs.{Job, Jobs, Outcome, establish_at, if_running, left_by, run_on, findvac_at, job_in, least_unused, least_unowned, new_job, novac, rouse, sleeper_from, sleeping_at, with_changed, with_priority, with_word, woken}
use Rattle.agc_plan.specs.Laws.{IsLeastUnused}
use Rattle.agc_plan.specs.Plans.{Planned, Rows, actions_in}
use Rattle.agc_plan.specs.Steps.{Did, Fires, Plain, acted, base_after, era, ticked, all_done, begins, dispatched_work, done, fire, fire_first, later_work, reached, step, those_done, unless_alarm}
use Rattle.agc_plan.specs.Groups.{and_then}
use Rattle.agc_plan.specs.Tasks.{count_due, first_due}
use Rattle.agc_plan.proofs.Searches.{least_unused-least, option_cases}
use Rattle.agc_machine.specs.Machines.{Machined, after, answer_of, plain_of, refusal_of, result_of, served, stepped}
use Rattle.agc_machine.specs.declared.answer.Refusal.{Refusal}
use Rattle.agc_clock.specs.Runs.{begins_with}

-- where a job stands that is awake
abbrev pub stand_of : Option Job → Option ℕ
stand_of None = None
stand_of (Some job) = cond job.asleep None (Some job.at)

abbrev pub stands : List (Option Job) → ℕ → Option ℕ
stands slots k = stand_of (slice_index_or slots k None)

-- who is awake stays so, and where it stands
abbrev Stay : List (Option Job) → List (Option Job) → Type 0
Stay old new = (k at : ℕ) → stands old k ≡ Some at → stands new k ≡ Some at

-- who is awake before and after stands where it stood
abbrev pub Keep : List (Option Job) → List (Option Job) → Type 0
Keep old new = (k at then : ℕ) → stands old k ≡ Some at → stands new k ≡ Some then → then ≡ at

same_stay : (slots : List (Option Job)) → Stay slots slots
same_stay slots k at is = is

stay_keeps : (old new : List (Option Job)) → Stay old new → Keep old new
stay_keeps old new stay k at then was is = same_Some then at (sym is ∙ stay k at was)

on_with : (old mid new : List (Option Job)) → Stay old mid → Stay mid new → Stay old new
on_with old mid new first second k at is = second k at (first k at is)

stands_within : (slots : List (Option Job)) (k at : ℕ) → stands slots k ≡ Some at → k < length slots
stands_within [] k at is = absurd (cc)
stands_within (x ∷ slots) zero at is = omega arith
stands_within (x ∷ slots) (suc k) at is = let lt = stands_within slots k at is in omega arith

-- one slot is set
set_stays : (slots : List (Option Job)) (n : ℕ) (o : Option Job) → ((at : ℕ) → stands slots n ≡ Some at → stand_of o ≡ Some at) → Stay slots (slice_set slots n o)
set_stays slots n o fits k at is = elim (cases_eq k n) [
  | inl same ↦
      let here : stands slots n ≡ Some at = ap (stands slots) (sym same) ∙ is in
      let within : n < length slots = stands_within slots n at here in
      ap (stands (slice_set slots n o)) same ∙ ap stand_of (get_or-set_same slots n o None within) ∙ fits at here
  | inr ne ↦ ap stand_of (get_or-set_other slots n k o None ne) ∙ is
]

set_keeps : (slots : List (Option Job)) (n : ℕ) (o : Option Job) → stand_of o ≡ None → Keep slots (slice_set slots n o)
set_keeps slots n o none k at then was is = elim (cases_eq k n) [
  | inl same ↦
      let here : stands slots n ≡ Some at = ap (stands slots) (sym same) ∙ was in
      let within : n < length slots = stands_within slots n at here in
      let no : None ≡ Some then = sym none ∙ sym (ap stand_of (get_or-set_same slots n o None within)) ∙ ap (stands (slice_set slots n o)) (sym same) ∙ is in
      absurd (cc)
  | inr ne ↦ same_Some then at (sym is ∙ ap stand_of (get_or-set_other slots n k o None ne) ∙ was)
]

-- a job is changed into one that is as awake, and stands there
changed_stays : (slots : List (Option Job)) (number : ℕ) (made : Job → Job) → ((job : Job) (at : ℕ) → stand_of (Some job) ≡ Some at → stand_of (Some (made job)) ≡ Some at) → Stay slots (with_changed made slots number)
changed_stays slots number made fits = set_stays slots (number - 1) (option_map made (job_in slots number)) (each (job_in slots number)) where
  each : (o : Option Job) (at : ℕ) → stand_of o ≡ Some at → stand_of (option_map made o) ≡ Some at
  each None at is = absurd (cc)
  each (Some job) at is = fits job at is

established_stays : (o : Option ℕ) (job : Job) (jobs : Jobs) → ((n : ℕ) → o ≡ Some n → IsLeastUnused jobs.slots n) → Stay jobs.slots (establish_at o job jobs).jobs.slots
established_stays None job jobs least = same_stay jobs.slots
established_stays (Some n) job jobs least =
    let free : slice_index_or jobs.slots (n - 1) None ≡ None = (least n refl).unused in
    set_stays jobs.slots (n - 1) (Some job) (λ at is. absurd (let no : None ≡ Some at = sym (ap stand_of free) ∙ is in cc))

novac_stays : (priority : ℕ) (entry : Entry) (jobs : Jobs) → Stay jobs.slots (novac priority entry jobs).jobs.slots
novac_stays priority entry jobs = established_stays (least_unused 1 jobs.slots) (new_job priority entry 0) jobs (least_unused-least jobs.slots)

findvac_at_stays : (o : Option ℕ) (priority : ℕ) (entry : Entry) (jobs : Jobs) → Stay jobs.slots (findvac_at o priority entry jobs).jobs.slots
findvac_at_stays None priority entry jobs = same_stay jobs.slots
findvac_at_stays (Some area) priority entry jobs = established_stays (least_unused 1 jobs.slots) (new_job priority entry area) jobs (least_unused-least jobs.slots)

woken_stands : (job : Job) (at : ℕ) → stand_of (Some job) ≡ Some at → stand_of (Some (woken job)) ≡ Some at
woken_stands job at is = go job.asleep refl where
  go : (b : Bool) → job.asleep ≡ b → Some job.at ≡ Some at
  go true q = absurd (let no : None ≡ Some at = sym (ap (λ (b : Bool). cond b None (Some job.at)) q) ∙ is in cc)
  go false q = sym (ap (λ (b : Bool). cond b None (Some job.at)) q) ∙ is

rouse_stays : (at : ℕ) (jobs : Jobs) → Stay jobs.slots (rouse at jobs).jobs.slots
rouse_stays at jobs = elim (option_cases (sleeper_from 1 at jobs.slots)) [
  | inl found ↦ rw found.1 (changed_stays jobs.slots found.0 woken woken_stands)
  | inr off ↦ rw off (same_stay jobs.slots)
]

done_stays : (act : Action) (work : Work) → Stay work.jobs.slots (done act work).work.jobs.slots
done_stays action.Nothing work = same_stay work.jobs.slots
done_stays (action.Novac priority entry) work = novac_stays priority entry work.jobs
done_stays (action.Findvac priority entry) work = findvac_at_stays (least_unowned 5 1 work.jobs.slots) priority entry work.jobs
done_stays (action.Rouse at) work = rouse_stays at work.jobs
done_stays (action.List delay task) work = same_stay work.jobs.slots

-- what happened since these slots
abbrev Since : List (Option Job) → Work → Type 0
Since start work = Stay start work.jobs.slots

then_since : (start : List (Option Job)) (did : Did) (next : Work → Did) → ((w : Work) → Since start w → Since start (next w).work) → Since start did.work → Since start (and_then did next).work
then_since start did next on is = elim (cases_Bool (is_some did.alarm)) [
  | inl over ↦ rw over is
  | inr off ↦ rw off (on did.work is)
]

all_since : (start : List (Option Job)) (acts : List Action) (work : Work) → Since start work → Since start (all_done acts work).work
all_since start [] work is = is
all_since start (act ∷ acts) work is = then_since start (done act work) (all_done acts) (λ w t. all_since start acts w t) (on_with start work.jobs.slots (done act work).work.jobs.slots is (done_stays act work))

unless_since : (start : List (Option Job)) (alarm : Option Alarm) (work : Work) (fired : List Task) (acts : List (List Action)) (again : Work → List Task → List (List Action) → Fires) → ((w : Work) (f : List Task) (a : List (List Action)) → Since start w → Since start (again w f a).work) → Since start work → Since start (unless_alarm alarm work fired acts again).work
unless_since start None work fired acts again on is = on work fired acts is
unless_since start (Some alarm) work fired acts again on is = is

first_since : (start : List (Option Job)) (o : Option Task) (rows : Rows) (work : Work) (fired : List Task) (acts : List (List Action)) (again : Work → List Task → List (List Action) → Fires) → ((w : Work) (f : List Task) (a : List (List Action)) → Since start w → Since start (again w f a).work) → Since start work → Since start (fire_first o rows work fired acts again).work
first_since start None rows work fired acts again on is = is
first_since start (Some task) rows work fired acts again on is =
    let its = actions_in rows task in
    let here = dispatched_work work in
    unless_since start (all_done its here).alarm (all_done its here).work (fired ++ task ∷ []) (acts ++ those_done its here ∷ []) again on (all_since start its here is)

fire_since : (start : List (Option Job)) (more : ℕ) (rows : Rows) (work : Work) (fired : List Task) (acts : List (List Action)) → Since start work → Since start (fire more rows work fired acts).work
fire_since start zero rows work fired acts is = is
fire_since start (suc more) rows work fired acts is = first_since start (first_due work.agenda.time work.agenda.tasks) rows work fired acts (fire more rows) (fire_since start more rows) is

tick_stays : (rows : Rows) (work : Work) → Stay work.jobs.slots (ticked rows work).work.jobs.slots
tick_stays rows work =
    let now = later_work work in
    fire_since work.jobs.slots (count_due now.agenda.time now.agenda.tasks) rows now [] [] (same_stay work.jobs.slots)

-- what is done with the running job
run_keeps : (running : Option ℕ) (slots : List (Option Job)) (made : ℕ → Outcome) (jobs : Jobs) → jobs.running ≡ running → jobs.slots ≡ slots → ((n : ℕ) → Keep slots (made n).jobs.slots) → Keep slots (if_running made jobs).jobs.slots
run_keeps None slots made jobs runs same each = rw (runs, same) (stay_keeps slots slots (same_stay slots))
run_keeps (Some n) slots made jobs runs same each = rw runs (each n)

keeps_all : (jobs : Jobs) (made : ℕ → Outcome) → ((n : ℕ) → Keep jobs.slots (made n).jobs.slots) → Keep jobs.slots (if_running made jobs).jobs.slots
keeps_all jobs made each = run_keeps jobs.running jobs.slots made jobs refl refl each

slept : (at : ℕ) (o : Option Job) → stand_of (option_map (sleeping_at at) o) ≡ None
slept at None = refl
slept at (Some job) = refl

acted_keeps : (plan : Planned) (asked : Request) (plain : Plain) → Keep plain.work.jobs.slots (acted plan asked plain).plain.work.jobs.slots
acted_keeps plan (request.Novac priority entry) plain = stay_keeps plain.work.jobs.slots _ (novac_stays priority entry plain.work.jobs)
acted_keeps plan (request.Findvac priority entry) plain = stay_keeps plain.work.jobs.slots _ (findvac_at_stays (least_unowned 5 1 plain.work.jobs.slots) priority entry plain.work.jobs)
acted_keeps plan request.EndOfJob plain = keeps_all plain.work.jobs (λ n. left_by n None plain.work.jobs) (λ n. set_keeps plain.work.jobs.slots (n - 1) None refl)
acted_keeps plan (request.Sleep at) plain =
    let jobs = plain.work.jobs in
    keeps_all jobs (λ n. left_by n (option_map (sleeping_at at) (job_in jobs.slots n)) jobs) (λ n. set_keeps jobs.slots (n - 1) (option_map (sleeping_at at) (job_in jobs.slots n)) (slept at (job_in jobs.slots n)))
acted_keeps plan (request.Rouse at) plain = stay_keeps plain.work.jobs.slots _ (rouse_stays at plain.work.jobs)
acted_keeps plan (request.Prio priority) plain =
    let jobs = plain.work.jobs in
    keeps_all jobs (λ n. run_on n (with_changed (with_priority priority) jobs.slots n)) (λ n. stay_keeps jobs.slots _ (changed_stays jobs.slots n (with_priority priority) (λ job at is. is)))
acted_keeps plan request.Change plain =
    let jobs = plain.work.jobs in
    keeps_all jobs (λ n. run_on n jobs.slots) (λ n. stay_keeps jobs.slots jobs.slots (same_stay jobs.slots))
acted_keeps plan (request.Store place word) plain =
    let jobs = plain.work.jobs in
    keeps_all jobs (λ n. record { jobs = record jobs { slots = with_changed (with_word place word) jobs.slots n }; reply = Stored }) (λ n. stay_keeps jobs.slots _ (changed_stays jobs.slots n (with_word place word) (λ job at is. is)))
acted_keeps plan (request.List delay task) plain = stay_keeps plain.work.jobs.slots plain.work.jobs.slots (same_stay plain.work.jobs.slots)
acted_keeps plan request.Tick plain = stay_keeps plain.work.jobs.slots _ (tick_stays plan.rows plain.work)
acted_keeps plan (request.SetPhase group phase) plain = stay_keeps plain.work.jobs.slots plain.work.jobs.slots (same_stay plain.work.jobs.slots)
acted_keeps plan request.Restart plain = stay_keeps plain.work.jobs.slots plain.work.jobs.slots (same_stay plain.work.jobs.slots)
acted_keeps plan request.Fresh plain = stay_keeps plain.work.jobs.slots plain.work.jobs.slots (same_stay plain.work.jobs.slots)

abbrev slots_of : Machined → List (Option Job)
slots_of m = (plain_of m).work.jobs.slots

served_plain : (m : Machined) (asked : Request) → begins (stepped m asked).reply ≡ false → plain_of (served (stepped m asked) asked m) ≡ (acted m.plan asked (plain_of m)).plain
served_plain m asked same =
    let did = acted m.plan asked (plain_of m) in
    let plain_with : Bool → Plain = λ b. reached m.plan (cond b (stepped m asked).plain.base m.base) (cond b [] (m.log ++ asked ∷ [])) in
    let stored : reached m.plan m.base (m.log ++ asked ∷ []) ≡ (step m.plan asked (plain_of m)).plain = fold_push (λ (plain : Plain) (a : Request). (step m.plan a plain).plain) (era m.plan m.base) m.log asked in
    ap plain_with same ∙ stored ∙ ap (λ (b : Bool). cond b (era m.plan (base_after did.reply did.plain.base)) did.plain) same

served_keeps : (m : Machined) (asked : Request) → begins (stepped m asked).reply ≡ false → Keep (slots_of m) (slots_of (served (stepped m asked) asked m))
served_keeps m asked same =
    subst (λ (p : Plain). Keep (slots_of m) p.work.jobs.slots) (sym (served_plain m asked same)) (acted_keeps m.plan asked (plain_of m))

-- a request with which no era begins
pub machine_keeps : (m : Machined) (asked : Request) → begins_with (answer_of m asked) ≡ false → Keep (slots_of m) (slots_of (after m asked))
machine_keeps m asked none = go (refusal_of m asked) refl where
  go : (o : Option Refusal) → refusal_of m asked ≡ o → Keep (slots_of m) (slots_of (after m asked))
  go (Some refusal) is = rw is (stay_keeps (slots_of m) (slots_of m) (same_stay (slots_of m)))
  go None is =
      let not_begun : begins (stepped m asked).reply ≡ false = sym (ap (λ (o : Option Refusal). begins_with (result_of o (stepped m asked).reply)) is) ∙ none in
      rw is (served_keeps m asked not_begun)
