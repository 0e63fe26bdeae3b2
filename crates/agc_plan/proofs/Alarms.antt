-- Which action, which request and which tick has an alarm.
use Rattle.std.proofs.Common.{◌≡◌, ◌↔◌, ℕ, zero, suc, ◌+◌, ◌<◌, ◌≤◌, Bool, true, false, if◌then◌else◌, List, [], ◌∷◌, ◌++◌, Option, Some, None, length, refl, ap, sym, subst, ◌∙◌, inl, inr, nat_le, arith}
use Rattle.std.proofs.lemmas.Bool.{cases_Bool}
use Rattle.std.proofs.lemmas.List.{append_assoc, append-nil, length-append}
use Rattle.std.proofs.lemmas.Option.{same_Some}
use Rattle.std.specs.Option.{option_or, is_some}
use Rattle.agc_plan.specs.declared.reply.Alarm.{Alarm}
use Rattle.agc_plan.specs.declared.reply.Alarm.TheVariants.{A1201, A1202, A1203}
use Rattle.agc_plan.specs.declared.reply.Reply.{Reply}
use Rattle.agc_plan.specs.declared.reply.Reply.TheVariants.{Listed, Alarmed, Ticked}
use Rattle.agc_plan.specs.declared.request.Action.{Action}
use Rattle.agc_plan.specs.declared.request.Action.TheVariants as action
use Rattle.agc_plan.specs.declared.request.Entry.{Entry}
use Rattle.agc_plan.specs.declared.request.Request.{Request}
use Rattle.agc_plan.specs.declared.request.Request.TheVariants as request
use Rattle.agc_plan.specs.declared.request.Task.{Task}
use Rattle.agc_plan.specs.Jobs.{Job, Jobs, least_unused, least_unowned, new_job, establish_at, novac, findvac_at, findvac, end_of_job, sleep, rouse, prio, change, store, sleeper_from}
use Rattle.agc_plan.specs.Tasks.{Agenda, Pending, has_room, listed_if_room, first_due, without_first_due, count_due}
use Rattle.agc_plan.specs.Base.{Base}
use Rattle.agc_plan.specs.Plans.{Planned, Rows, actions_in, same_task}
use Rattle.agc_plan.specs.Eras.{Work}
use Rattle.agc_plan.specs.Steps.{Plain, Fires, alarm_of, with_listed, done, all_done, those_done, dispatched_work, unless_alarm, fire_first, fire, tick_fires, later_work, fired_in, step, reached}
use Rattle.agc_plan.specs.Groups.{and_then}
use Rattle.agc_plan.specs.Laws.{Misses, MissesNothing, NoneMisses, StopsAt, EndsByLast, listings, ListsOne, as_action, living, SomeAreaIsUnowned}
use Rattle.agc_plan.proofs.Searches.{option_cases}
use Rattle.agc_plan.proofs.Replies.{novac_1201, novac_1202, findvac_1201, findvac_1202, listed_1203}
use Rattle.agc_plan.proofs.Steady.{IsSteady, dispatched_steady, done_steady, all_steady, later_steady, reached_steady, reached_sets}

-- a new job's alarm
established_told : (o : Option ℕ) (job : Job) (jobs : Jobs) (alarm : Alarm) → alarm_of (establish_at o job jobs).reply ≡ Some alarm → (establish_at o job jobs).reply ≡ Alarmed alarm
established_told None job jobs alarm e = ap Alarmed (same_Some A1202 alarm e)
established_told (Some n) job jobs alarm e = absurd (cc)

found_told : (o : Option ℕ) (priority : ℕ) (entry : Entry) (jobs : Jobs) (alarm : Alarm) → alarm_of (findvac_at o priority entry jobs).reply ≡ Some alarm → (findvac_at o priority entry jobs).reply ≡ Alarmed alarm
found_told None priority entry jobs alarm e = ap Alarmed (same_Some A1201 alarm e)
found_told (Some area) priority entry jobs alarm e = established_told (least_unused 1 jobs.slots) (new_job priority entry area) jobs alarm e

established_room : (o : Option ℕ) (job : Job) (jobs : Jobs) → (establish_at o job jobs).reply ≡ Alarmed A1203 → ⊥
established_room None job jobs e = cc
established_room (Some n) job jobs e = cc

found_room : (o : Option ℕ) (priority : ℕ) (entry : Entry) (jobs : Jobs) → (findvac_at o priority entry jobs).reply ≡ Alarmed A1203 → ⊥
found_room None priority entry jobs e = cc
found_room (Some area) priority entry jobs e = established_room (least_unused 1 jobs.slots) (new_job priority entry area) jobs e

novac_misses : {size : ℕ} → (priority : ℕ) (entry : Entry) (work : Work) → IsSteady size work → (alarm : Alarm) → ((novac priority entry work.jobs).reply ≡ Alarmed alarm) ↔ Misses alarm (action.Novac priority entry) work
novac_misses priority entry work s A1201 = (λ e. novac_1201 priority entry work.jobs e, λ no. absurd no)
novac_misses priority entry work s A1202 = novac_1202 priority entry work.jobs
novac_misses priority entry work s A1203 = (λ e. established_room (least_unused 1 work.jobs.slots) (new_job priority entry 0) work.jobs e, λ no. absurd no)

findvac_misses : {size : ℕ} → (priority : ℕ) (entry : Entry) (work : Work) → IsSteady size work → (alarm : Alarm) → ((findvac priority entry work.jobs).reply ≡ Alarmed alarm) ↔ Misses alarm (action.Findvac priority entry) work
findvac_misses priority entry work s A1201 = findvac_1201 priority entry work.jobs
findvac_misses priority entry work s A1202 = findvac_1202 priority entry work.jobs
findvac_misses priority entry work s A1203 = (λ e. found_room (least_unowned 5 1 work.jobs.slots) priority entry work.jobs e, λ no. absurd no)

-- a listing's alarm
listed_told : (room : Bool) (alarm : Alarm) → alarm_of (if room then Listed else Alarmed A1203) ≡ Some alarm → (if room then Listed else Alarmed A1203) ≡ Alarmed alarm
listed_told true alarm e = absurd (cc)
listed_told false alarm e = ap Alarmed (same_Some A1203 alarm e)

listed_room : (room : Bool) (alarm : Alarm) → (if room then Listed else Alarmed A1203) ≡ Alarmed alarm → A1203 ≡ alarm
listed_room true alarm e = absurd (cc)
listed_room false alarm e = cc

listed_misses : {size : ℕ} → (delay : ℕ) (task : Task) (work : Work) → IsSteady size work → (alarm : Alarm) → ((with_listed delay task work).reply ≡ Alarmed alarm) ↔ Misses alarm (action.List delay task) work
listed_misses delay task work s A1201 = (λ e. absurd (let no : A1203 ≡ A1201 = listed_room (has_room work.agenda) A1201 e in cc), λ no. absurd no)
listed_misses delay task work s A1202 = (λ e. absurd (let no : A1203 ≡ A1202 = listed_room (has_room work.agenda) A1202 e in cc), λ no. absurd no)
listed_misses delay task work s A1203 = listed_1203 delay task work s.tasks

-- the others have none
nothing_misses : (work : Work) → MissesNothing action.Nothing work
nothing_misses work A1201 missed = missed
nothing_misses work A1202 missed = missed
nothing_misses work A1203 missed = missed

rouse_misses : (at : ℕ) (work : Work) → MissesNothing (action.Rouse at) work
rouse_misses at work A1201 missed = missed
rouse_misses at work A1202 missed = missed
rouse_misses at work A1203 missed = missed

rouse_quiet : (at : ℕ) (jobs : Jobs) → alarm_of (rouse at jobs).reply ≡ None
rouse_quiet at jobs = elim (option_cases (sleeper_from 1 at jobs.slots)) [
  | inl found ↦ rw found.1 refl
  | inr off ↦ rw off refl
]

end_quiet : (slots : List (Option Job)) (running : Option ℕ) → alarm_of (end_of_job (record { slots = slots; running = running })).reply ≡ None
end_quiet slots None = refl
end_quiet slots (Some n) = refl

sleep_quiet : (at : ℕ) (slots : List (Option Job)) (running : Option ℕ) → alarm_of (sleep at (record { slots = slots; running = running })).reply ≡ None
sleep_quiet at slots None = refl
sleep_quiet at slots (Some n) = refl

prio_quiet : (priority : ℕ) (slots : List (Option Job)) (running : Option ℕ) → alarm_of (prio priority (record { slots = slots; running = running })).reply ≡ None
prio_quiet priority slots None = refl
prio_quiet priority slots (Some n) = refl

change_quiet : (slots : List (Option Job)) (running : Option ℕ) → alarm_of (change (record { slots = slots; running = running })).reply ≡ None
change_quiet slots None = refl
change_quiet slots (Some n) = refl

store_quiet : (place word : ℕ) (slots : List (Option Job)) (running : Option ℕ) → alarm_of (store place word (record { slots = slots; running = running })).reply ≡ None
store_quiet place word slots None = refl
store_quiet place word slots (Some n) = refl

quiet_misses : (reply : Reply) (act : Action) (work : Work) → alarm_of reply ≡ None → MissesNothing act work → (alarm : Alarm) → (reply ≡ Alarmed alarm) ↔ Misses alarm act work
quiet_misses reply act work quiet nothing alarm = (λ e. absurd (let no : None ≡ Some alarm = sym quiet ∙ ap alarm_of e in cc), λ missed. absurd (nothing alarm missed))

step_misses : {size : ℕ} → (plan : Planned) (asked : Request) (plain : Plain) → IsSteady size plain.work → (alarm : Alarm) → ((step plan asked plain).reply ≡ Alarmed alarm) ↔ Misses alarm (as_action asked) plain.work
step_misses plan (request.Novac priority entry) plain s alarm = novac_misses priority entry plain.work s alarm
step_misses plan (request.Findvac priority entry) plain s alarm = findvac_misses priority entry plain.work s alarm
step_misses plan request.EndOfJob plain s alarm = quiet_misses (step plan request.EndOfJob plain).reply action.Nothing plain.work (end_quiet plain.work.jobs.slots plain.work.jobs.running) (nothing_misses plain.work) alarm
step_misses plan (request.Sleep at) plain s alarm = quiet_misses (step plan (request.Sleep at) plain).reply action.Nothing plain.work (sleep_quiet at plain.work.jobs.slots plain.work.jobs.running) (nothing_misses plain.work) alarm
step_misses plan (request.Rouse at) plain s alarm = quiet_misses (step plan (request.Rouse at) plain).reply (action.Rouse at) plain.work (rouse_quiet at plain.work.jobs) (rouse_misses at plain.work) alarm
step_misses plan (request.Prio priority) plain s alarm = quiet_misses (step plan (request.Prio priority) plain).reply action.Nothing plain.work (prio_quiet priority plain.work.jobs.slots plain.work.jobs.running) (nothing_misses plain.work) alarm
step_misses plan request.Change plain s alarm = quiet_misses (step plan request.Change plain).reply action.Nothing plain.work (change_quiet plain.work.jobs.slots plain.work.jobs.running) (nothing_misses plain.work) alarm
step_misses plan (request.Store place word) plain s alarm = quiet_misses (step plan (request.Store place word) plain).reply action.Nothing plain.work (store_quiet place word plain.work.jobs.slots plain.work.jobs.running) (nothing_misses plain.work) alarm
step_misses plan (request.List delay task) plain s alarm = listed_misses delay task plain.work s alarm
step_misses plan request.Tick plain s alarm =
    let fires = tick_fires plan.rows plain.work in
    (λ e. absurd (let no : Ticked fires.alarm ≡ Alarmed alarm = e in cc), λ missed. absurd (nothing_misses plain.work alarm missed))
step_misses plan (request.SetPhase group phase) plain s alarm = quiet_misses (step plan (request.SetPhase group phase) plain).reply action.Nothing plain.work refl (nothing_misses plain.work) alarm
step_misses plan request.Restart plain s alarm = quiet_misses (step plan request.Restart plain).reply action.Nothing plain.work refl (nothing_misses plain.work) alarm
step_misses plan request.Fresh plain s alarm = quiet_misses (step plan request.Fresh plain).reply action.Nothing plain.work refl (nothing_misses plain.work) alarm

pub request_alarmed : (plan : Planned) (base : Base) (log : List Request) (asked : Request) (alarm : Alarm) → ((step plan asked (reached plan base log)).reply ≡ Alarmed alarm) ↔ Misses alarm (as_action asked) (reached plan base log).work
request_alarmed plan base log asked alarm = step_misses plan asked (reached plan base log) (reached_steady plan base log) alarm

-- with the number of core sets
pub novac_reached : (plan : Planned) (base : Base) (log : List Request) (priority : ℕ) (entry : Entry) → ((step plan (request.Novac priority entry) (reached plan base log)).reply ≡ Alarmed A1202) ↔ (living (reached plan base log).work.jobs.slots ≡ plan.sets)
novac_reached plan base log priority entry =
    let is = request_alarmed plan base log (request.Novac priority entry) A1202 in
    let all = reached_sets plan base log in
    (λ e. is.0 e ∙ all, λ lives. is.1 (lives ∙ sym all))

pub findvac_reached : (plan : Planned) (base : Base) (log : List Request) (priority : ℕ) (entry : Entry) → ((step plan (request.Findvac priority entry) (reached plan base log)).reply ≡ Alarmed A1202) ↔ (SomeAreaIsUnowned (reached plan base log).work.jobs.slots × (living (reached plan base log).work.jobs.slots ≡ plan.sets))
findvac_reached plan base log priority entry =
    let is = request_alarmed plan base log (request.Findvac priority entry) A1202 in
    let all = reached_sets plan base log in
    (λ e. let (area, lives) = is.0 e in (area, lives ∙ all), λ both. is.1 (both.0, both.1 ∙ sym all))

-- an action has an alarm exactly where it misses what that tells
done_misses : {size : ℕ} → (a : Action) (work : Work) → IsSteady size work → (alarm : Alarm) → ((done a work).alarm ≡ Some alarm) ↔ Misses alarm a work
done_misses action.Nothing work s alarm = (λ e. absurd (let no : None ≡ Some alarm = e in cc), λ missed. absurd (nothing_misses work alarm missed))
done_misses (action.Novac priority entry) work s alarm =
    let is = novac_misses priority entry work s alarm in
    (λ e. is.0 (established_told (least_unused 1 work.jobs.slots) (new_job priority entry 0) work.jobs alarm e), λ missed. ap alarm_of (is.1 missed))
done_misses (action.Findvac priority entry) work s alarm =
    let is = findvac_misses priority entry work s alarm in
    (λ e. is.0 (found_told (least_unowned 5 1 work.jobs.slots) priority entry work.jobs alarm e), λ missed. ap alarm_of (is.1 missed))
done_misses (action.Rouse at) work s alarm =
    (λ e. absurd (let no : None ≡ Some alarm = sym (rouse_quiet at work.jobs) ∙ e in cc), λ missed. absurd (rouse_misses at work alarm missed))
done_misses (action.List delay task) work s alarm =
    let is = listed_misses delay task work s alarm in
    (λ e. is.0 (listed_told (has_room work.agenda) alarm e), λ missed. ap alarm_of (is.1 missed))

-- the task that is taken out makes room
made_room : (time : ℕ) (tasks : List Pending) (task : Task) → first_due time tasks ≡ Some task → length (without_first_due time tasks) < length tasks
made_room time [] task e = absurd (cc)
made_room time (x ∷ xs) task e = elim (cases_Bool (nat_le x.due time)) [
  | inl due ↦ rw due (omega arith)
  | inr off ↦ let lt : length (without_first_due time xs) < length xs = made_room time xs task (rw off at e) in rw off (omega arith)
]

-- of several actions the last that is done, and no other, has the alarm
done_cases : (act : Action) (acts : List Action) (work : Work) → (alarm : Option Alarm) → (done act work).alarm ≡ alarm → (all_done (act ∷ acts) work).alarm ≡ option_or alarm (all_done acts (done act work).work).alarm
done_cases act acts work None e = rw e refl
done_cases act acts work (Some alarm) e = rw e e

unless_told : {size : ℕ} → (act : Action) (work : Work) → IsSteady size work → (done act work).alarm ≡ None → MissesNothing act work
unless_told act work s is alarm missed = let no : None ≡ Some alarm = sym is ∙ (done_misses act work s alarm).1 missed in cc

first_misses_none : {size : ℕ} → (act : Action) (acts : List Action) (work : Work) → IsSteady size work → ((all_done acts (done act work).work).alarm ≡ None → NoneMisses acts (done act work).work) → (all_done (act ∷ acts) work).alarm ≡ None → (o : Option Alarm) → (done act work).alarm ≡ o → NoneMisses (act ∷ acts) work
first_misses_none act acts work s on e None is = (unless_told act work s is, on (sym (done_cases act acts work None is) ∙ e))
first_misses_none act acts work s on e (Some alarm) is = absurd (let no : Some alarm ≡ None = sym (done_cases act acts work (Some alarm) is) ∙ e in cc)

none_miss : {size : ℕ} → (acts : List Action) (work : Work) → IsSteady size work → (all_done acts work).alarm ≡ None → NoneMisses acts work
none_miss [] work s e = tt
none_miss (act ∷ acts) work s e = first_misses_none act acts work s (λ off. none_miss acts (done act work).work (done_steady act work s) off) e (done act work).alarm refl

abbrev StopsSomewhere : Alarm → List Action → Work → Type 0
StopsSomewhere alarm acts work = (number : ℕ) × StopsAt number alarm acts work

first_misses_one : {size : ℕ} → (act : Action) (acts : List Action) (work : Work) → IsSteady size work → (alarm : Alarm) → ((all_done acts (done act work).work).alarm ≡ Some alarm → StopsSomewhere alarm acts (done act work).work) → (all_done (act ∷ acts) work).alarm ≡ Some alarm → (o : Option Alarm) → (done act work).alarm ≡ o → StopsSomewhere alarm (act ∷ acts) work
first_misses_one act acts work s alarm on e None is =
    let (number, stops) = on (sym (done_cases act acts work None is) ∙ e) in
    (suc number, (unless_told act work s is, stops))
first_misses_one act acts work s alarm on e (Some other) is =
    let same : Some other ≡ Some alarm = sym (done_cases act acts work (Some other) is) ∙ e in
    (zero, (done_misses act work s alarm).0 (is ∙ same))

one_misses : {size : ℕ} → (acts : List Action) (work : Work) → IsSteady size work → (alarm : Alarm) → (all_done acts work).alarm ≡ Some alarm → StopsSomewhere alarm acts work
one_misses [] work s alarm e = absurd (cc)
one_misses (act ∷ acts) work s alarm e = first_misses_one act acts work s alarm (λ is. one_misses acts (done act work).work (done_steady act work s) alarm is) e (done act work).alarm refl

-- while there is room for what they list, none of them misses any
listed_more : (delay : ℕ) (task : Task) (agenda : Agenda) → length (listed_if_room delay task agenda).tasks ≤ length agenda.tasks + 1
listed_more delay task agenda = elim (cases_Bool (has_room agenda)) [
  | inl room ↦ rw (room, length-append) (omega arith)
  | inr off ↦ rw off (omega arith)
]

has_their_room : (number : ℕ) (acts : List Action) (work : Work) → listings acts + length work.agenda.tasks ≤ 9 → StopsAt number A1203 acts work → ⊥
has_their_room number [] work le stops = stops
has_their_room zero (action.Nothing ∷ acts) work le missed = missed
has_their_room zero (action.Novac priority entry ∷ acts) work le missed = missed
has_their_room zero (action.Findvac priority entry ∷ acts) work le missed = missed
has_their_room zero (action.Rouse at ∷ acts) work le missed = missed
has_their_room zero (action.List delay task ∷ acts) work le missed = let nine : length work.agenda.tasks ≡ 9 = missed in omega (arith, nine, le)
has_their_room (suc number) (action.Nothing ∷ acts) work le stops = has_their_room number acts work le stops.1
has_their_room (suc number) (action.Novac priority entry ∷ acts) work le stops = has_their_room number acts (done (action.Novac priority entry) work).work le stops.1
has_their_room (suc number) (action.Findvac priority entry ∷ acts) work le stops = has_their_room number acts (done (action.Findvac priority entry) work).work le stops.1
has_their_room (suc number) (action.Rouse at ∷ acts) work le stops = has_their_room number acts (done (action.Rouse at) work).work le stops.1
has_their_room (suc number) (action.List delay task ∷ acts) work le stops =
    let more = listed_more delay task work.agenda in
    has_their_room number acts (done (action.List delay task) work).work (omega (arith, le, more)) stops.1

lists_one : (rows : Rows) (task : Task) → ListsOne rows → listings (actions_in rows task) ≤ 1
lists_one [] task one = omega arith
lists_one (row ∷ rows) task one = elim (cases_Bool (same_task row.0 task)) [
  | inl here ↦ rw here (one 0 row (omega arith))
  | inr off ↦ rw off (lists_one rows task (λ k x lt. one (suc k) x (omega arith)))
]

-- these fired after those before, and ended by the last; where each lists one at most, never for
-- want of room
record IsEnded (rows : Rows) (work : Work) (before : List Task) (fires : Fires) : Type 0 where
  fired : List Task
  all : fires.fired ≡ before ++ fired
  ends : EndsByLast rows work fired fires.alarm
  room : ListsOne rows → fires.alarm ≡ Some A1203 → ⊥

none_fired : (rows : Rows) (work : Work) (before : List Task) (acts : List (List Action)) → IsEnded rows work before (record { work = work; fired = before; acts = acts; alarm = None })
none_fired rows work before acts = record { fired = []; all = sym (append-nil before); ends = refl; room = λ one e. let no : None ≡ Some A1203 = e in cc }

one_fired : {size : ℕ} → (rows : Rows) (work : Work) (task : Task) (before : List Task) (acts : List (List Action)) (again : Work → List Task → List (List Action) → Fires) → first_due work.agenda.time work.agenda.tasks ≡ Some task → IsSteady size (dispatched_work work) → length (dispatched_work work).agenda.tasks < 9 → ((w : Work) (f : List Task) (a : List (List Action)) → IsSteady size w → IsEnded rows w f (again w f a)) → (o : Option Alarm) → (all_done (actions_in rows task) (dispatched_work work)).alarm ≡ o → IsEnded rows work before (unless_alarm o (all_done (actions_in rows task) (dispatched_work work)).work (before ++ task ∷ []) acts again)
one_fired rows work task before acts again first s lt on None e =
    let its : List Action = actions_in rows task in
    let here : Work = dispatched_work work in
    let rest = on (all_done its here).work (before ++ task ∷ []) acts (all_steady its here s) in
    record {
      fired = task ∷ rest.fired;
      all = rest.all ∙ append_assoc before (task ∷ []) rest.fired;
      ends = (first, inl (none_miss its here s e, rest.ends));
      room = rest.room;
    }
one_fired rows work task before acts again first s lt on (Some alarm) e =
    let its : List Action = actions_in rows task in
    let here : Work = dispatched_work work in
    let (number, stops) = one_misses its here s alarm e in
    record {
      fired = task ∷ [];
      all = refl;
      ends = (first, inr (refl, (alarm, number, refl, stops)));
      room = λ one is.
          let few : listings its ≤ 1 = lists_one rows task one in
          has_their_room number its here (omega (arith, lt, few)) (subst (λ (a : Alarm). StopsAt number a its here) (same_Some alarm A1203 is) stops);
    }

first_ends : {size : ℕ} → (rows : Rows) (work : Work) (before : List Task) (acts : List (List Action)) (again : Work → List Task → List (List Action) → Fires) → IsSteady size work → ((w : Work) (f : List Task) (a : List (List Action)) → IsSteady size w → IsEnded rows w f (again w f a)) → (o : Option Task) → first_due work.agenda.time work.agenda.tasks ≡ o → IsEnded rows work before (fire_first o rows work before acts again)
first_ends rows work before acts again s on None e = none_fired rows work before acts
first_ends rows work before acts again s on (Some task) e =
    let lt : length (without_first_due work.agenda.time work.agenda.tasks) < length work.agenda.tasks = made_room work.agenda.time work.agenda.tasks task e in
    let most : length work.agenda.tasks ≤ 9 = s.tasks in
    let its : List Action = actions_in rows task in
    one_fired rows work task before (acts ++ those_done its (dispatched_work work) ∷ []) again e (dispatched_steady work s) (omega (arith, lt, most)) on (all_done its (dispatched_work work)).alarm refl

fire_ends : {size : ℕ} → (more : ℕ) (rows : Rows) (work : Work) (before : List Task) (acts : List (List Action)) → IsSteady size work → IsEnded rows work before (fire more rows work before acts)
fire_ends zero rows work before acts s = none_fired rows work before acts
fire_ends (suc more) rows work before acts s = first_ends rows work before acts (fire more rows) s (λ w f a t. fire_ends more rows w f a t) (first_due work.agenda.time work.agenda.tasks) refl

reached_ends : (plan : Planned) (base : Base) (log : List Request) → IsEnded plan.rows (later_work (reached plan base log).work) [] (tick_fires plan.rows (reached plan base log).work)
reached_ends plan base log =
    let work : Work = later_work (reached plan base log).work in
    fire_ends (count_due work.agenda.time work.agenda.tasks) plan.rows work [] [] (later_steady (reached plan base log).work (reached_steady plan base log))

pub tick_ends : (plan : Planned) (base : Base) (log : List Request) (told : Option Alarm) → (step plan request.Tick (reached plan base log)).reply ≡ Ticked told → EndsByLast plan.rows (later_work (reached plan base log).work) (fired_in plan request.Tick (reached plan base log)) told
tick_ends plan base log told e =
    let work : Work = (reached plan base log).work in
    let ended = reached_ends plan base log in
    let same : ended.fired ≡ (tick_fires plan.rows work).fired = sym ended.all in
    let alarm : (tick_fires plan.rows work).alarm ≡ told = ap alarm_of e in
    subst (λ tasks. EndsByLast plan.rows (later_work work) tasks told) same (subst (λ o. EndsByLast plan.rows (later_work work) ended.fired o) alarm ended.ends)

pub tick_has_room : (plan : Planned) (base : Base) (log : List Request) → ListsOne plan.rows → (step plan request.Tick (reached plan base log)).reply ≡ Ticked (Some A1203) → ⊥
tick_has_room plan base log one e = (reached_ends plan base log).room one (ap alarm_of e)

-- one action alone
done_alone : (work : Work) (alarm : Option Alarm) → and_then (record { work = work; alarm = alarm }) (all_done []) ≡ record { work = work; alarm = alarm }
done_alone work None = refl
done_alone work (Some alarm) = refl

pub one_done : (act : Action) (work : Work) → all_done (act ∷ []) work ≡ done act work
one_done act work = done_alone (done act work).work (done act work).alarm

those_alone : (act : Action) (raised : Bool) → (act ∷ (if raised then [] else [])) ≡ act ∷ []
those_alone act true = refl
those_alone act false = refl

pub one_those : (act : Action) (work : Work) → those_done (act ∷ []) work ≡ act ∷ []
one_those act work = those_alone act (is_some (done act work).alarm)
