-- What fires in a tick, and that nothing is due afterwards.
use Rattle.std.proofs.Common.{◌≡◌, ℕ, zero, suc, ◌+◌, ◌<◌, ◌≤◌, ◌==◌, true, false, List, [], ◌∷◌, ◌++◌, map, Option, Some, None, length, refl, ap, sym, subst, ◌∙◌, inl, inr, if◌then◌else◌, nat_le, All, arith}
use Rattle.std.proofs.lemmas.Bool.{cases_Bool, cases_eq}
use Rattle.std.proofs.lemmas.List.{append_assoc}
use Rattle.std.proofs.lemmas.Option.{same_Some}
use Rattle.std.proofs.lemmas.Grind.{common_steps}
use Rattle.std.specs.List.{fold}
use Rattle.std.specs.Option.{is_some}
use Rattle.agc_plan.specs.declared.reply.Alarm.{Alarm}
use Rattle.agc_plan.specs.declared.reply.Reply.TheVariants.{Ticked}
use Rattle.agc_plan.specs.declared.request.Action.{Action}
use Rattle.agc_plan.specs.declared.request.Action.TheVariants as action
use Rattle.agc_plan.specs.declared.request.Request.{Request}
use Rattle.agc_plan.specs.declared.request.Request.TheVariants as request
use Rattle.agc_plan.specs.declared.request.Task.{Task}
use Rattle.agc_plan.specs.Tasks.{Agenda, Pending, InOrder, has_room, listed_if_room, first_due, without_first_due, count_due, due_at}
use Rattle.agc_plan.specs.Base.{Base}
use Rattle.agc_plan.specs.Begins.{Begins}
use Rattle.agc_plan.specs.Plans.{Planned, Rows, same_task, actions_in, is_for, entry_at}
use Rattle.agc_plan.specs.Eras.{Work, no_work, active}
use Rattle.agc_plan.specs.Groups.{agenda_begun, group_begun, begun_from}
use Rattle.agc_plan.proofs.Groups.{begun_is}
use Rattle.agc_plan.specs.Steps.{Plain, Did, Fires, Stepped, era, done, all_done, those_done, dispatched_work, unless_alarm, fire_first, fire, tick_fires, later_work, acted, begins, base_after, ended, step, reached}
use Rattle.agc_plan.specs.Laws.{IsNothingDue, IsActionDelayed, IsListingDelayed, IsRequestDelayed, AreActionsDelayed, AreListingsDelayed, FiresThese}

-- the tasks that are due by this time
abbrev due_by : ℕ → List Pending → List Pending
due_by time [] = []
due_by time (x ∷ xs) = if nat_le x.due time then x ∷ due_by time xs else due_by time xs

count-length : (time : ℕ) (xs : List Pending) → count_due time xs ≡ length (due_by time xs)
count-length time [] = refl
count-length time (x ∷ xs) = elim (cases_Bool (nat_le x.due time)) [
  | inl due ↦ rw due (ap suc (count-length time xs))
  | inr off ↦ rw off (count-length time xs)
]

none_due : (time : ℕ) (xs : List Pending) → first_due time xs ≡ None → due_by time xs ≡ []
none_due time [] e = refl
none_due time (x ∷ xs) e = elim (cases_Bool (nat_le x.due time)) [
  | inl due ↦ let no : Some x.task ≡ None = rw due at e in absurd (cc)
  | inr off ↦ rw off (none_due time xs (rw off at e))
]

one_due : (time : ℕ) (xs : List Pending) (task : Task) → first_due time xs ≡ Some task → (x : Pending) × (due_by time xs ≡ x ∷ due_by time (without_first_due time xs)) × (x.task ≡ task)
one_due time [] task e = absurd (cc)
one_due time (x ∷ xs) task e = elim (cases_Bool (nat_le x.due time)) [
  | inl due ↦ (x, rw due, same_Some x.task task (rw due at e))
  | inr off ↦ let (y, is, same) = one_due time xs task (rw off at e) in (y, rw (off, off) is, same)
]

due_later : (time : ℕ) (xs : List Pending) (y : Pending) → time < y.due → due_by time (xs ++ y ∷ []) ≡ due_by time xs
due_later time [] y lt = let off : nat_le y.due time ≡ false = grind (arith, common_steps) in rw off
due_later time (x ∷ xs) y lt = elim (cases_Bool (nat_le x.due time)) [
  | inl due ↦ rw due (ap (λ zs. x ∷ zs) (due_later time xs y lt))
  | inr off ↦ rw off (due_later time xs y lt)
]

-- a listing is due later
listed_later : (delay : ℕ) (task : Task) (agenda : Agenda) → 1 ≤ delay → ((listed_if_room delay task agenda).time ≡ agenda.time) × (due_by agenda.time (listed_if_room delay task agenda).tasks ≡ due_by agenda.time agenda.tasks)
listed_later delay task agenda low = elim (cases_Bool (has_room agenda)) [
  | inl room ↦ rw room (refl, due_later agenda.time agenda.tasks (record { task = task; due = agenda.time + delay }) (omega arith))
  | inr off ↦ rw off (refl, refl)
]

-- an action changes neither the time nor what is due
done_later : (a : Action) (work : Work) → IsActionDelayed a → ((done a work).work.agenda.time ≡ work.agenda.time) × (due_by work.agenda.time (done a work).work.agenda.tasks ≡ due_by work.agenda.time work.agenda.tasks)
done_later action.Nothing work d = (refl, refl)
done_later (action.Novac priority entry) work d = (refl, refl)
done_later (action.Findvac priority entry) work d = (refl, refl)
done_later (action.Rouse at) work d = (refl, refl)
done_later (action.List delay task) work d = listed_later delay task work.agenda d

-- and so do all that are done
all_later : (acts : List Action) (work : Work) → All IsActionDelayed acts → ((all_done acts work).work.agenda.time ≡ work.agenda.time) × (due_by work.agenda.time (all_done acts work).work.agenda.tasks ≡ due_by work.agenda.time work.agenda.tasks)
all_later [] work d = (refl, refl)
all_later (act ∷ acts) work d =
    let (time_is, is) = done_later act work (d 0 act (omega arith)) in
    elim (cases_Bool (is_some (done act work).alarm)) [
      | inl over ↦ rw over (time_is, is)
      | inr on ↦
          let (then_time, then_is) = all_later acts (done act work).work (λ k a lt. d (suc k) a (omega arith)) in
          rw on (then_time ∙ time_is, ap (λ t. due_by t (all_done acts (done act work).work).work.agenda.tasks) (sym time_is) ∙ then_is ∙ ap (λ t. due_by t (done act work).work.agenda.tasks) time_is ∙ is)
    ]

actions_delayed : (rows : Rows) (task : Task) → AreActionsDelayed rows → All IsActionDelayed (actions_in rows task)
actions_delayed [] task d = λ k a lt. absurd (omega arith)
actions_delayed (row ∷ rows) task d = elim (cases_Bool (same_task row.0 task)) [
  | inl here ↦ rw here (d 0 row (omega arith))
  | inr off ↦ rw off (actions_delayed rows task (λ k x lt. d (suc k) x (omega arith)))
]

-- of the tasks that were due, these fired after those before; without an alarm none is left
record IsFired (time : ℕ) (due : List Pending) (before : List Task) (fires : Fires) : Type 0 where
  rest : List Task
  all : fires.fired ++ rest ≡ before ++ map (λ p. p.task) due
  time_is : fires.work.agenda.time ≡ time
  none_left : fires.alarm ≡ None → (rest ≡ []) × (due_by time fires.work.agenda.tasks ≡ [])

moved : (fires : Fires) (before : List Task) (t u : ℕ) (ds es : List Pending) → t ≡ u → ds ≡ es → IsFired t ds before fires → IsFired u es before fires
moved fires before t u ds es time_is due_is f = subst (λ n. IsFired n es before fires) time_is (subst (λ xs. IsFired t xs before fires) due_is f)

-- one fired, and then the others
fired_one : (work : Work) (did : Did) (x : Pending) (task : Task) (due : List Pending) (before : List Task) (acts : List (List Action)) (again : Work → List Task → List (List Action) → Fires) → x.task ≡ task → did.work.agenda.time ≡ work.agenda.time → due_by work.agenda.time did.work.agenda.tasks ≡ due → ((w : Work) (f : List Task) (a : List (List Action)) → w.agenda.time ≡ work.agenda.time → due_by work.agenda.time w.agenda.tasks ≡ due → IsFired work.agenda.time due f (again w f a)) → (o : Option Alarm) → IsFired work.agenda.time (x ∷ due) before (unless_alarm o did.work (before ++ task ∷ []) acts again)
fired_one work did x task due before acts again same time_is is on None =
    let f = on did.work (before ++ task ∷ []) acts time_is is in
    record {
      rest = f.rest;
      all = f.all ∙ append_assoc before (task ∷ []) (map (λ p. p.task) due) ∙ ap (λ t. before ++ t ∷ map (λ p. p.task) due) (sym same);
      time_is = f.time_is;
      none_left = f.none_left;
    }
fired_one work did x task due before acts again same time_is is on (Some alarm) = record {
  rest = map (λ p. p.task) due;
  all = append_assoc before (task ∷ []) (map (λ p. p.task) due) ∙ ap (λ t. before ++ t ∷ map (λ p. p.task) due) (sym same);
  time_is = time_is;
  none_left = λ off. absurd (let no : Some alarm ≡ None = off in cc);
}

first_fires : (more : ℕ) (rows : Rows) → AreActionsDelayed rows → (work : Work) (before : List Task) (acts : List (List Action)) (again : Work → List Task → List (List Action) → Fires) → ((w : Work) (f : List Task) (a : List (List Action)) → length (due_by w.agenda.time w.agenda.tasks) ≤ more → IsFired w.agenda.time (due_by w.agenda.time w.agenda.tasks) f (again w f a)) → length (due_by work.agenda.time work.agenda.tasks) ≤ suc more → (o : Option Task) → first_due work.agenda.time work.agenda.tasks ≡ o → IsFired work.agenda.time (due_by work.agenda.time work.agenda.tasks) before (fire_first o rows work before acts again)
first_fires more rows d work before acts again on le None e =
    let none : due_by work.agenda.time work.agenda.tasks ≡ [] = none_due work.agenda.time work.agenda.tasks e in
    record { rest = []; all = rw none; time_is = refl; none_left = λ off. (refl, none) }
first_fires more rows d work before acts again on le (Some task) e =
    let (x, two, same) = one_due work.agenda.time work.agenda.tasks task e in
    let left : List Pending = due_by work.agenda.time (without_first_due work.agenda.time work.agenda.tasks) in
    let its : List Action = actions_in rows task in
    let did : Did = all_done its (dispatched_work work) in
    let now_done : List (List Action) = acts ++ those_done its (dispatched_work work) ∷ [] in
    let (time_is, is) = all_later its (dispatched_work work) (actions_delayed rows task d) in
    let most : suc (length left) ≤ suc more = rw two at le in
    let next : (w : Work) (f : List Task) (a : List (List Action)) → w.agenda.time ≡ work.agenda.time → due_by work.agenda.time w.agenda.tasks ≡ left → IsFired work.agenda.time left f (again w f a) = λ w f a now w_is.
    let due_is : due_by w.agenda.time w.agenda.tasks ≡ left = ap (λ t. due_by t w.agenda.tasks) now ∙ w_is in
    moved (again w f a) f w.agenda.time work.agenda.time (due_by w.agenda.time w.agenda.tasks) left now due_is (on w f a (rw due_is (omega arith))) in
    subst (λ ds. IsFired work.agenda.time ds before (unless_alarm did.alarm did.work (before ++ task ∷ []) now_done again)) (sym two)
    (fired_one work did x task left before now_done again same time_is is next did.alarm)

fires_these : (more : ℕ) (rows : Rows) → AreActionsDelayed rows → (work : Work) (before : List Task) (acts : List (List Action)) → length (due_by work.agenda.time work.agenda.tasks) ≤ more → IsFired work.agenda.time (due_by work.agenda.time work.agenda.tasks) before (fire more rows work before acts)
fires_these zero rows d work before acts le =
    let none : due_by work.agenda.time work.agenda.tasks ≡ [] = empty (due_by work.agenda.time work.agenda.tasks) le in
    record { rest = []; all = rw none; time_is = refl; none_left = λ off. (refl, none) }
  where
    empty : (xs : List Pending) → length xs ≤ 0 → xs ≡ []
    empty [] le = refl
    empty (x ∷ xs) le = absurd (omega arith)
fires_these (suc more) rows d work before acts le =
    first_fires more rows d work before acts (fire more rows) (λ w f a short. fires_these more rows d w f a short) le (first_due work.agenda.time work.agenda.tasks) refl

tick_fired : (rows : Rows) (work : Work) → AreActionsDelayed rows → IsFired (work.agenda.time + 1) (due_by (work.agenda.time + 1) work.agenda.tasks) [] (tick_fires rows work)
tick_fired rows work d =
    let count : count_due (work.agenda.time + 1) work.agenda.tasks ≡ length (due_by (work.agenda.time + 1) work.agenda.tasks) = count-length (work.agenda.time + 1) work.agenda.tasks in
    fires_these (count_due (work.agenda.time + 1) work.agenda.tasks) rows d (later_work work) [] [] (omega arith)

-- nothing is due, by the list and by index
all_cons : (P : Pending → Type 0) (x : Pending) (xs : List Pending) → P x → All P xs → All P (x ∷ xs)
all_cons P x xs h rest zero d lt = h
all_cons P x xs h rest (suc k) d lt = rest k d (omega arith)

later_all : (time : ℕ) (xs : List Pending) → due_by time xs ≡ [] → All (λ p. time < p.due) xs
later_all time [] e = λ k d lt. absurd (omega arith)
later_all time (x ∷ xs) e = elim (cases_Bool (nat_le x.due time)) [
  | inl due ↦ let no : x ∷ due_by time xs ≡ [] = rw due at e in absurd (cc)
  | inr off ↦ let lt : time < x.due = grind (arith, common_steps) in all_cons (λ p. time < p.due) x xs lt (later_all time xs (rw off at e))
]

-- where nothing was due, what is due a centisecond later is due just then
due_just : (time : ℕ) (xs : List Pending) → All (λ p. time < p.due) xs → due_by (time + 1) xs ≡ due_at (time + 1) xs
due_just time [] h = refl
due_just time (x ∷ xs) h =
    let later : time < x.due = h 0 x (omega arith) in
    let rest : due_by (time + 1) xs ≡ due_at (time + 1) xs = due_just time xs (λ k d lt. h (suc k) d (omega arith)) in
    elim (cases_eq x.due (time + 1)) [
      | inl same ↦
          let due : nat_le x.due (time + 1) ≡ true = grind (arith, common_steps) in
          let is : (x.due == time + 1) ≡ true = grind (arith, common_steps) in
          rw (due, is) (ap (λ zs. x ∷ zs) rest)
      | inr ne ↦
          let due : nat_le x.due (time + 1) ≡ false = grind (arith, common_steps) in
          let is : (x.due == time + 1) ≡ false = grind (arith, common_steps) in
          rw (due, is) rest
    ]

pub tick_nothing_due : (rows : Rows) (work : Work) → AreActionsDelayed rows → (tick_fires rows work).alarm ≡ None → IsNothingDue (tick_fires rows work).work.agenda
tick_nothing_due rows work d off =
    let f = tick_fired rows work d in
    later_all (tick_fires rows work).work.agenda.time (tick_fires rows work).work.agenda.tasks (ap (λ t. due_by t (tick_fires rows work).work.agenda.tasks) f.time_is ∙ (f.none_left off).1)

pub tick_fires_these : (rows : Rows) (work : Work) → AreActionsDelayed rows → IsNothingDue work.agenda → FiresThese (due_at (work.agenda.time + 1) work.agenda.tasks) (tick_fires rows work)
tick_fires_these rows work d idle =
    let f = tick_fired rows work d in
    (f.rest, f.all ∙ ap (map (λ p. p.task)) (due_just work.agenda.time work.agenda.tasks idle), λ off. (f.none_left off).0)

pub tick_fires_in_order : (rows : Rows) (work : Work) (ordered : List Pending) → AreActionsDelayed rows → IsNothingDue work.agenda → InOrder work.agenda.tasks ordered → FiresThese (due_at (work.agenda.time + 1) ordered) (tick_fires rows work)
tick_fires_in_order rows work ordered d idle order = subst (λ ds. FiresThese ds (tick_fires rows work)) (sym (order.same_at (work.agenda.time + 1))) (tick_fires_these rows work d idle)

-- nothing is due between requests
abbrev Idle : Agenda → Type 0
Idle agenda = due_by agenda.time agenda.tasks ≡ []

listed_idle : (delay : ℕ) (task : Task) (agenda : Agenda) → 1 ≤ delay → Idle agenda → Idle (listed_if_room delay task agenda)
listed_idle delay task agenda low idle =
    let (time_is, is) = listed_later delay task agenda low in
    ap (λ t. due_by t (listed_if_room delay task agenda).tasks) time_is ∙ is ∙ idle

begun_idle : (task : Option (ℕ × Task)) (agenda : Agenda) → IsListingDelayed task → Idle agenda → Idle (agenda_begun task agenda)
begun_idle None agenda d idle = idle
begun_idle (Some listing) agenda d idle = listed_idle listing.0 listing.1 agenda d idle

entry_delayed : (es : List Begins) (group phase : ℕ) → AreListingsDelayed es → (e : Begins) → entry_at es group phase ≡ Some e → IsListingDelayed e.task
entry_delayed [] group phase d e is = absurd (cc)
entry_delayed (x ∷ es) group phase d e is = elim (cases_Bool (is_for x group phase)) [
  | inl here ↦ let same : x ≡ e = same_Some x e (rw here at is) in subst (λ (b : Begins). IsListingDelayed b.task) same (d 0 x (omega arith))
  | inr off ↦ entry_delayed es group phase (λ k b lt. d (suc k) b (omega arith)) e (rw off at is)
]

active_delayed : (es : List Begins) (group phase : ℕ) → AreListingsDelayed es → (e : Begins) → active es group phase ≡ Some e → IsListingDelayed e.task
active_delayed es group phase d e is = elim (cases_Bool (phase == 0)) [
  | inl inactive ↦ let no : None ≡ Some e = rw inactive at is in absurd (cc)
  | inr on ↦ entry_delayed es group phase d e (rw on at is)
]

group_idle : (o : Option Begins) (work : Work) → ((e : Begins) → o ≡ Some e → IsListingDelayed e.task) → Idle work.agenda → Idle (group_begun o work).agenda
group_idle None work d idle = idle
group_idle (Some e) work d idle = begun_idle e.task work.agenda (d e refl) idle

groups_idle : (es : List Begins) (group : ℕ) (phases : List ℕ) (work : Work) → AreListingsDelayed es → Idle work.agenda → Idle (begun_from es group phases work).agenda
groups_idle es group [] work d idle = idle
groups_idle es group (phase ∷ phases) work d idle = groups_idle es (group + 1) phases (group_begun (active es group phase) work) d (group_idle (active es group phase) work (active_delayed es group phase d) idle)

era_idle : (plan : Planned) (base : Base) → AreListingsDelayed plan.entries → Idle (era plan base).work.agenda
era_idle plan base d = subst (λ (work : Work). Idle work.agenda) (sym (begun_is plan base.phases)) (groups_idle plan.entries 1 base.phases (no_work plan.sets) d refl)

ended_idle : (plan : Planned) (did : Stepped) → AreListingsDelayed plan.entries → (begins did.reply ≡ false → Idle did.plain.work.agenda) → Idle (ended plan did).work.agenda
ended_idle plan did d idle = elim (cases_Bool (begins did.reply)) [
  | inl over ↦ rw over (era_idle plan (base_after did.reply did.plain.base) d)
  | inr on ↦ rw on (idle on)
]

no_alarm : (o : Option Alarm) → begins (Ticked o) ≡ false → o ≡ None
no_alarm None e = refl
no_alarm (Some alarm) e = absurd (cc)

acted_idle : (plan : Planned) (asked : Request) (plain : Plain) → AreActionsDelayed plan.rows → IsRequestDelayed asked → Idle plain.work.agenda → begins (acted plan asked plain).reply ≡ false → Idle (acted plan asked plain).plain.work.agenda
acted_idle plan (request.Novac priority entry) plain d a idle on = idle
acted_idle plan (request.Findvac priority entry) plain d a idle on = idle
acted_idle plan request.EndOfJob plain d a idle on = idle
acted_idle plan (request.Sleep at) plain d a idle on = idle
acted_idle plan (request.Rouse at) plain d a idle on = idle
acted_idle plan (request.Prio priority) plain d a idle on = idle
acted_idle plan request.Change plain d a idle on = idle
acted_idle plan (request.Store place word) plain d a idle on = idle
acted_idle plan (request.List delay task) plain d a idle on = listed_idle delay task plain.work.agenda a idle
acted_idle plan request.Tick plain d a idle on =
    let f = tick_fired plan.rows plain.work d in
    let off : (tick_fires plan.rows plain.work).alarm ≡ None = no_alarm (tick_fires plan.rows plain.work).alarm on in
    ap (λ t. due_by t (tick_fires plan.rows plain.work).work.agenda.tasks) f.time_is ∙ (f.none_left off).1
acted_idle plan (request.SetPhase group phase) plain d a idle on = idle
acted_idle plan request.Restart plain d a idle on = idle
acted_idle plan request.Fresh plain d a idle on = idle

steps_idle : (plan : Planned) (log : List Request) (plain : Plain) → AreActionsDelayed plan.rows → AreListingsDelayed plan.entries → All IsRequestDelayed log → Idle plain.work.agenda → Idle (fold (λ p asked. (step plan asked p).plain) plain log).work.agenda
steps_idle plan [] plain d e a idle = idle
steps_idle plan (asked ∷ log) plain d e a idle =
    steps_idle plan log (step plan asked plain).plain d e (λ k r lt. a (suc k) r (omega arith)) (ended_idle plan (acted plan asked plain) e (acted_idle plan asked plain d (a 0 asked (omega arith)) idle))

pub reached_nothing_due : (plan : Planned) (base : Base) (log : List Request) → AreActionsDelayed plan.rows → AreListingsDelayed plan.entries → All IsRequestDelayed log → IsNothingDue (reached plan base log).work.agenda
reached_nothing_due plan base log d e a =
    later_all (reached plan base log).work.agenda.time (reached plan base log).work.agenda.tasks (steps_idle plan log (era plan base) d e a (era_idle plan base e))
