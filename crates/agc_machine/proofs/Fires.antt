-- What fires in a tick, one task at a time.
use Rattle.std.proofs.Common.{◌≡◌, ℕ, Bool, if◌then◌else◌, suc, ◌+◌, ◌-◌, slice_index_or, List, [], ◌∷◌, ◌++◌, Option, Some, None, length, refl, ap, sym, ◌∙◌, subst, arith}
use Rattle.std.specs.Option.{is_some}
use Rattle.std.proofs.Math.Seq.{get_or-append_seam}
use Rattle.std.proofs.lemmas.List.{length-append}
use Rattle.std.proofs.lemmas.List.Sums.{fold_push}
use Rattle.agc_plan.specs.declared.reply.Alarm.{Alarm}
use Rattle.agc_plan.specs.declared.reply.Reply.TheVariants.{Ticked}
use Rattle.agc_plan.specs.declared.request.Task.{Task}
use Rattle.agc_plan.specs.declared.request.Action.{Action}
use Rattle.agc_plan.specs.declared.request.Action.TheVariants.{Nothing, Novac, Findvac, Rouse}
use Rattle.agc_plan.specs.declared.request.Action.TheVariants as action
use Rattle.agc_plan.specs.Eras.{Work}
use Rattle.agc_plan.specs.Plans.{Rows, actions_in}
use Rattle.agc_plan.specs.Jobs.{Jobs}
use Rattle.agc_plan.specs.Seats.{Seated, seated_action, seated_by}
use Rattle.agc_plan.specs.Groups.{seated_through}
use Rattle.agc_plan.specs.Steps.{Did, Fires, done, all_done, those_done, dispatched_work, later_work, raised_by, ticked, fire, fire_first, unless_alarm, fire_all}
use Rattle.agc_plan.specs.Tasks.{first_due, dispatched, later, count_due}
use Rattle.agc_plan.proofs.Alarms.{one_done, one_those}
use Rattle.agc_wait.specs.Calls.{Dispatches, Counts}
use Rattle.agc_wait.specs.Table.{waits_of}
use Rattle.agc_wait.specs.Waits.{due_now}
use Rattle.agc_wait.proofs.Dues.{count_due-is}
use Rattle.agc_phase.specs.Image.{base_of}
use Rattle.agc_machine.specs.Stands.{IsSound, Stands, Works, Performs, PerformsAll, FiresDue, FiresTick, RaisesTick, number_of, seated_in, places_done, places_all, places_ticked}
use Rattle.agc_machine.proofs.Frames.{stands_by_waits}

-- an action does the same to the jobs, with or without their core sets
seated_jobs : (act : Action) (work : Work) (places : List ℕ) → (seated_action act (seated_in work places)).jobs ≡ (done act work).work.jobs
seated_jobs Nothing work places = refl
seated_jobs (Novac priority entry) work places = refl
seated_jobs (Findvac priority entry) work places = refl
seated_jobs (Rouse at) work places = refl
seated_jobs (action.List delay task) work places = refl

-- and so do several
by_first : (act : Action) (acts : List Action) (work : Work) (places : List ℕ) → ((p : List ℕ) → (seated_by (those_done acts (done act work).work) (seated_in (done act work).work p)).jobs ≡ (all_done acts (done act work).work).work.jobs) → (o : Option Alarm) → (done act work).alarm ≡ o → (seated_by (those_done (act ∷ acts) work) (seated_in work places)).jobs ≡ (all_done (act ∷ acts) work).work.jobs
by_first act acts work places on None is =
    let start : Seated = seated_action act (seated_in work places) in
    let same : start ≡ seated_in (done act work).work start.places = ap (λ (j : Jobs). record { jobs = j; places = start.places }) (seated_jobs act work places) in
    rw is (ap (λ (s : Seated). (seated_by (those_done acts (done act work).work) s).jobs) same ∙ on start.places)
by_first act acts work places on (Some alarm) is = rw is (seated_jobs act work places)

pub seated_all : (acts : List Action) (work : Work) (places : List ℕ) → (seated_by (those_done acts work) (seated_in work places)).jobs ≡ (all_done acts work).work.jobs
seated_all [] work places = refl
seated_all (act ∷ acts) work places = by_first act acts work places (λ p. seated_all acts (done act work).work p) (done act work).alarm refl

-- after actions that raised no alarm one more is done
abbrev Goes : List Action → Action → Work → Type 0
Goes acts act work = (all_done (acts ++ act ∷ []) work ≡ done act (all_done acts work).work) × (those_done (acts ++ act ∷ []) work ≡ those_done acts work ++ act ∷ [])

goes_first : (first : Action) (acts : List Action) (act : Action) (work : Work) → (all_done (first ∷ acts) work).alarm ≡ None → ((all_done acts (done first work).work).alarm ≡ None → Goes acts act (done first work).work) → (o : Option Alarm) → (done first work).alarm ≡ o → Goes (first ∷ acts) act work
goes_first first acts act work quiet on None is =
    let (all, those) = on (rw is at quiet) in
    (rw is all, rw is (ap (λ (l : List Action). first ∷ l) those))
goes_first first acts act work quiet on (Some alarm) is = absurd (let no : Some alarm ≡ None = sym is ∙ (rw is at quiet) in cc)

pub goes : (acts : List Action) (act : Action) (work : Work) → (all_done acts work).alarm ≡ None → Goes acts act work
goes [] act work quiet = (one_done act work, one_those act work)
goes (first ∷ acts) act work quiet = goes_first first acts act work quiet (λ off. goes acts act (done first work).work off) (done first work).alarm refl

-- after an alarm nothing more is done
abbrev Stops : List Action → List Action → Work → Type 0
Stops acts rest work = (all_done (acts ++ rest) work ≡ all_done acts work) × (those_done (acts ++ rest) work ≡ those_done acts work)

stops_first : (first : Action) (acts rest : List Action) (alarm : Alarm) (work : Work) → (all_done (first ∷ acts) work).alarm ≡ Some alarm → ((all_done acts (done first work).work).alarm ≡ Some alarm → Stops acts rest (done first work).work) → (o : Option Alarm) → (done first work).alarm ≡ o → Stops (first ∷ acts) rest work
stops_first first acts rest alarm work raised on None is =
    let (all, those) = on (rw is at raised) in
    (rw is all, rw is (ap (λ (l : List Action). first ∷ l) those))
stops_first first acts rest alarm work raised on (Some other) is = (rw is refl, rw is refl)

pub stops : (acts rest : List Action) (alarm : Alarm) (work : Work) → (all_done acts work).alarm ≡ Some alarm → Stops acts rest work
stops [] rest alarm work raised = absurd (cc)
stops (first ∷ acts) rest alarm work raised = stops_first first acts rest alarm work raised (λ is. stops acts rest alarm (done first work).work is) (done first work).alarm refl

-- while there is no alarm all are done
quiet_first : (first : Action) (acts : List Action) (work : Work) → (all_done (first ∷ acts) work).alarm ≡ None → ((all_done acts (done first work).work).alarm ≡ None → those_done acts (done first work).work ≡ acts) → (o : Option Alarm) → (done first work).alarm ≡ o → those_done (first ∷ acts) work ≡ first ∷ acts
quiet_first first acts work quiet on None is = rw is (ap (λ (l : List Action). first ∷ l) (on (rw is at quiet)))
quiet_first first acts work quiet on (Some alarm) is = absurd (let no : Some alarm ≡ None = sym is ∙ (rw is at quiet) in cc)

quiet_all : (acts : List Action) (work : Work) → (all_done acts work).alarm ≡ None → those_done acts work ≡ acts
quiet_all [] work quiet = refl
quiet_all (first ∷ acts) work quiet = quiet_first first acts work quiet (λ off. quiet_all acts (done first work).work off) (done first work).alarm refl

number_quiet : (acts : List Action) (work : Work) → (all_done acts work).alarm ≡ None → number_of acts work ≡ 0
number_quiet acts work quiet = rw quiet refl

number_told : (acts : List Action) (work : Work) (alarm : Alarm) → (all_done acts work).alarm ≡ Some alarm → number_of acts work ≡ length (those_done acts work)
number_told acts work alarm told = rw told refl

-- how many are done with one more, which raises an alarm or none
one_more : (acts : List Action) (act : Action) (work : Work) → (all_done acts work).alarm ≡ None → (o : Option Alarm) → (all_done (acts ++ act ∷ []) work).alarm ≡ o → number_of (acts ++ act ∷ []) work ≡ (if is_some o then length acts + 1 else 0)
one_more acts act work quiet None told = number_quiet (acts ++ act ∷ []) work told
one_more acts act work quiet (Some alarm) told =
    number_told (acts ++ act ∷ []) work alarm told
    ∙ ap length ((goes acts act work quiet).1 ∙ ap (λ (l : List Action). l ++ act ∷ []) (quiet_all acts work quiet))
    ∙ length-append acts (act ∷ [])

-- one more is done
pub performs_more : (acts : List Action) (act : Action) (old mid new : List ℕ) (alarm : Option Alarm) (number : ℕ) → PerformsAll acts old None 0 mid → Performs act mid alarm new → number ≡ (if is_some alarm then length acts + 1 else 0) → PerformsAll (acts ++ act ∷ []) old alarm number new
performs_more acts act old mid new alarm number before performs count =
    let quiet : (work : Work) (places : List ℕ) → Stands old work places → Goes acts act work = λ work places stands. goes acts act work (sym (before.alarm_is work places stands)) in
    record {
      changes = record {
        sound = performs.changes.sound;
        same_length = performs.changes.same_length ∙ before.changes.same_length;
        same_base = performs.changes.same_base ∙ before.changes.same_base;
        stands = λ work places stands.
            let (all, those) = quiet work places stands in
            let start : Seated = seated_in work places in
            let seated : Seated = seated_by (those_done acts work) start in
            let here : Stands new (done act (all_done acts work).work).work (places_done act (all_done acts work).work seated.places) = performs.changes.stands (all_done acts work).work seated.places (before.changes.stands work places stands) in
            let seats : places_done act (all_done acts work).work seated.places ≡ places_all (acts ++ act ∷ []) work places =
            ap (λ (j : Jobs). (seated_action act (record { jobs = j; places = seated.places })).places) (sym (seated_all acts work places))
            ∙ sym (ap (λ (s : Seated). s.places) (fold_push (λ (s : Seated) (a : Action). seated_action a s) start (those_done acts work) act))
            ∙ sym (ap (λ (l : List Action). (seated_by l start).places) those) in
            subst (λ (l : List ℕ). Stands new (all_done (acts ++ act ∷ []) work).work l) seats
            (subst (λ (d : Did). Stands new d.work (places_done act (all_done acts work).work seated.places)) (sym all) here);
      };
      alarm_is = λ work places stands.
          let (all, those) = quiet work places stands in
          let seated : Seated = seated_by (those_done acts work) (seated_in work places) in
          performs.alarm_is (all_done acts work).work seated.places (before.changes.stands work places stands) ∙ sym (ap (λ (d : Did). d.alarm) all);
      number_is = λ work places stands.
          let (all, those) = quiet work places stands in
          let seated : Seated = seated_by (those_done acts work) (seated_in work places) in
          let told : alarm ≡ (all_done (acts ++ act ∷ []) work).alarm = performs.alarm_is (all_done acts work).work seated.places (before.changes.stands work places stands) ∙ sym (ap (λ (d : Did). d.alarm) all) in
          count ∙ sym (one_more acts act work (sym (before.alarm_is work places stands)) alarm (sym told));
      same_due = performs.same_due ∙ before.same_due;
    }

-- with an alarm that is all
pub performs_stopped : (acts rest : List Action) (old new : List ℕ) (alarm : Alarm) (number : ℕ) → PerformsAll acts old (Some alarm) number new → PerformsAll (acts ++ rest) old (Some alarm) number new
performs_stopped acts rest old new alarm number p =
    let over : (work : Work) (places : List ℕ) → Stands old work places → Stops acts rest work = λ work places stands. stops acts rest alarm work (sym (p.alarm_is work places stands)) in
    record {
      changes = record {
        sound = p.changes.sound;
        same_length = p.changes.same_length;
        same_base = p.changes.same_base;
        stands = λ work places stands.
            let (all, those) = over work places stands in
            subst (λ (l : List Action). Stands new (all_done (acts ++ rest) work).work (seated_by l (seated_in work places)).places) (sym those)
            (subst (λ (d : Did). Stands new d.work (places_all acts work places)) (sym all) (p.changes.stands work places stands));
      };
      alarm_is = λ work places stands. let (all, those) = over work places stands in p.alarm_is work places stands ∙ sym (ap (λ (d : Did). d.alarm) all);
      number_is = λ work places stands.
          let (all, those) = over work places stands in
          p.number_is work places stands ∙ ap (λ (o : Option Alarm). if is_some o then length (those_done acts work) else 0) (sym (ap (λ (d : Did). d.alarm) all)) ∙ ap (λ (l : List Action). if is_some (all_done (acts ++ rest) work).alarm then length l else 0) (sym those);
      same_due = p.same_due;
    }

-- what the actions of a task that was due do, and those that are done
abbrev its_done : Rows → Task → Work → Did
its_done rows task work = all_done (actions_in rows task) (dispatched_work work)

abbrev its_acts : Rows → Task → Work → List Action
its_acts rows task work = those_done (actions_in rows task) (dispatched_work work)

-- a task was due, and none of its actions raised an alarm
fire_more : (rows : Rows) (old new : Work) (fired : List Task) (acts : List (List Action)) (task : Task) → first_due old.agenda.time old.agenda.tasks ≡ Some task → (its_done rows task old).alarm ≡ None → (its_done rows task old).work ≡ new → count_due old.agenda.time old.agenda.tasks ≡ count_due new.agenda.time new.agenda.tasks + 1 → fire_all rows old fired acts ≡ fire_all rows new (fired ++ task ∷ []) (acts ++ its_acts rows task old ∷ [])
fire_more rows old new fired acts task first quiet is count =
    let more : ℕ = count_due new.agenda.time new.agenda.tasks in
    let one : count_due old.agenda.time old.agenda.tasks ≡ suc more = omega arith in
    ap (λ (n : ℕ). fire n rows old fired acts) one
    ∙ ap (λ (o : Option Task). fire_first o rows old fired acts (fire more rows)) first
    ∙ ap (λ (a : Option Alarm). unless_alarm a (its_done rows task old).work (fired ++ task ∷ []) (acts ++ its_acts rows task old ∷ []) (fire more rows)) quiet
    ∙ ap (λ (w : Work). fire more rows w (fired ++ task ∷ []) (acts ++ its_acts rows task old ∷ [])) is

-- an action raised an alarm
fire_stopped : (rows : Rows) (old : Work) (fired : List Task) (acts : List (List Action)) (task : Task) (alarm : Alarm) (more : ℕ) → first_due old.agenda.time old.agenda.tasks ≡ Some task → (its_done rows task old).alarm ≡ Some alarm → count_due old.agenda.time old.agenda.tasks ≡ suc more → ◌≡◌ {A = Fires} (fire_all rows old fired acts) (record { work = (its_done rows task old).work; fired = fired ++ task ∷ []; acts = acts ++ its_acts rows task old ∷ []; alarm = Some alarm })
fire_stopped rows old fired acts task alarm more first raised count =
    ap (λ (n : ℕ). fire n rows old fired acts) count
    ∙ ap (λ (o : Option Task). fire_first o rows old fired acts (fire more rows)) first
    ∙ ap (λ (a : Option Alarm). unless_alarm a (its_done rows task old).work (fired ++ task ∷ []) (acts ++ its_acts rows task old ∷ []) (fire more rows)) raised

last_pushed : (acts : List (List Action)) (its : List Action) → slice_index_or (acts ++ its ∷ []) (length (acts ++ its ∷ []) - 1) [] ≡ its
last_pushed acts its =
    let long : length (acts ++ its ∷ []) ≡ length acts + 1 = length-append acts (its ∷ []) in
    let at : length (acts ++ its ∷ []) - 1 ≡ length acts = omega (arith, long) in
    ap (λ (i : ℕ). slice_index_or (acts ++ its ∷ []) i []) at ∙ get_or-append_seam acts its [] []

-- these tasks fired so far; the rest of the work fires what the whole fires
pub record GoesOn (rows : Rows) (words : List ℕ) (fired : List Task) (start : Seated) (whole : Fires) : Type 0 where
  pub rest : Work
  pub acts : List (List Action)
  pub stands : Stands words rest (seated_through acts start).places
  pub jobs_is : (seated_through acts start).jobs ≡ rest.jobs
  pub fires : fire_all rows rest fired acts ≡ whole

-- all that was due fired, or an action raised an alarm
pub record Ends (words : List ℕ) (fired : List Task) (alarm : Option Alarm) (number : ℕ) (whole : Fires) (start : Seated) : Type 0 where
  pub stands : Stands words whole.work (seated_through whole.acts start).places
  pub fired_is : fired ≡ whole.fired
  pub alarm_is : alarm ≡ whole.alarm
  pub number_is : number ≡ raised_by whole

-- nothing has fired yet
pub begins_firing : (rows : Rows) (words : List ℕ) (work : Work) (places : List ℕ) → Stands words work places → GoesOn rows words [] (seated_in work places) (fire_all rows work [] [])
begins_firing rows words work places stands = record { rest = work; acts = []; stands = stands; jobs_is = refl; fires = refl }

-- the actions of one more task
record Taken (rows : Rows) (words : List ℕ) (alarm : Option Alarm) (number : ℕ) (rest : Work) (task : Task) (seated : Seated) : Type 0 where
  pub stands : Stands words (its_done rows task rest).work seated.places
  pub jobs_is : seated.jobs ≡ (its_done rows task rest).work.jobs
  pub alarm_is : alarm ≡ (its_done rows task rest).alarm
  pub number_is : number ≡ number_of (actions_in rows task) (dispatched_work rest)

take_row : (rows : Rows) (rest : Work) (task : Task) (start : Seated) (acts : List (List Action)) (old mid new : List ℕ) (alarm : Option Alarm) (number : ℕ) → Stands old rest (seated_through acts start).places → (seated_through acts start).jobs ≡ rest.jobs → Dispatches old task mid → PerformsAll (actions_in rows task) mid alarm number new → Taken rows new alarm number rest task (seated_through (acts ++ its_acts rows task rest ∷ []) start)
take_row rows rest task start acts old mid new alarm number stands jobs dispatches performs =
    let its : List Action = actions_in rows task in
    let here : Work = dispatched_work rest in
    let seated : Seated = seated_through acts start in
    let before : Stands mid here seated.places = stands_by_waits dispatched old mid dispatches.others dispatches.taken rest seated.places stands in
    let seats : seated_by (its_acts rows task rest) (seated_in here seated.places) ≡ seated_through (acts ++ its_acts rows task rest ∷ []) start = ap (λ (j : Jobs). seated_by (its_acts rows task rest) (record { jobs = j; places = seated.places })) (sym jobs) ∙ sym (fold_push (λ (s : Seated) (l : List Action). seated_by l s) start acts (its_acts rows task rest)) in
    record {
      stands = subst (λ (s : Seated). Stands new (its_done rows task rest).work s.places) seats (performs.changes.stands here seated.places before);
      jobs_is = sym (ap (λ (s : Seated). s.jobs) seats) ∙ seated_all its here seated.places;
      alarm_is = performs.alarm_is here seated.places before;
      number_is = performs.number_is here seated.places before;
    }

take_one : (rows : Rows) (rest : Work) (task : Task) (start : Seated) (acts : List (List Action)) (its : List Action) (old mid new : List ℕ) (alarm : Option Alarm) (number : ℕ) → Stands old rest (seated_through acts start).places → (seated_through acts start).jobs ≡ rest.jobs → Dispatches old task mid → its ≡ actions_in rows task → PerformsAll its mid alarm number new → Taken rows new alarm number rest task (seated_through (acts ++ its_acts rows task rest ∷ []) start)
take_one rows rest task start acts its old mid new alarm number stands jobs dispatches is performs =
    take_row rows rest task start acts old mid new alarm number stands jobs dispatches (subst (λ (l : List Action). PerformsAll l mid alarm number new) is performs)

-- one more task fired, whose actions raised no alarm
pub onward : (rows : Rows) (start : Seated) (whole : Fires) (fired : List Task) (task : Task) (its : List Action) (old mid new : List ℕ) → GoesOn rows old fired start whole → Dispatches old task mid → its ≡ actions_in rows task → PerformsAll its mid None 0 new → GoesOn rows new (fired ++ task ∷ []) start whole
onward rows start whole fired task its old mid new on dispatches is performs =
    let acts : List (List Action) = on.acts ++ its_acts rows task on.rest ∷ [] in
    let t : Taken rows new None 0 on.rest task (seated_through acts start) = take_one rows on.rest task start on.acts its old mid new None 0 on.stands on.jobs_is dispatches is performs in
    let v : Work = (its_done rows task on.rest).work in
    let before : count_due on.rest.agenda.time on.rest.agenda.tasks ≡ due_now (waits_of old) = count_due-is (waits_of old) on.rest.agenda on.stands.agenda in
    let after : count_due v.agenda.time v.agenda.tasks ≡ due_now (waits_of new) = count_due-is (waits_of new) v.agenda t.stands.agenda in
    let fewer : due_now (waits_of old) ≡ due_now (waits_of mid) + 1 = dispatches.fewer_due in
    let same : due_now (waits_of new) ≡ due_now (waits_of mid) = performs.same_due in
    let count : count_due on.rest.agenda.time on.rest.agenda.tasks ≡ count_due v.agenda.time v.agenda.tasks + 1 = omega arith in
    record {
      rest = v;
      acts = acts;
      stands = t.stands;
      jobs_is = t.jobs_is;
      fires = sym (fire_more rows on.rest v fired on.acts task (dispatches.first on.rest.agenda on.stands.agenda) (sym t.alarm_is) refl count) ∙ on.fires;
    }

-- one more task fired, and one of its actions raised an alarm
pub stopped : (rows : Rows) (start : Seated) (whole : Fires) (fired : List Task) (task : Task) (its : List Action) (old mid new : List ℕ) (alarm : Alarm) (number : ℕ) → GoesOn rows old fired start whole → Dispatches old task mid → its ≡ actions_in rows task → PerformsAll its mid (Some alarm) number new → Ends new (fired ++ task ∷ []) (Some alarm) number whole start
stopped rows start whole fired task its old mid new alarm number on dispatches is performs =
    let acts : List (List Action) = on.acts ++ its_acts rows task on.rest ∷ [] in
    let t : Taken rows new (Some alarm) number on.rest task (seated_through acts start) = take_one rows on.rest task start on.acts its old mid new (Some alarm) number on.stands on.jobs_is dispatches is performs in
    let before : count_due on.rest.agenda.time on.rest.agenda.tasks ≡ due_now (waits_of old) = count_due-is (waits_of old) on.rest.agenda on.stands.agenda in
    let fewer : due_now (waits_of old) ≡ due_now (waits_of mid) + 1 = dispatches.fewer_due in
    let count : count_due on.rest.agenda.time on.rest.agenda.tasks ≡ suc (due_now (waits_of mid)) = omega arith in
    let same : whole ≡ record { work = (its_done rows task on.rest).work; fired = fired ++ task ∷ []; acts = acts; alarm = Some alarm } = sym on.fires ∙ fire_stopped rows on.rest fired on.acts task alarm (due_now (waits_of mid)) (dispatches.first on.rest.agenda on.stands.agenda) (sym t.alarm_is) count in
    let last : length (slice_index_or acts (length acts - 1) []) ≡ length (its_acts rows task on.rest) = ap length (last_pushed on.acts (its_acts rows task on.rest)) in
    subst (λ (f : Fires). Ends new (fired ++ task ∷ []) (Some alarm) number f start) (sym same)
    (record { stands = t.stands; fired_is = refl; alarm_is = refl; number_is = t.number_is ∙ number_told (actions_in rows task) (dispatched_work on.rest) alarm (sym t.alarm_is) ∙ sym last })

-- nothing is due any more
pub finished : (rows : Rows) (start : Seated) (whole : Fires) (fired : List Task) (words : List ℕ) → GoesOn rows words fired start whole → due_now (waits_of words) ≡ 0 → Ends words fired None 0 whole start
finished rows start whole fired words on none_due =
    let count : count_due on.rest.agenda.time on.rest.agenda.tasks ≡ 0 = count_due-is (waits_of words) on.rest.agenda on.stands.agenda ∙ none_due in
    let same : whole ≡ record { work = on.rest; fired = fired; acts = on.acts; alarm = None } = sym on.fires ∙ ap (λ (n : ℕ). fire n rows on.rest fired on.acts) count in
    subst (λ (f : Fires). Ends words fired None 0 f start) (sym same) (record { stands = on.stands; fired_is = refl; alarm_is = refl; number_is = refl })

-- what is due fired, from what it did to each work
pub fires_by : (rows : Rows) (old : List ℕ) (fired : List Task) (alarm : Option Alarm) (number : ℕ) (new : List ℕ) → IsSound new → length new ≡ length old → base_of new ≡ base_of old → (alarm ≡ None → due_now (waits_of new) ≡ 0) → ((work : Work) (places : List ℕ) → Stands old work places → Ends new fired alarm number (fire_all rows work [] []) (seated_in work places)) → FiresDue rows old fired alarm number new
fires_by rows old fired alarm number new sound same_length same_base none_due ends = record {
  changes = record { sound = sound; same_length = same_length; same_base = same_base; stands = λ work places stands. (ends work places stands).stands };
  fired_is = λ work places stands. (ends work places stands).fired_is;
  alarm_is = λ work places stands. (ends work places stands).alarm_is;
  number_is = λ work places stands. (ends work places stands).number_is;
  none_due = none_due;
}

-- a centisecond passed, and what was due fired
pub works_ticked : (rows : Rows) (old mid : List ℕ) (answer : Bool) (fired : List Task) (alarm : Option Alarm) (number : ℕ) (new : List ℕ) → Counts old answer mid → FiresDue rows mid fired alarm number new → base_of mid ≡ base_of old → Works (ticked rows) (places_ticked rows) old (Ticked alarm) new
works_ticked rows old mid answer fired alarm number new counts fires same_base =
    let later_stands : (work : Work) (places : List ℕ) → Stands old work places → Stands mid (later_work work) places = stands_by_waits later old mid counts.others counts.counted in
    record {
      changes = record {
        sound = fires.changes.sound;
        same_length = fires.changes.same_length ∙ counts.others.same_length;
        same_base = fires.changes.same_base ∙ same_base;
        stands = λ work places stands. fires.changes.stands (later_work work) places (later_stands work places stands);
      };
      reply_is = λ work places stands. ap Ticked (fires.alarm_is (later_work work) places (later_stands work places stands));
    }

-- and what fired then
pub fires_ticked : (rows : Rows) (old mid : List ℕ) (answer : Bool) (fired : List Task) (alarm : Option Alarm) (number : ℕ) (new : List ℕ) → Counts old answer mid → FiresDue rows mid fired alarm number new → FiresTick rows old fired
fires_ticked rows old mid answer fired alarm number new counts fires =
    λ work places stands.
    fires.fired_is (later_work work) places (stands_by_waits later old mid counts.others counts.counted work places stands)

-- and which action raised an alarm then
pub raises_ticked : (rows : Rows) (old mid : List ℕ) (answer : Bool) (fired : List Task) (alarm : Option Alarm) (number : ℕ) (new : List ℕ) → Counts old answer mid → FiresDue rows mid fired alarm number new → RaisesTick rows old number
raises_ticked rows old mid answer fired alarm number new counts fires =
    λ work places stands.
    fires.number_is (later_work work) places (stands_by_waits later old mid counts.others counts.counted work places stands)
