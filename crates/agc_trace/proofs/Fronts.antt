-- In each state that a run reaches the running job has core set 0.
use Rattle.std.proofs.Common.{◌≡◌, ◌⊎◌, ℕ, zero, suc, ◌==◌, true, List, [], ◌∷◌, ◌++◌, Option, Some, None, slice_set, slice_index_or, refl, sym, ap, subst, ◌∙◌, inl, inr, arith}
use Rattle.std.proofs.lemmas.Bool.{cases_Bool}
use Rattle.std.proofs.lemmas.Grind.{common_steps}
use Rattle.std.proofs.lemmas.List.Sums.{fold_push}
use Rattle.std.specs.List.{fold}
use Rattle.agc_plan.specs.declared.reply.Alarm.{Alarm}
use Rattle.agc_plan.specs.declared.request.Action.{Action}
use Rattle.agc_plan.specs.declared.request.Action.TheVariants as action
use Rattle.agc_plan.specs.declared.request.Entry.{Entry}
use Rattle.agc_plan.specs.declared.request.Request.{Request}
use Rattle.agc_plan.specs.declared.request.Request.TheVariants as request
use Rattle.agc_plan.specs.declared.request.Task.{Task}
use Rattle.agc_plan.specs.Base.{Base}
use Rattle.agc_plan.specs.Eras.{Work, no_work, actions_from}
use Rattle.agc_plan.specs.Jobs.{Job, Jobs, no_jobs, least_unused, least_unowned, new_job, establish_at, findvac_at, end_of_job, sleep, rouse, prio, change, store}
use Rattle.agc_plan.specs.Places.{place_of, with_new, without, fronted, placed_end}
use Rattle.agc_plan.specs.Plans.{Planned, Rows, actions_in}
use Rattle.agc_plan.specs.Seats.{Seated, Placed, seated_new, seated_action, seated_by, places_acted, places_after, era_places, placed}
use Rattle.agc_plan.specs.Groups.{placed_step}
use Rattle.agc_plan.specs.Groups.{seated_through}
use Rattle.agc_plan.specs.Groups.{no_places}
use Rattle.agc_plan.specs.Steps.{Plain, Did, Fires, done, all_done, those_done, dispatched_work, later_work, unless_alarm, fire_first, fire, tick_fires, acted, base_after, begins, era, step, reached}
use Rattle.agc_plan.specs.Tasks.{first_due, count_due}
use Rattle.agc_machine.specs.Stands.{seated_in}
use Rattle.agc_machine.proofs.Fires.{seated_all}
use Rattle.agc_machine.proofs.Serving.{placed_plain}

-- this number is at its first place, or it has none
found : (n : ℕ) (ys : List ℕ) (d : ℕ) → (slice_index_or ys (place_of n ys) d ≡ n) ⊎ ((slice_index_or ys (place_of n ys) d ≡ d) × (slice_set ys (place_of n ys) d ≡ ys))
found n [] d = inr (refl, refl)
found n (y ∷ ys) d = elim (cases_Bool (y == n)) [
  | inl here ↦ let same : y ≡ n = grind (arith, common_steps) in rw here (inl same)
  | inr off ↦ rw off (elim (found n ys d) [
    | inl is ↦ inl is
    | inr none ↦ inr (none.0, ap (λ (l : List ℕ). y ∷ l) none.1)
  ])
]

head_front : (n : ℕ) (zs : List ℕ) → fronted (Some n) (n ∷ zs) ≡ n ∷ zs
head_front n zs = let same : (n == n) ≡ true = grind (arith, common_steps) in rw same refl

twice_some : (n : ℕ) (xs : List ℕ) → fronted (Some n) (fronted (Some n) xs) ≡ fronted (Some n) xs
twice_some n [] = refl
twice_some n (x ∷ ys) = elim (cases_Bool (x == n)) [
  | inl here ↦
      let stays : fronted (Some n) (x ∷ ys) ≡ x ∷ ys = rw here refl in
      ap (fronted (Some n)) stays
  | inr off ↦ elim (found n ys x) [
    | inl is ↦
        let first : fronted (Some n) (x ∷ ys) ≡ n ∷ slice_set ys (place_of n ys) x = rw off (ap (λ (k : ℕ). k ∷ slice_set ys (place_of n ys) x) is) in
        ap (fronted (Some n)) first ∙ head_front n (slice_set ys (place_of n ys) x) ∙ sym first
    | inr none ↦
        let stays : fronted (Some n) (x ∷ ys) ≡ x ∷ ys = rw off (ap (λ (k : ℕ). k ∷ slice_set ys (place_of n ys) x) none.0 ∙ ap (λ (l : List ℕ). x ∷ l) none.1) in
        ap (fronted (Some n)) stays
  ]
]

twice : (r : Option ℕ) (xs : List ℕ) → fronted r (fronted r xs) ≡ fronted r xs
twice None xs = refl
twice (Some n) xs = twice_some n xs

abbrev pub Fronts : Jobs → List ℕ → Type 0
Fronts jobs places = fronted jobs.running places ≡ places

-- a new job, if one was established
new_fronts : (o : Option ℕ) (job : Job) (jobs : Jobs) (places : List ℕ) → Fronts jobs places → Fronts (establish_at o job jobs).jobs (seated_new (establish_at o job jobs) places).places
new_fronts None job jobs places h = h
new_fronts (Some n) job jobs places h = twice (establish_at (Some n) job jobs).jobs.running (with_new n places)

found_fronts : (o : Option ℕ) (priority : ℕ) (entry : Entry) (jobs : Jobs) (places : List ℕ) → Fronts jobs places → Fronts (findvac_at o priority entry jobs).jobs (seated_new (findvac_at o priority entry jobs) places).places
found_fronts None priority entry jobs places h = h
found_fronts (Some area) priority entry jobs places h = new_fronts (least_unused 1 jobs.slots) (new_job priority entry area) jobs places h

-- an action, and several
abbrev FrontsIn : Seated → Type 0
FrontsIn s = Fronts s.jobs s.places

action_fronts : (act : Action) (s : Seated) → FrontsIn s → FrontsIn (seated_action act s)
action_fronts action.Nothing s h = h
action_fronts (action.Novac priority entry) s h = new_fronts (least_unused 1 s.jobs.slots) (new_job priority entry 0) s.jobs s.places h
action_fronts (action.Findvac priority entry) s h = found_fronts (least_unowned 5 1 s.jobs.slots) priority entry s.jobs s.places h
action_fronts (action.Rouse at) s h = twice (rouse at s.jobs).jobs.running s.places
action_fronts (action.List delay task) s h = h

by_fronts : (acts : List Action) (s : Seated) → FrontsIn s → FrontsIn (seated_by acts s)
by_fronts [] s h = h
by_fronts (act ∷ acts) s h = by_fronts acts (seated_action act s) (action_fronts act s h)

through_fronts : (acts : List (List Action)) (s : Seated) → FrontsIn s → FrontsIn (seated_through acts s)
through_fronts [] s h = h
through_fronts (its ∷ acts) s h = through_fronts acts (seated_by its s) (by_fronts its s h)

-- their jobs are those of the plain state
action_jobs : (act : Action) (s : Seated) (work : Work) → s.jobs ≡ work.jobs → (seated_action act s).jobs ≡ (done act work).work.jobs
action_jobs action.Nothing s work is = is
action_jobs (action.Novac priority entry) s work is = ap (λ (j : Jobs). (establish_at (least_unused 1 j.slots) (new_job priority entry 0) j).jobs) is
action_jobs (action.Findvac priority entry) s work is = ap (λ (j : Jobs). (findvac_at (least_unowned 5 1 j.slots) priority entry j).jobs) is
action_jobs (action.Rouse at) s work is = ap (λ (j : Jobs). (rouse at j).jobs) is
action_jobs (action.List delay task) s work is = is

era_jobs : (acts : List Action) (s : Seated) (work : Work) → s.jobs ≡ work.jobs → (seated_by acts s).jobs ≡ (fold (λ (w : Work) (act : Action). (done act w).work) work acts).jobs
era_jobs [] s work is = is
era_jobs (act ∷ acts) s work is = era_jobs acts (seated_action act s) (done act work).work (action_jobs act s work is)

era_fronts : (plan : Planned) (base : Base) → Fronts (era plan base).work.jobs (era_places plan base)
era_fronts plan base =
    let empty : Seated = record { jobs = no_jobs plan.sets; places = no_places plan.sets } in
    let acts : List Action = actions_from plan.entries 1 base.phases in
    subst (λ (j : Jobs). Fronts j (era_places plan base)) (era_jobs acts empty (no_work plan.sets) refl) (by_fronts acts empty refl)

-- and through a tick
abbrev Follows : List (List Action) → Seated → Work → Type 0
Follows acts start work = (seated_through acts start).jobs ≡ work.jobs

abbrev FollowsIn : Seated → Fires → Type 0
FollowsIn start fires = Follows fires.acts start fires.work

one_follows : (rows : Rows) (task : Task) (start : Seated) (acts : List (List Action)) (work : Work) → Follows acts start work → Follows (acts ++ those_done (actions_in rows task) (dispatched_work work) ∷ []) start (all_done (actions_in rows task) (dispatched_work work)).work
one_follows rows task start acts work is =
    let its : List Action = actions_in rows task in
    let here : Work = dispatched_work work in
    let seated : Seated = seated_through acts start in
    ap (λ (s : Seated). s.jobs) (fold_push (λ (s : Seated) (l : List Action). seated_by l s) start acts (those_done its here))
    ∙ ap (λ (j : Jobs). (seated_by (those_done its here) (record { jobs = j; places = seated.places })).jobs) is
    ∙ seated_all its here seated.places

unless_follows : (start : Seated) (o : Option Alarm) (work : Work) (fired : List Task) (acts : List (List Action)) (again : Work → List Task → List (List Action) → Fires) → ((w : Work) (f : List Task) (a : List (List Action)) → Follows a start w → FollowsIn start (again w f a)) → Follows acts start work → FollowsIn start (unless_alarm o work fired acts again)
unless_follows start None work fired acts again on is = on work fired acts is
unless_follows start (Some alarm) work fired acts again on is = is

first_follows : (start : Seated) (o : Option Task) (rows : Rows) (work : Work) (fired : List Task) (acts : List (List Action)) (again : Work → List Task → List (List Action) → Fires) → ((w : Work) (f : List Task) (a : List (List Action)) → Follows a start w → FollowsIn start (again w f a)) → Follows acts start work → FollowsIn start (fire_first o rows work fired acts again)
first_follows start None rows work fired acts again on is = is
first_follows start (Some task) rows work fired acts again on is =
    let its : List Action = actions_in rows task in
    let here : Work = dispatched_work work in
    let did : Did = all_done its here in
    unless_follows start did.alarm did.work (fired ++ task ∷ []) (acts ++ those_done its here ∷ []) again on (one_follows rows task start acts work is)

fire_follows : (start : Seated) (more : ℕ) (rows : Rows) (work : Work) (fired : List Task) (acts : List (List Action)) → Follows acts start work → FollowsIn start (fire more rows work fired acts)
fire_follows start zero rows work fired acts is = is
fire_follows start (suc more) rows work fired acts is = first_follows start (first_due work.agenda.time work.agenda.tasks) rows work fired acts (fire more rows) (fire_follows start more rows) is

tick_fronts : (rows : Rows) (work : Work) (places : List ℕ) → Fronts work.jobs places → Fronts (tick_fires rows work).work.jobs (seated_through (tick_fires rows work).acts (seated_in work places)).places
tick_fronts rows work places h =
    let here : Work = later_work work in
    let start : Seated = seated_in work places in
    let fires : Fires = tick_fires rows work in
    let follows = fire_follows start (count_due here.agenda.time here.agenda.tasks) rows here [] [] refl in
    subst (λ (j : Jobs). Fronts j (seated_through fires.acts start).places) follows (through_fronts fires.acts start h)

-- a request
end_fronts : (o : Option ℕ) (jobs : Jobs) (places : List ℕ) → jobs.running ≡ o → Fronts jobs places → Fronts (end_of_job jobs).jobs (placed_end o (end_of_job jobs).jobs.running places)
end_fronts None jobs places is h =
    let same : (end_of_job jobs).jobs ≡ jobs = rw is refl in
    ap (λ (j : Jobs). fronted j.running places) same ∙ h
end_fronts (Some n) jobs places is h = twice (end_of_job jobs).jobs.running (without n places)

store_runs : (o : Option ℕ) (place word : ℕ) (jobs : Jobs) → jobs.running ≡ o → (store place word jobs).jobs.running ≡ jobs.running
store_runs None place word jobs is = rw is refl
store_runs (Some n) place word jobs is = rw is refl

acted_fronts : (plan : Planned) (asked : Request) (plain : Plain) (places : List ℕ) → Fronts plain.work.jobs places → Fronts (acted plan asked plain).plain.work.jobs (places_acted plan asked plain places)
acted_fronts plan (request.Novac priority entry) plain places h = new_fronts (least_unused 1 plain.work.jobs.slots) (new_job priority entry 0) plain.work.jobs places h
acted_fronts plan (request.Findvac priority entry) plain places h = found_fronts (least_unowned 5 1 plain.work.jobs.slots) priority entry plain.work.jobs places h
acted_fronts plan request.EndOfJob plain places h = end_fronts plain.work.jobs.running plain.work.jobs places refl h
acted_fronts plan (request.Sleep at) plain places h = twice (sleep at plain.work.jobs).jobs.running places
acted_fronts plan (request.Rouse at) plain places h = twice (rouse at plain.work.jobs).jobs.running places
acted_fronts plan (request.Prio priority) plain places h = twice (prio priority plain.work.jobs).jobs.running places
acted_fronts plan request.Change plain places h = twice (change plain.work.jobs).jobs.running places
acted_fronts plan (request.Store place word) plain places h = ap (λ (r : Option ℕ). fronted r places) (store_runs plain.work.jobs.running place word plain.work.jobs refl) ∙ h
acted_fronts plan (request.List delay task) plain places h = h
acted_fronts plan request.Tick plain places h = tick_fronts plan.rows plain.work places h
acted_fronts plan (request.SetPhase group phase) plain places h = h
acted_fronts plan request.Restart plain places h = h
acted_fronts plan request.Fresh plain places h = h

step_fronts : (plan : Planned) (asked : Request) (plain : Plain) (places : List ℕ) → Fronts plain.work.jobs places → Fronts (step plan asked plain).plain.work.jobs (places_after plan asked plain places)
step_fronts plan asked plain places h = elim (cases_Bool (begins (acted plan asked plain).reply)) [
  | inl over ↦ rw over (era_fronts plan (base_after (acted plan asked plain).reply (acted plan asked plain).plain.base))
  | inr on ↦ rw on (acted_fronts plan asked plain places h)
]

steps_front : (plan : Planned) (log : List Request) (p : Placed) → Fronts p.plain.work.jobs p.places → Fronts (fold (λ (q : Placed) (asked : Request). placed_step plan asked q) p log).plain.work.jobs (fold (λ (q : Placed) (asked : Request). placed_step plan asked q) p log).places
steps_front plan [] p h = h
steps_front plan (asked ∷ log) p h = steps_front plan log (placed_step plan asked p) (step_fronts plan asked p.plain p.places h)

pub places_front : (plan : Planned) (base : Base) (log : List Request) → Fronts (reached plan base log).work.jobs (placed plan base log).places
places_front plan base log =
    subst (λ (p : Plain). Fronts p.work.jobs (placed plan base log).places) (placed_plain plan base log)
    (steps_front plan log (record { plain = era plan base; places = era_places plan base }) (era_fronts plan base))
