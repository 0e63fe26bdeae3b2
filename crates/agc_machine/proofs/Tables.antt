-- Which answer has an alarm.
use Rattle.std.proofs.Common.{◌≡◌, ◌↔◌, ℕ, Bool, true, false, if◌then◌else◌, List, Option, Some, None, Ok, Err, refl, sym, ap, subst, inl, inr, ◌∙◌}
use Rattle.std.specs.Option.{option_map_or}
use Rattle.agc_plan.specs.declared.reply.Alarm.{Alarm}
use Rattle.agc_plan.specs.declared.reply.Alarm.TheVariants.{A1201, A1202, A1203}
use Rattle.agc_plan.specs.declared.reply.Reply.{Reply}
use Rattle.agc_plan.specs.declared.reply.Reply.TheVariants.{Alarmed, Listed, Ticked}
use Rattle.agc_plan.specs.declared.request.Entry.{Entry}
use Rattle.agc_plan.specs.declared.request.Request.{Request}
use Rattle.agc_plan.specs.declared.request.Request.TheVariants as request
use Rattle.agc_plan.specs.Jobs.{Job, Jobs, least_unused, least_unowned, new_job, establish_at, findvac_at, end_of_job, sleep, rouse, prio, change, store, sleeper_from}
use Rattle.agc_plan.specs.Tasks.{has_room}
use Rattle.agc_plan.specs.Laws.{Misses, EndsByLast, as_action}
use Rattle.agc_plan.specs.Steps.{Plain, later_work, fired_in, step}
use Rattle.agc_plan.specs.Plans.{Planned}
use Rattle.agc_plan.proofs.Alarms.{request_alarmed, tick_ends}
use Rattle.agc_plan.proofs.Searches.{option_cases}
use Rattle.agc_plan.proofs.Steady.{reached_sets}
use Rattle.agc_machine.specs.declared.answer.Refusal.{Refusal}
use Rattle.agc_machine.specs.Machines.{Machined, plain_of, stepped, refusal_of, answer_of, fired_of}
use Rattle.agc_machine.specs.Laws.{FindsFull}

-- the plan's law over the requests, in the words of the tables
pub misses_full : (m : Machined) (asked : Request) (alarm : Alarm) → Misses alarm (as_action asked) (plain_of m).work ↔ FindsFull alarm asked m
misses_full m (request.Novac priority entry) A1202 =
    let all = reached_sets m.plan m.base m.log in
    (λ e. e ∙ all, λ e. e ∙ sym all)
misses_full m (request.Findvac priority entry) A1202 =
    let all = reached_sets m.plan m.base m.log in
    (λ e. (e.0, e.1 ∙ all), λ e. (e.0, e.1 ∙ sym all))
misses_full m (request.Findvac priority entry) A1201 = (λ e. e, λ e. e)
misses_full m (request.List delay task) A1203 = (λ e. e, λ e. e)
misses_full m asked A1201 = (λ e. e, λ e. e)
misses_full m asked A1202 = (λ e. e, λ e. e)
misses_full m asked A1203 = (λ e. e, λ e. e)

-- an answer is a reply only where there is no refusal
replied : (refusal : Option Refusal) (reply told : Reply) → (option_map_or Err refusal (Ok reply) ≡ Ok told) ↔ ((refusal ≡ None) × (reply ≡ told))
replied None reply told = (λ e. (refl, cc), λ e. ap Ok e.1)
replied (Some why) reply told = (λ e. absurd (let no : Err why ≡ Ok told = e in cc), λ e. absurd (let no : Some why ≡ None = e.0 in cc))

pub answer_alarmed : (m : Machined) (asked : Request) (alarm : Alarm) → (answer_of m asked ≡ Ok (Alarmed alarm)) ↔ ((refusal_of m asked ≡ None) × FindsFull alarm asked m)
answer_alarmed m asked alarm =
    let is = replied (refusal_of m asked) (stepped m asked).reply (Alarmed alarm) in
    let told = request_alarmed m.plan m.base m.log asked alarm in
    let full = misses_full m asked alarm in
    (λ e. ((is.0 e).0, full.0 (told.0 (is.0 e).1)), λ e. is.1 (e.0, told.1 (full.1 e.1)))

-- only a tick is answered as a tick
established_ticks : (o : Option ℕ) (job : Job) (jobs : Jobs) (told : Option Alarm) → (establish_at o job jobs).reply ≡ Ticked told → ⊥
established_ticks None job jobs told e = cc
established_ticks (Some n) job jobs told e = cc

found_ticks : (o : Option ℕ) (priority : ℕ) (entry : Entry) (jobs : Jobs) (told : Option Alarm) → (findvac_at o priority entry jobs).reply ≡ Ticked told → ⊥
found_ticks None priority entry jobs told e = cc
found_ticks (Some area) priority entry jobs told e = established_ticks (least_unused 1 jobs.slots) (new_job priority entry area) jobs told e

end_ticks : (slots : List (Option Job)) (running : Option ℕ) (told : Option Alarm) → (end_of_job (record { slots = slots; running = running })).reply ≡ Ticked told → ⊥
end_ticks slots None told e = cc
end_ticks slots (Some n) told e = cc

sleep_ticks : (at : ℕ) (slots : List (Option Job)) (running : Option ℕ) (told : Option Alarm) → (sleep at (record { slots = slots; running = running })).reply ≡ Ticked told → ⊥
sleep_ticks at slots None told e = cc
sleep_ticks at slots (Some n) told e = cc

prio_ticks : (priority : ℕ) (slots : List (Option Job)) (running : Option ℕ) (told : Option Alarm) → (prio priority (record { slots = slots; running = running })).reply ≡ Ticked told → ⊥
prio_ticks priority slots None told e = cc
prio_ticks priority slots (Some n) told e = cc

change_ticks : (slots : List (Option Job)) (running : Option ℕ) (told : Option Alarm) → (change (record { slots = slots; running = running })).reply ≡ Ticked told → ⊥
change_ticks slots None told e = cc
change_ticks slots (Some n) told e = cc

store_ticks : (place word : ℕ) (slots : List (Option Job)) (running : Option ℕ) (told : Option Alarm) → (store place word (record { slots = slots; running = running })).reply ≡ Ticked told → ⊥
store_ticks place word slots None told e = cc
store_ticks place word slots (Some n) told e = cc

rouse_ticks : (at : ℕ) (jobs : Jobs) (told : Option Alarm) → (rouse at jobs).reply ≡ Ticked told → ⊥
rouse_ticks at jobs told e = elim (option_cases (sleeper_from 1 at jobs.slots)) [
  | inl found ↦ cc
  | inr off ↦ cc
]

listed_ticks : (room : Bool) (told : Option Alarm) → (if room then Listed else Alarmed A1203) ≡ Ticked told → ⊥
listed_ticks true told e = cc
listed_ticks false told e = cc

is_tick : (plan : Planned) (asked : Request) (plain : Plain) (told : Option Alarm) → (step plan asked plain).reply ≡ Ticked told → asked ≡ request.Tick
is_tick plan request.Tick plain told e = refl
is_tick plan (request.Novac priority entry) plain told e = absurd (established_ticks (least_unused 1 plain.work.jobs.slots) (new_job priority entry 0) plain.work.jobs told e)
is_tick plan (request.Findvac priority entry) plain told e = absurd (found_ticks (least_unowned 5 1 plain.work.jobs.slots) priority entry plain.work.jobs told e)
is_tick plan request.EndOfJob plain told e = absurd (end_ticks plain.work.jobs.slots plain.work.jobs.running told e)
is_tick plan (request.Sleep at) plain told e = absurd (sleep_ticks at plain.work.jobs.slots plain.work.jobs.running told e)
is_tick plan (request.Rouse at) plain told e = absurd (rouse_ticks at plain.work.jobs told e)
is_tick plan (request.Prio priority) plain told e = absurd (prio_ticks priority plain.work.jobs.slots plain.work.jobs.running told e)
is_tick plan request.Change plain told e = absurd (change_ticks plain.work.jobs.slots plain.work.jobs.running told e)
is_tick plan (request.Store place word) plain told e = absurd (store_ticks place word plain.work.jobs.slots plain.work.jobs.running told e)
is_tick plan (request.List delay task) plain told e = absurd (listed_ticks (has_room plain.work.agenda) told e)
is_tick plan (request.SetPhase group phase) plain told e = absurd (cc)
is_tick plan request.Restart plain told e = absurd (cc)
is_tick plan request.Fresh plain told e = absurd (cc)

-- what fires in a request that isn't refused
fired_served : (m : Machined) (asked : Request) → refusal_of m asked ≡ None → fired_of m asked ≡ fired_in m.plan asked (plain_of m)
fired_served m asked e = rw e refl

ticked_ends : (m : Machined) (asked : Request) (told : Option Alarm) → asked ≡ request.Tick → refusal_of m asked ≡ None → (stepped m asked).reply ≡ Ticked told → EndsByLast m.plan.rows (later_work (plain_of m).work) (fired_of m asked) told
ticked_ends m asked told is served e =
    let ends = tick_ends m.plan m.base m.log told (ap (λ (r : Request). (stepped m r).reply) (sym is) ∙ e) in
    subst (λ tasks. EndsByLast m.plan.rows (later_work (plain_of m).work) tasks told) (ap (λ (r : Request). fired_in m.plan r (plain_of m)) (sym is) ∙ sym (fired_served m asked served)) ends

pub answer_ticked : (m : Machined) (asked : Request) (told : Option Alarm) → answer_of m asked ≡ Ok (Ticked told) → (asked ≡ request.Tick) × EndsByLast m.plan.rows (later_work (plain_of m).work) (fired_of m asked) told
answer_ticked m asked told e =
    let is = (replied (refusal_of m asked) (stepped m asked).reply (Ticked told)).0 e in
    let tick = is_tick m.plan asked (plain_of m) told is.1 in
    (tick, ticked_ends m asked told tick is.0 is.1)
