-- A scenario in which no event counts from an alarm.
use Rattle.std.proofs.Common.{◌≡◌, ℕ, zero, suc, ◌+◌, ◌*◌, List, [], ◌∷◌, Option, None, refl, sym, ap, ◌∙◌, map}
use Rattle.std.specs.List.{AllByRecursion, fold}
use Rattle.std.proofs.lemmas.List.Sums.{fold-append}
use Rattle.agc_plan.specs.declared.reply.Alarm.{Alarm}
use Rattle.agc_machine.specs.Machines.{Machined}
use Rattle.agc_clock.specs.declared.alarms.Alarms.{Alarms}
use Rattle.agc_clock.specs.declared.timetable.Cost.{Cost}
use Rattle.agc_clock.specs.Alarms.{none_came}
use Rattle.agc_clock.specs.Coming.{Coming}
use Rattle.agc_clock.specs.Events.{Event}
use Rattle.agc_clock.specs.Instants.{Instant, centisecond, centiseconds, events_at}
use Rattle.agc_clock.specs.Runs.{Standing, by_machine, lived, lived_all, run, scenario_requests, standing_at}
use Rattle.agc_clock.specs.Timetables.{Schedule}
use Rattle.agc_scenario.specs.Scenarios.{Timed, TimedEvent, comes_by, counted_by, event_of, first_of, last_time_of, schedule_of, seed_of}
use Rattle.agc_run.specs.Going.{Going, centisecond_lived, going_at, lived_at, scenario_run, time_lived}
use Rattle.agc_run.specs.Runs.{clock_asks, in_time}

abbrev ArePlain : List TimedEvent → Type 0
ArePlain events = AllByRecursion (λ e. e.base.alarm ≡ None) events

same_event : (lasts : ℕ) (a : Alarms) (e : TimedEvent) → e.base.alarm ≡ None → event_of lasts a e ≡ event_of lasts none_came e
same_event lasts a e none =
    let times : Coming = comes_by (first_of e) e.every (last_time_of e) lasts in
    let plain : (b : Alarms) → counted_by b e.base.alarm times ≡ times = λ b. ap (λ (o : Option Alarm). counted_by b o times) none in
    ap (λ (t : Coming). record { times = t; requests = e.requests }) (plain a ∙ sym (plain none_came))

same_events : (lasts : ℕ) (a : Alarms) (es : List TimedEvent) → ArePlain es → map (event_of lasts a) es ≡ map (event_of lasts none_came) es
same_events lasts a [] h = refl
same_events lasts a (e ∷ es) h = rw (same_event lasts a e h.0, same_events lasts a es h.1) refl

same_schedule : (t : Timed) (a : Alarms) → ArePlain t.events → schedule_of t a ≡ schedule_of t none_came
same_schedule t a h =
    let all : Schedule = schedule_of t none_came in
    ap (λ (es : List Event). record { lasts = all.lasts; stolen = all.stolen; costs = all.costs; events = es }) (same_events (t.seconds * 100) a t.events h)

lived_part : (costs : List Cost) (time : ℕ) (is : List Instant) (g : Going) → (fold (lived_at costs time) g is).at ≡ lived_all by_machine costs g.at is
lived_part costs time [] g = refl
lived_part costs time (i ∷ is) g = lived_part costs time is (lived_at costs time g i)

one_centisecond : (t : Timed) (g : Going) (time : ℕ) → ArePlain t.events → (centisecond_lived t g time).at ≡ lived_all by_machine (schedule_of t none_came).costs g.at (centisecond (schedule_of t none_came) time)
one_centisecond t g time h =
    let costs : List Cost = (schedule_of t none_came).costs in
    lived_part costs time (centisecond (schedule_of t g.alarms) time) g
    ∙ ap (λ (s : Schedule). lived_all by_machine costs g.at (centisecond s time)) (same_schedule t g.alarms h)

many_centiseconds : (t : Timed) (time more : ℕ) (g : Going) → ArePlain t.events → (time_lived t g time more).at ≡ lived_all by_machine (schedule_of t none_came).costs g.at (centiseconds (schedule_of t none_came) time more)
many_centiseconds t time zero g h = refl
many_centiseconds t time (suc more) g h =
    let table : Schedule = schedule_of t none_came in
    let rest : List Instant = centiseconds table (time + 1) more in
    many_centiseconds t (time + 1) more (centisecond_lived t g time) h
    ∙ ap (λ (s : Standing Machined). lived_all by_machine table.costs s rest) (one_centisecond t g time h)
    ∙ sym (fold-append (lived by_machine table.costs) g.at (centisecond table time) rest)

pub one_timetable : (t : Timed) (m : Machined) → ArePlain t.events → clock_asks t m ≡ map in_time (scenario_requests by_machine (schedule_of t none_came) (seed_of t) m)
unfolding clock_asks scenario_run run
one_timetable t m h =
    let table : Schedule = schedule_of t none_came in
    let first : List Instant = events_at 0 0 table.events in
    let start : Standing Machined = standing_at (seed_of t) m in
    let rest : List Instant = centiseconds table 1 table.lasts in
    let begun : Going = fold (lived_at table.costs 0) (going_at (seed_of t) m) first in
    ap (λ (s : Standing Machined). map in_time s.asked)
    (many_centiseconds t 1 table.lasts begun h
    ∙ ap (λ (s : Standing Machined). lived_all by_machine table.costs s rest) (lived_part table.costs 0 first (going_at (seed_of t) m))
    ∙ sym (fold-append (lived by_machine table.costs) start first rest))
