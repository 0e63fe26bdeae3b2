-- How a run comes to its end.
use Rattle.std.proofs.Common.{◌≡◌, ℕ, Bool, true, false, cond, zero, suc, ◌+◌, ◌-◌, ◌*◌, List, [], ◌∷◌, ◌++◌, Option, Some, None, Result, refl, sym, ap, ◌∙◌, arith, subst, map, drop, replicate, append-nil, append_assoc}
use Rattle.std.specs.List.{fold, range_with_len}
use Rattle.std.proofs.Math.Nat.{le_refl}
use Rattle.std.proofs.lemmas.List.{append_cancel_right, drop-map}
use Rattle.std.proofs.lemmas.Option.{same_Some}
use Rattle.agc_plan.specs.declared.reply.Alarm.{Alarm}
use Rattle.agc_plan.specs.declared.reply.Reply.{Reply}
use Rattle.agc_machine.specs.declared.answer.Refusal.{Refusal}
use Rattle.agc_plan.specs.declared.request.Request.TheVariants.{Tick}
use Rattle.agc_plan.specs.Jobs.{Jobs}
use Rattle.agc_machine.specs.Machines.{Machined, after, alarm_with, answer_of, plain_of}
use Rattle.agc_clock.specs.declared.alarms.Alarms.{Alarms}
use Rattle.agc_clock.specs.declared.asked.Asked.{Asked}
use Rattle.agc_clock.specs.declared.asked.Source.{Source as TimeSource}
use Rattle.agc_clock.specs.declared.asked.Source.TheVariants as time
use Rattle.agc_clock.specs.declared.timetable.Cost.{Cost}
use Rattle.agc_clock.specs.Alarms.{came, none_came}
use Rattle.agc_clock.specs.Clocks.{AsksNext, Clocked, Next, at_start, events_left, look_left, next_of, time_after, to_come, unless_asked}
use Rattle.agc_clock.specs.Coming.{Coming, comes}
use Rattle.agc_clock.specs.Counts.{Counts, Passed, kept, passed}
use Rattle.agc_clock.specs.Events.{Event}
use Rattle.agc_clock.specs.Instants.{Instant, Asks, Looks, Works, asks_of, by_clock, by_event, centisecond, centiseconds, events_at}
use Rattle.agc_clock.specs.Runs.{begins_with, by_machine, goes_on, served}
use Rattle.agc_clock.specs.Timetables.{Schedule, share_at}
use Rattle.agc_clock.proofs.Hearing.{nothing_moved}
use Rattle.agc_clock.proofs.Scenarios.{no_tick_is_left}
use Rattle.agc_scenario.specs.Scenarios.{Timed, TimedEvent, comes_by, counted_by, event_of, first_of, last_time_of, schedule_of, seed_of}
use Rattle.agc_session.specs.Pieces.{Walked, is_in_time, rest}
use Rattle.agc_session.specs.declared.source.PendingRequest.{PendingRequest}
use Rattle.agc_run.specs.Going.{Going, alarms_after, centisecond_lived, going_at, lived_at, scenario_run, time_lived}
use Rattle.agc_run.specs.Runs.{Pending, Pulls, alarms_with, all_to_ask, asks_after, clock_after, clock_asks, in_time, left_now, now_lived, requests_in, source_in_time, time_asks}

-- a request of a run, where this was counted before it
abbrev asked_at : ℕ → Asked → Counts → Going → Going
asked_at time q counts g = record { at = served by_machine q counts g.at; alarms = alarms_after time g.at.state (Some q) g.alarms }

abbrev counted_at : Counts → Going → Going
counted_at counts g = record { at = record g.at { counts = counts }; alarms = g.alarms }

record Leads (costs : List Cost) (time : ℕ) (g end : Going) (n : Next) : Type 0 where
  pending : (q : Asked) → n.asked ≡ Some q → end ≡ fold (lived_at costs time) (asked_at time q n.counts g) n.behind
  ends : n.asked ≡ None → end ≡ counted_at n.counts g

-- an instant, by what came of it
abbrev did_at : ℕ → Passed → Going → Going
did_at time did g = record { at = goes_on by_machine did.asked did.counts g.at; alarms = alarms_after time g.at.state did.asked g.alarms }

leads : (costs : List Cost) (time : ℕ) (g : Going) (instants : List Instant) → Leads costs time g (fold (lived_at costs time) g instants) (next_of costs (by_machine.jobs g.at.state) instants g.at.counts)
leads costs time g [] = record {
  pending = λ q some. absurd (cc);
  ends = λ none. refl;
}
leads costs time g (instant ∷ behind) =
    let did = passed costs (by_machine.jobs g.at.state) instant g.at.counts in
    each did.asked did.counts (leads costs time (counted_at did.counts g) behind) where
      goal_of : Passed → Type 0
      goal_of p = Leads costs time g (fold (lived_at costs time) (did_at time p g) behind) (unless_asked p behind (next_of costs (by_machine.jobs g.at.state) behind))

      each : (o : Option Asked) (counts : Counts) → Leads costs time (counted_at counts g) (fold (lived_at costs time) (counted_at counts g) behind) (next_of costs (by_machine.jobs g.at.state) behind counts) → goal_of (record { asked = o; counts = counts })
      each (Some a) counts rest = record {
        pending = λ q some. ap (λ (x : Asked). fold (lived_at costs time) (asked_at time x counts g) behind) (same_Some a q some);
        ends = λ none. absurd (cc);
      }
      each None counts rest = record {
        pending = λ q some. rest.pending q some;
        ends = λ none. rest.ends none;
      }

-- the first request of instants is that of the first of them, or else of the others
next_first : (costs : List Cost) (jobs : Jobs) (xs ys : List Instant) (counts : Counts) (q : Asked) → (next_of costs jobs xs counts).asked ≡ Some q → next_of costs jobs (xs ++ ys) counts ≡ record { asked = Some q; behind = (next_of costs jobs xs counts).behind ++ ys; counts = (next_of costs jobs xs counts).counts }
next_first costs jobs [] ys counts q some = absurd (cc)
next_first costs jobs (x ∷ xs) ys counts q some =
    let did = passed costs jobs x counts in
    each did.asked did.counts (λ k more. next_first costs jobs xs ys k q more) some where
      each : (o : Option Asked) (k : Counts) → ((l : Counts) → (next_of costs jobs xs l).asked ≡ Some q → next_of costs jobs (xs ++ ys) l ≡ record { asked = Some q; behind = (next_of costs jobs xs l).behind ++ ys; counts = (next_of costs jobs xs l).counts }) → (unless_asked (record { asked = o; counts = k }) xs (next_of costs jobs xs)).asked ≡ Some q → unless_asked (record { asked = o; counts = k }) (xs ++ ys) (next_of costs jobs (xs ++ ys)) ≡ record { asked = Some q; behind = (unless_asked (record { asked = o; counts = k }) xs (next_of costs jobs xs)).behind ++ ys; counts = (unless_asked (record { asked = o; counts = k }) xs (next_of costs jobs xs)).counts }
      each (Some a) k rest some = ap (λ (z : Asked). record { asked = Some z; behind = xs ++ ys; counts = k }) (same_Some a q some)
      each None k rest some = rest k some

next_later : (costs : List Cost) (jobs : Jobs) (xs ys : List Instant) (counts : Counts) → (next_of costs jobs xs counts).asked ≡ None → next_of costs jobs (xs ++ ys) counts ≡ next_of costs jobs ys (next_of costs jobs xs counts).counts
next_later costs jobs [] ys counts none = refl
next_later costs jobs (x ∷ xs) ys counts none =
    let did = passed costs jobs x counts in
    each did.asked did.counts (λ k more. next_later costs jobs xs ys k more) none where
      each : (o : Option Asked) (k : Counts) → ((l : Counts) → (next_of costs jobs xs l).asked ≡ None → next_of costs jobs (xs ++ ys) l ≡ next_of costs jobs ys (next_of costs jobs xs l).counts) → (unless_asked (record { asked = o; counts = k }) xs (next_of costs jobs xs)).asked ≡ None → unless_asked (record { asked = o; counts = k }) (xs ++ ys) (next_of costs jobs (xs ++ ys)) ≡ next_of costs jobs ys (unless_asked (record { asked = o; counts = k }) xs (next_of costs jobs xs)).counts
      each (Some a) k rest none = absurd (cc)
      each None k rest none = rest k none

-- what is to come is what is left of the centisecond, and those behind it
abbrev later_on : Schedule → ℕ → List Instant
later_on table time = centiseconds table (time + 1) (table.lasts - time)

two_parts : (table : Schedule) (clock : Clocked) → to_come table clock ≡ left_now table clock ++ later_on table clock.time
unfolding to_come
two_parts table clock =
    let events : List Instant = events_left clock.time clock.event clock.asked (drop clock.event table.events) in
    let works : List Instant = replicate clock.left Works in
    ap (λ (l : List Instant). events ++ l) (sym (append_assoc (look_left clock.looks) works (later_on table clock.time)))
    ∙ sym (append_assoc events (look_left clock.looks ++ works) (later_on table clock.time))

-- an alarm changes nothing of its own centisecond
same_times : (alarms : Alarms) (alarm : Option Alarm) (time : ℕ) (base : Option Alarm) (times : Coming) → comes (counted_by (came alarm time alarms) base times) time ≡ comes (counted_by alarms base times) time
same_times alarms alarm time None times = refl
same_times alarms alarm time (Some code) times = nothing_moved times code alarm alarms time time (le_refl time)

same_asks : (lasts : ℕ) (alarms : Alarms) (alarm : Option Alarm) (time number : ℕ) (e : TimedEvent) → asks_of time number (event_of lasts (came alarm time alarms) e) ≡ asks_of time number (event_of lasts alarms e)
same_asks lasts alarms alarm time number e =
    ap (λ (b : Bool). cond b (map (λ request. Asks (by_event number request)) e.requests) [])
    (same_times alarms alarm time e.base.alarm (comes_by (first_of e) e.every (last_time_of e) lasts))

same_events : (lasts : ℕ) (alarms : Alarms) (alarm : Option Alarm) (time number : ℕ) (es : List TimedEvent) → events_at time number (map (event_of lasts (came alarm time alarms)) es) ≡ events_at time number (map (event_of lasts alarms) es)
same_events lasts alarms alarm time number [] = refl
same_events lasts alarms alarm time number (e ∷ es) =
    rw (same_asks lasts alarms alarm time number e, same_events lasts alarms alarm time (number + 1) es) refl

same_left : (lasts : ℕ) (alarms : Alarms) (alarm : Option Alarm) (time number asked : ℕ) (es : List TimedEvent) → events_left time number asked (map (event_of lasts (came alarm time alarms)) es) ≡ events_left time number asked (map (event_of lasts alarms) es)
same_left lasts alarms alarm time number asked [] = refl
same_left lasts alarms alarm time number asked (e ∷ es) =
    rw (same_asks lasts alarms alarm time number e, same_events lasts alarms alarm time (number + 1) es) refl

same_now : (t : Timed) (alarms : Alarms) (alarm : Option Alarm) (clock : Clocked) → left_now (schedule_of t (came alarm clock.time alarms)) clock ≡ left_now (schedule_of t alarms) clock
same_now t alarms alarm clock =
    let lasts : ℕ = t.seconds * 100 in
    let told : Alarms = came alarm clock.time alarms in
    let more : List Instant = look_left clock.looks ++ replicate clock.left Works in
    ap (λ (l : List Event). events_left clock.time clock.event clock.asked l ++ more) (drop-map (event_of lasts told) clock.event t.events)
    ∙ ap (λ (l : List Instant). l ++ more) (same_left lasts alarms alarm clock.time clock.event clock.asked (drop clock.event t.events))
    ∙ ap (λ (l : List Event). events_left clock.time clock.event clock.asked l ++ more) (sym (drop-map (event_of lasts alarms) clock.event t.events))

-- what was asked before stands ahead, and changes nothing else
abbrev ahead : List Asked → Going → Going
ahead qs g = record { at = record g.at { asked = qs ++ g.at.asked }; alarms = g.alarms }

ahead_lived : (qs : List Asked) (costs : List Cost) (time : ℕ) (g : Going) (i : Instant) → lived_at costs time (ahead qs g) i ≡ ahead qs (lived_at costs time g i)
ahead_lived qs costs time g i = let did = passed costs (by_machine.jobs g.at.state) i g.at.counts in each did.asked did.counts where
  each : (o : Option Asked) (k : Counts) → did_at time (record { asked = o; counts = k }) (ahead qs g) ≡ ahead qs (did_at time (record { asked = o; counts = k }) g)
  each None k = refl
  each (Some q) k =
      let next = by_machine.next g.at.state q in
      ap (λ (l : List Asked). record { at = record { asked = l; state = next; counts = kept (by_machine.begins g.at.state q) (by_machine.jobs next) k }; alarms = alarms_after time g.at.state (Some q) g.alarms })
      (append_assoc qs g.at.asked (q ∷ []))

ahead_all : (qs : List Asked) (costs : List Cost) (time : ℕ) (is : List Instant) (g : Going) → fold (lived_at costs time) (ahead qs g) is ≡ ahead qs (fold (lived_at costs time) g is)
ahead_all qs costs time [] g = refl
ahead_all qs costs time (i ∷ is) g =
    ap (λ (x : Going). fold (lived_at costs time) x is) (ahead_lived qs costs time g i) ∙ ahead_all qs costs time is (lived_at costs time g i)

ahead_long : (qs : List Asked) (t : Timed) (times : List ℕ) (g : Going) → fold (centisecond_lived t) (ahead qs g) times ≡ ahead qs (fold (centisecond_lived t) g times)
ahead_long qs t [] g = refl
ahead_long qs t (time ∷ times) g =
    let table = schedule_of t g.alarms in
    ap (λ (x : Going). fold (centisecond_lived t) x times) (ahead_all qs table.costs time (centisecond table time) g) ∙ ahead_long qs t times (centisecond_lived t g time)

-- at the beginning, all is to come
first_left : (time number : ℕ) (events : List Event) → events_left time number 0 events ++ [] ≡ events_at time number events
first_left time number [] = refl
first_left time number (event ∷ events) = append-nil (events_at time number (event ∷ events))

pub listed_asks : (m : Machined) (b : Walked) (a : Alarms) (k : Clocked) (all : List PendingRequest) → rest b ≡ all → all_to_ask m (record { listed = b; timing = None; alarms = a; clock = k }) ≡ all
unfolding all_to_ask
listed_asks m b a k all is = append-nil (rest b) ∙ is

begun_now : (t : Timed) (m : Machined) → now_lived t none_came (at_start (seed_of t)) m ≡ fold (lived_at (schedule_of t none_came).costs 0) (going_at (seed_of t) m) (events_at 0 0 (schedule_of t none_came).events)
begun_now t m =
    let table = schedule_of t none_came in
    ap (λ (l : List Instant). fold (lived_at table.costs 0) (going_at (seed_of t) m) l) (first_left 0 0 table.events)

all_of_it : (n : ℕ) → n - 0 ≡ n
all_of_it n = omega arith

pub time_left : (m : Machined) (b : Walked) (t : Timed) (a : Alarms) (k : Clocked) → rest b ≡ [] → a ≡ none_came → k ≡ at_start (seed_of t) → all_to_ask m (record { listed = b; timing = Some t; alarms = a; clock = k }) ≡ clock_asks t m
unfolding all_to_ask scenario_run clock_asks
time_left m b t a k none unheard start =
    ap (λ (xs : List PendingRequest). xs ++ time_asks (Some t) a k (fold after m (requests_in xs))) none
    ∙ ap (λ (x : Alarms). time_asks (Some t) x k m) unheard
    ∙ ap (λ (c : Clocked). time_asks (Some t) none_came c m) start
    ∙ ap (λ (g : Going). map in_time (time_lived t g 1 (t.seconds * 100 - 0)).at.asked) (begun_now t m)
    ∙ ap (λ (n : ℕ). map in_time (time_lived t (fold (lived_at (schedule_of t none_came).costs 0) (going_at (seed_of t) m) (events_at 0 0 (schedule_of t none_came).events)) 1 n).at.asked) (all_of_it (t.seconds * 100))

-- a request that is listed
pub listed_pulled : (m : Machined) (b c : Walked) (t : Option Timed) (a : Alarms) (k : Clocked) (q : PendingRequest) → is_in_time q.source ≡ false → rest b ≡ q ∷ rest c → Pulls m (record { listed = b; timing = t; alarms = a; clock = k }) (Some q) (record { listed = c; timing = t; alarms = a; clock = k })
unfolding all_to_ask
listed_pulled m b c t a k q un is = rw un (ap (λ (xs : List PendingRequest). xs ++ time_asks t a k (fold after m (requests_in xs))) is)

-- nothing that is listed is left
pub listed_over : (m : Machined) (b c : Walked) (t : Option Timed) (a : Alarms) (k : Clocked) (o : Option PendingRequest) (new : Pending) → rest b ≡ rest c → Pulls m (record { listed = c; timing = t; alarms = a; clock = k }) o new → Pulls m (record { listed = b; timing = t; alarms = a; clock = k }) o new
unfolding all_to_ask
listed_over m b c t a k (Some asked) new is pulls = ap (λ (xs : List PendingRequest). xs ++ time_asks t a k (fold after m (requests_in xs))) is ∙ pulls
listed_over m b c t a k None new is pulls = ap (λ (xs : List PendingRequest). xs ++ time_asks t a k (fold after m (requests_in xs))) is ∙ pulls

-- nothing is left, and no time passes
pub untimed : (m : Machined) (b : Walked) (t : Option Timed) (a : Alarms) (k : Clocked) → t ≡ None → rest b ≡ [] → all_to_ask m (record { listed = b; timing = t; alarms = a; clock = k }) ≡ []
unfolding all_to_ask
untimed m b t a k none is = ap (λ (x : Option Timed). rest b ++ time_asks x a k (fold after m (requests_in (rest b)))) none ∙ append-nil (rest b) ∙ is

-- a clock's next request, in the centisecond or behind it
abbrev jobs_with : Machined → Jobs
jobs_with m = (plain_of m).work.jobs

abbrev start_with : Machined → Counts → Alarms → Going
start_with m counts a = record { at = record { asked = []; state = m; counts = counts }; alarms = a }

-- a clock after a request
abbrev then_with : Machined → Asked → Clocked → Clocked
then_with m q n = record n { counts = kept (by_machine.begins m q) (by_machine.jobs (by_machine.next m q)) n.counts }

abbrev alarms_then : Machined → Asked → ℕ → Alarms → Alarms
alarms_then m q time a = came (alarm_with (answer_of m q.request)) time a

-- what is asked when this was asked, and these instants are left of the centisecond
abbrev asked_with : Timed → Alarms → Machined → Counts → Asked → Counts → List Instant → ℕ → ℕ → List PendingRequest
asked_with t a m before q counts left time more = map in_time (time_lived t (fold (lived_at (schedule_of t a).costs time) (asked_at time q counts (start_with m before a)) left) (time + 1) more).at.asked

goes_then : (t : Timed) (a : Alarms) (m : Machined) (before : Counts) (n : Clocked) (q : Asked) (left : List Instant) → left_now (schedule_of t a) n ≡ left → asked_with t a m before q n.counts left n.time (t.seconds * 100 - n.time) ≡ in_time q ∷ time_asks (Some t) (alarms_then m q n.time a) (then_with m q n) (by_machine.next m q)
goes_then t a m before n q left is =
    let table = schedule_of t a in
    let told : Alarms = alarms_then m q n.time a in
    let next : Machined = by_machine.next m q in
    let then : Clocked = then_with m q n in
    let more : ℕ = t.seconds * 100 - n.time in
    let begun : Going = start_with next then.counts told in
    let here : Going = fold (lived_at table.costs n.time) begun left in
    let same : left_now (schedule_of t told) n ≡ left = same_now t a (alarm_with (answer_of m q.request)) n ∙ is in
    ap (λ (g : Going). map in_time (time_lived t g (n.time + 1) more).at.asked) (ahead_all (q ∷ []) table.costs n.time left begun)
    ∙ ap (λ (g : Going). map in_time g.at.asked) (ahead_long (q ∷ []) t (range_with_len (n.time + 1) more) here)
    ∙ ap (λ (l : List Instant). in_time q ∷ map in_time (time_lived t (fold (lived_at table.costs n.time) begun l) (n.time + 1) more).at.asked) (sym same)

-- the request comes in this centisecond
asked_now : (t : Timed) (a : Alarms) (m : Machined) (k n : Clocked) (q : Asked) → AsksNext (schedule_of t a) (jobs_with m) k (Some q) n → (next_of (schedule_of t a).costs (jobs_with m) (left_now (schedule_of t a) k) k.counts).asked ≡ Some q → time_asks (Some t) a k m ≡ in_time q ∷ time_asks (Some t) (alarms_then m q n.time a) (then_with m q n) (by_machine.next m q)
asked_now t a m k n q pending some =
    let table = schedule_of t a in
    let jobs : Jobs = jobs_with m in
    let here : List Instant = left_now table k in
    let later : List Instant = later_on table k.time in
    let next : Next = next_of table.costs jobs here k.counts in
    let all : next_of table.costs jobs (to_come table k) k.counts ≡ record { asked = Some q; behind = next.behind ++ later; counts = next.counts } =
    ap (λ (l : List Instant). next_of table.costs jobs l k.counts) (two_parts table k) ∙ next_first table.costs jobs here later k.counts q some in
    let time : n.time ≡ k.time = pending.time_is ∙ ap (λ (b : Bool). cond b (k.time + 1) k.time) (no_tick_is_left table.costs jobs k (drop k.event table.events) k.counts q some) in
    let left : left_now table n ≡ next.behind = append_cancel_right (left_now table n) next.behind later
    (ap (λ (x : ℕ). left_now table n ++ later_on table x) (sym time) ∙ sym (two_parts table n) ∙ pending.to_come_is ∙ ap (λ (x : Next). x.behind) all) in
    let counts : next.counts ≡ n.counts = sym (pending.counts_is ∙ ap (λ (x : Next). x.counts) all) in
    ap (λ (g : Going). map in_time (time_lived t g (k.time + 1) (t.seconds * 100 - k.time)).at.asked) ((leads table.costs k.time (start_with m k.counts a) here).pending q some)
    ∙ ap (λ (x : ℕ). asked_with t a m k.counts q next.counts next.behind x (t.seconds * 100 - x)) (sym time)
    ∙ ap (λ (c : Counts). asked_with t a m k.counts q c next.behind n.time (t.seconds * 100 - n.time)) counts
    ∙ goes_then t a m k.counts n q next.behind left

-- it is the next tick
abbrev rest_of : Schedule → ℕ → List Instant
rest_of table time = events_at time 0 table.events ++ (Looks ∷ replicate (share_at table time) Works)

abbrev ticks_next : Schedule → ℕ → ℕ → Counts → Next
ticks_next table time more counts = record { asked = Some (by_clock Tick); behind = rest_of table (time + 1) ++ centiseconds table (time + 1 + 1) more; counts = counts }

tick_next : (table : Schedule) (jobs : Jobs) (time more left : ℕ) (counts : Counts) → left ≡ suc more → next_of table.costs jobs (centiseconds table (time + 1) left) counts ≡ ticks_next table time more counts
tick_next table jobs time more left counts is = ap (λ (x : ℕ). next_of table.costs jobs (centiseconds table (time + 1) x) counts) is

none_next : (table : Schedule) (jobs : Jobs) (time left : ℕ) (counts : Counts) → left ≡ 0 → (next_of table.costs jobs (centiseconds table (time + 1) left) counts).asked ≡ None
none_next table jobs time left counts is = ap (λ (x : ℕ). (next_of table.costs jobs (centiseconds table (time + 1) x) counts).asked) is

-- nothing is asked in this centisecond
abbrev IsOver : Timed → Alarms → Machined → Clocked → Type 0
IsOver t a m k = (next_of (schedule_of t a).costs (jobs_with m) (left_now (schedule_of t a) k) k.counts).asked ≡ None

abbrev counts_over : Timed → Alarms → Machined → Clocked → Counts
counts_over t a m k = (next_of (schedule_of t a).costs (jobs_with m) (left_now (schedule_of t a) k) k.counts).counts

next_over : (t : Timed) (a : Alarms) (m : Machined) (k : Clocked) → IsOver t a m k → next_of (schedule_of t a).costs (jobs_with m) (to_come (schedule_of t a) k) k.counts ≡ next_of (schedule_of t a).costs (jobs_with m) (later_on (schedule_of t a) k.time) (counts_over t a m k)
next_over t a m k none =
    let table = schedule_of t a in
    ap (λ (l : List Instant). next_of table.costs (jobs_with m) l k.counts) (two_parts table k)
    ∙ next_later table.costs (jobs_with m) (left_now table k) (later_on table k.time) k.counts none

asks_over : (t : Timed) (a : Alarms) (m : Machined) (k : Clocked) → IsOver t a m k → time_asks (Some t) a k m ≡ map in_time (time_lived t (start_with m (counts_over t a m k) a) (k.time + 1) (t.seconds * 100 - k.time)).at.asked
asks_over t a m k none =
    let table = schedule_of t a in
    ap (λ (g : Going). map in_time (time_lived t g (k.time + 1) (t.seconds * 100 - k.time)).at.asked) ((leads table.costs k.time (start_with m k.counts a) (left_now table k)).ends none)

asked_later : (t : Timed) (a : Alarms) (m : Machined) (k n : Clocked) (q : Asked) (more : ℕ) → AsksNext (schedule_of t a) (jobs_with m) k (Some q) n → IsOver t a m k → t.seconds * 100 - k.time ≡ suc more → time_asks (Some t) a k m ≡ in_time q ∷ time_asks (Some t) (alarms_then m q n.time a) (then_with m q n) (by_machine.next m q)
asked_later t a m k n q more pending none is =
    let table = schedule_of t a in
    let counts : Counts = counts_over t a m k in
    let tick : Asked = by_clock Tick in
    let all : next_of table.costs (jobs_with m) (to_come table k) k.counts ≡ ticks_next table k.time more counts = next_over t a m k none ∙ tick_next table (jobs_with m) k.time more (table.lasts - k.time) counts is in
    let its : q ≡ tick = same_Some q tick (pending.asked_is ∙ ap (λ (x : Next). x.asked) all) in
    let time : n.time ≡ k.time + 1 = pending.time_is ∙ ap (λ (x : Asked). time_after k.time (Some x)) its in
    let left_then : t.seconds * 100 - n.time ≡ more = omega (arith, is, time) in
    let left : left_now table n ≡ rest_of table (k.time + 1) = append_cancel_right (left_now table n) (rest_of table (k.time + 1)) (centiseconds table (k.time + 1 + 1) more)
    (ap (λ (x : ℕ). left_now table n ++ centiseconds table (x + 1) more) (sym time) ∙ ap (λ (x : ℕ). left_now table n ++ centiseconds table (n.time + 1) x) (sym left_then) ∙ sym (two_parts table n) ∙ pending.to_come_is ∙ ap (λ (x : Next). x.behind) all) in
    let counted : counts ≡ n.counts = sym (pending.counts_is ∙ ap (λ (x : Next). x.counts) all) in
    asks_over t a m k none
    ∙ ap (λ (x : ℕ). map in_time (time_lived t (start_with m counts a) (k.time + 1) x).at.asked) is
    ∙ ap (λ (x : Asked). asked_with t a m counts x counts (rest_of table (k.time + 1)) (k.time + 1) more) (sym its)
    ∙ ap (λ (x : ℕ). asked_with t a m counts q counts (rest_of table (k.time + 1)) x more) (sym time)
    ∙ ap (λ (x : ℕ). asked_with t a m counts q counts (rest_of table (k.time + 1)) n.time x) (sym left_then)
    ∙ ap (λ (c : Counts). asked_with t a m counts q c (rest_of table (k.time + 1)) n.time (t.seconds * 100 - n.time)) counted
    ∙ goes_then t a m counts n q (rest_of table (k.time + 1)) left

pulled_time : (t : Timed) (a : Alarms) (m : Machined) (k n : Clocked) (q : Asked) → AsksNext (schedule_of t a) (jobs_with m) k (Some q) n → time_asks (Some t) a k m ≡ in_time q ∷ time_asks (Some t) (alarms_then m q n.time a) (then_with m q n) (by_machine.next m q)
pulled_time t a m k n q pending = go here.asked refl where
  table : Schedule
  table = schedule_of t a

  here : Next
  here = next_of table.costs (jobs_with m) (left_now table k) k.counts

  later : IsOver t a m k → (left : ℕ) → t.seconds * 100 - k.time ≡ left → time_asks (Some t) a k m ≡ in_time q ∷ time_asks (Some t) (alarms_then m q n.time a) (then_with m q n) (by_machine.next m q)
  later none zero is = absurd (let no : Some q ≡ None = pending.asked_is ∙ ap (λ (x : Next). x.asked) (next_over t a m k none) ∙ none_next table (jobs_with m) k.time (table.lasts - k.time) (counts_over t a m k) is in cc)
  later none (suc more) is = asked_later t a m k n q more pending none is

  go : (o : Option Asked) → here.asked ≡ o → time_asks (Some t) a k m ≡ in_time q ∷ time_asks (Some t) (alarms_then m q n.time a) (then_with m q n) (by_machine.next m q)
  go (Some p) some =
      let its : q ≡ p = same_Some q p (pending.asked_is ∙ ap (λ (l : List Instant). (next_of table.costs (jobs_with m) l k.counts).asked) (two_parts table k) ∙ ap (λ (x : Next). x.asked) (next_first table.costs (jobs_with m) (left_now table k) (later_on table k.time) k.counts p some)) in
      asked_now t a m k n q pending (some ∙ ap (λ (x : Asked). Some x) (sym its))
  go None none = later none (t.seconds * 100 - k.time) refl

over_time : (t : Timed) (a : Alarms) (m : Machined) (k n : Clocked) → AsksNext (schedule_of t a) (jobs_with m) k None n → time_asks (Some t) a k m ≡ []
over_time t a m k n pending = go here.asked refl where
  table : Schedule
  table = schedule_of t a

  here : Next
  here = next_of table.costs (jobs_with m) (left_now table k) k.counts

  later : IsOver t a m k → (left : ℕ) → t.seconds * 100 - k.time ≡ left → time_asks (Some t) a k m ≡ []
  later none zero is = asks_over t a m k none ∙ ap (λ (x : ℕ). map in_time (time_lived t (start_with m (counts_over t a m k) a) (k.time + 1) x).at.asked) is
  later none (suc more) is = absurd (let no : None ≡ Some (by_clock Tick) = pending.asked_is ∙ ap (λ (x : Next). x.asked) (next_over t a m k none ∙ tick_next table (jobs_with m) k.time more (table.lasts - k.time) (counts_over t a m k) is) in cc)

  go : (o : Option Asked) → here.asked ≡ o → time_asks (Some t) a k m ≡ []
  go (Some p) some = absurd (let no : None ≡ Some p = pending.asked_is ∙ ap (λ (l : List Instant). (next_of table.costs (jobs_with m) l k.counts).asked) (two_parts table k) ∙ ap (λ (x : Next). x.asked) (next_first table.costs (jobs_with m) (left_now table k) (later_on table k.time) k.counts p some) in cc)
  go None none = later none (t.seconds * 100 - k.time) refl

-- the time is over
over_at : (m : Machined) (b : Walked) (t : Timed) (a : Alarms) (k n : Clocked) → rest b ≡ [] → AsksNext (schedule_of t a) (jobs_with m) k None n → all_to_ask m (record { listed = b; timing = Some t; alarms = a; clock = k }) ≡ []
unfolding all_to_ask
over_at m b t a k n is pending =
    ap (λ (xs : List PendingRequest). xs ++ time_asks (Some t) a k (fold after m (requests_in xs))) is ∙ over_time t a m k n pending

from_time : (s : TimeSource) → is_in_time (source_in_time s) ≡ true
from_time time.Clock = refl
from_time (time.Event event) = refl

-- a request of the clock
pulled_at : (m : Machined) (b : Walked) (t : Timed) (a : Alarms) (k n : Clocked) (q : Asked) → rest b ≡ [] → AsksNext (schedule_of t a) (jobs_with m) k (Some q) n → Pulls m (record { listed = b; timing = Some t; alarms = a; clock = k }) (Some (in_time q)) (record { listed = b; timing = Some t; alarms = a; clock = n })
unfolding all_to_ask
pulled_at m b t a k n q is pending =
    let told : Alarms = alarms_then m q n.time a in
    let then : Clocked = then_with m q n in
    rw (from_time q.source) (ap (λ (xs : List PendingRequest). xs ++ time_asks (Some t) a k (fold after m (requests_in xs))) is
    ∙ pulled_time t a m k n q pending
    ∙ ap (λ (xs : List PendingRequest). in_time q ∷ (xs ++ time_asks (Some t) told then (fold after (by_machine.next m q) (requests_in xs)))) (sym is))

pub time_over : (m : Machined) (b : Walked) (o : Option Timed) (t : Timed) (a : Alarms) (j : Jobs) (k n : Clocked) → o ≡ Some t → j ≡ (plain_of m).work.jobs → rest b ≡ [] → AsksNext (schedule_of t a) j k None n → all_to_ask m (record { listed = b; timing = o; alarms = a; clock = k }) ≡ []
time_over m b o t a j k n some same is pending =
    ap (λ (x : Option Timed). all_to_ask m (record { listed = b; timing = x; alarms = a; clock = k })) some
    ∙ over_at m b t a k n is (subst (λ (x : Jobs). AsksNext (schedule_of t a) x k None n) same pending)

pub time_pulled : (m : Machined) (b : Walked) (o : Option Timed) (t : Timed) (a : Alarms) (j : Jobs) (k n : Clocked) (q : Asked) → o ≡ Some t → j ≡ (plain_of m).work.jobs → rest b ≡ [] → AsksNext (schedule_of t a) j k (Some q) n → Pulls m (record { listed = b; timing = o; alarms = a; clock = k }) (Some (in_time q)) (record { listed = b; timing = o; alarms = a; clock = n })
time_pulled m b o t a j k n q some same is pending =
    subst (λ (x : Option Timed). Pulls m (record { listed = b; timing = x; alarms = a; clock = k }) (Some (in_time q)) (record { listed = b; timing = x; alarms = a; clock = n })) (sym some)
    (pulled_at m b t a k n q is (subst (λ (x : Jobs). AsksNext (schedule_of t a) x k (Some q) n) same pending))

-- one was asked of a machine, and the clock was told
pub told_all : (m n : Machined) (answer : Result Reply Refusal) (j : Jobs) (pending then : Pending) (asked : PendingRequest) → n ≡ after m asked.request → answer ≡ answer_of m asked.request → j ≡ (plain_of n).work.jobs → then ≡ record pending { alarms = alarms_with asked.source (alarm_with answer) pending.clock.time pending.alarms; clock = clock_after asked.source (begins_with answer) j pending.clock } → all_to_ask n then ≡ all_to_ask (after m asked.request) (asks_after m pending asked)
told_all m n answer j pending then asked is same jobs told =
    let rest = λ (x : Result Reply Refusal) (l : Jobs). all_to_ask (after m asked.request) (record pending { alarms = alarms_with asked.source (alarm_with x) pending.clock.time pending.alarms; clock = clock_after asked.source (begins_with x) l pending.clock }) in
    ap (λ (x : Machined). all_to_ask x then) is ∙ ap (all_to_ask (after m asked.request)) told
    ∙ ap (λ (x : Result Reply Refusal). rest x j) same ∙ ap (rest (answer_of m asked.request)) (jobs ∙ ap (λ (x : Machined). (plain_of x).work.jobs) is)
