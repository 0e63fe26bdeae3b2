-- What holds of whole runs.
use Rattle.std.proofs.Common.{◌≡◌, ℕ, zero, suc, ◌+◌, ◌-◌, ◌&&◌, nat_le, is_some, Bool, true, false, cond, List, [], ◌∷◌, ◌++◌, drop, map, replicate, Option, Some, None, unwrap_or, refl, sym, ap, ◌∙◌, arith}
use Rattle.std.specs.List.{fold}
use Rattle.std.proofs.lemmas.List.Sums.{fold_push}
use Rattle.agc_plan.specs.Jobs.{Jobs}
use Rattle.agc_plan.specs.Steps.{is_tick}
use Rattle.agc_plan.specs.declared.request.Request.{Request}
use Rattle.agc_plan.specs.declared.request.Request.TheVariants.{Change}
use Rattle.agc_machine.specs.Machines.{Machined, after, after_all}
use Rattle.agc_clock.specs.declared.asked.Asked.{Asked}
use Rattle.agc_clock.specs.declared.counting.JobCost.{JobCost}
use Rattle.agc_clock.specs.declared.timetable.Cost.{Cost}
use Rattle.agc_clock.specs.declared.timetable.Step.{Step}
use Rattle.agc_clock.specs.declared.timetable.Step.TheVariants as step
use Rattle.agc_clock.specs.declared.timetable.Then.{Then}
use Rattle.agc_clock.specs.declared.timetable.Then.TheVariants as then
use Rattle.agc_exec.specs.Seats.{named_of}
use Rattle.agc_clock.specs.Clocks.{Clocked, events_left, look_left, next_of, unless_asked}
use Rattle.agc_clock.specs.Coming.{comes}
use Rattle.agc_clock.specs.Counts.{Counts, Passed, begun, counted_on, given_to, passed, with_given, worked, worked_on, worker_of}
use Rattle.agc_clock.specs.Events.{Event}
use Rattle.agc_clock.specs.Instants.{Instant, Asks, Looks, Works, asks_of, by_clock, by_event, centisecond, centiseconds, events_at, instants, is_own_tick}
use Rattle.agc_clock.specs.Laws.{own_ticks, works_for, works_for_nobody, hundredths_given, hundredths_left}
use Rattle.agc_clock.specs.Runs.{Serving, Standing, by_machine, goes_on, lived, lived_all, run, scenario_requests, standing_at}
use Rattle.agc_clock.specs.Timetables.{Schedule, asked_of, needs, share_at, step_at}

-- the state is that after all that was asked
abbrev Follows : {S : Type 0} → Serving S → S → Standing S → Type 0
Follows by start at = at.state ≡ fold by.next start at.asked

went_on : {S : Type 0} (by : Serving S) (start : S) (at : Standing S) (o : Option Asked) (counts : Counts) → Follows by start at → Follows by start (goes_on by o counts at)
went_on by start at None counts is = is
went_on by start at (Some a) counts is = ap (λ s. by.next s a) is ∙ sym (fold_push by.next start at.asked a)

follows : {S : Type 0} (by : Serving S) (costs : List Cost) (start : S) (at : Standing S) (all : List Instant) → Follows by start at → Follows by start (lived_all by costs at all)
follows by costs start at [] is = is
follows by costs start at (instant ∷ all) is =
    let did = passed costs (by.jobs at.state) instant at.counts in
    follows by costs start (lived by costs at instant) all (went_on by start at did.asked did.counts is)

mapped : (m : Machined) (asked : List Asked) → fold by_machine.next m asked ≡ fold after m (map (λ a. a.request) asked)
mapped m [] = refl
mapped m (a ∷ asked) = mapped (after m a.request) asked

pub run_is : (table : Schedule) (seed : ℕ) (m : Machined) → (run by_machine table seed m).state ≡ after_all m (map (λ asked. asked.request) (scenario_requests by_machine table seed m))
unfolding run after_all
run_is table seed m =
    follows by_machine table.costs m (standing_at seed m) (instants table) refl
    ∙ mapped m (lived_all by_machine table.costs (standing_at seed m) (instants table)).asked

-- ticks
abbrev tick_in : Asked → ℕ
tick_in a = cond (is_own_tick a) 1 0

abbrev tick_of : Instant → ℕ
tick_of (Asks a) = tick_in a
tick_of Looks = 0
tick_of Works = 0

abbrev ticks_of : List Instant → ℕ
ticks_of [] = 0
ticks_of (i ∷ all) = tick_of i + ticks_of all

abbrev tick_asked : Option Asked → ℕ
tick_asked None = 0
tick_asked (Some a) = tick_in a

one_asked : {S : Type 0} (by : Serving S) (o : Option Asked) (counts : Counts) (at : Standing S) → own_ticks (goes_on by o counts at).asked ≡ own_ticks at.asked + tick_asked o
one_asked by None counts at = omega arith
one_asked by (Some a) counts at = fold_push (λ (n : ℕ) (x : Asked). n + tick_in x) 0 at.asked a

abbrev spent : JobCost → Counts → ℕ → Option Step → Bool → Passed
spent w counts got o b = cond b (record { asked = Some (by_clock (asked_of o w.cost.then)); counts = with_given w.number (counted_on o got) counts }) (record { asked = None; counts = with_given w.number got counts })

spent_ticks : (w : JobCost) (counts : Counts) (got : ℕ) (o : Option Step) (b : Bool) → tick_asked (spent w counts got o b).asked ≡ 0
spent_ticks w counts got o false = refl
spent_ticks w counts got o true = by_step o w.cost.then where
  by_step : (o : Option Step) (t : Then) → tick_in (by_clock (asked_of o t)) ≡ 0
  by_step None then.End = refl
  by_step None (then.Sleep at) = refl
  by_step (Some (step.Novac priority entry)) t = refl
  by_step (Some (step.Findvac priority entry)) t = refl
  by_step (Some (step.Prio priority)) t = refl
  by_step (Some (step.Store place word)) t = refl
  by_step (Some (step.List delay task)) t = refl
  by_step (Some (step.SetPhase group phase)) t = refl

worked_ticks : (o : Option JobCost) (counts : Counts) → tick_asked (worked o counts).asked ≡ 0
worked_ticks None counts = refl
worked_ticks (Some w) counts = on_ticks w (begun w counts)
  where
    on_ticks : (w : JobCost) (counts : Counts) → tick_asked (worked_on w counts).asked ≡ 0
    on_ticks w counts = spent_ticks w counts (given_to w.number counts + 1) (step_at w.cost (given_to w.number counts + 1 - needs w.cost)) (nat_le (needs w.cost) (given_to w.number counts + 1))

looked_ticks : (b : Bool) → tick_asked (cond b (Some (by_clock Change)) None) ≡ 0
looked_ticks true = refl
looked_ticks false = refl

passed_ticks : (costs : List Cost) (jobs : Jobs) (i : Instant) (counts : Counts) → tick_asked (passed costs jobs i counts).asked ≡ tick_of i
passed_ticks costs jobs (Asks a) counts = refl
passed_ticks costs jobs Looks counts = looked_ticks (is_some (named_of jobs))
passed_ticks costs jobs Works counts = worked_ticks (worker_of costs jobs) counts

ticks_asked : {S : Type 0} (by : Serving S) (costs : List Cost) (at : Standing S) (all : List Instant) → own_ticks (lived_all by costs at all).asked ≡ own_ticks at.asked + ticks_of all
ticks_asked by costs at [] = omega arith
ticks_asked by costs at (i ∷ all) =
    let did = passed costs (by.jobs at.state) i at.counts in
    let one : own_ticks (lived by costs at i).asked ≡ own_ticks at.asked + tick_asked did.asked = one_asked by did.asked did.counts at in
    let same : tick_asked did.asked ≡ tick_of i = passed_ticks costs (by.jobs at.state) i at.counts in
    let rest : own_ticks (lived_all by costs (lived by costs at i) all).asked ≡ own_ticks (lived by costs at i).asked + ticks_of all = ticks_asked by costs (lived by costs at i) all in
    rest ∙ (rw (one, same) (omega arith))

ticks_of-append : (xs ys : List Instant) → ticks_of (xs ++ ys) ≡ ticks_of xs + ticks_of ys
ticks_of-append [] ys = omega arith
ticks_of-append (x ∷ xs) ys = let rest = ticks_of-append xs ys in omega arith

none_of_requests : (number : ℕ) (requests : List Request) → ticks_of (map (λ request. Asks (by_event number request)) requests) ≡ 0
none_of_requests number [] = refl
none_of_requests number (r ∷ requests) = rw (none_of_requests number requests) (by_source (is_tick r)) where
  by_source : (b : Bool) → cond (b && false) 1 0 + 0 ≡ 0
  by_source true = refl
  by_source false = refl

none_of_event : (number : ℕ) (event : Event) (b : Bool) → ticks_of (cond b (map (λ request. Asks (by_event number request)) event.requests) []) ≡ 0
none_of_event number event true = none_of_requests number event.requests
none_of_event number event false = refl

none_of_events : (time number : ℕ) (events : List Event) → ticks_of (events_at time number events) ≡ 0
none_of_events time number [] = refl
none_of_events time number (event ∷ events) =
    ticks_of-append (asks_of time number event) (events_at time (number + 1) events)
    ∙ rw (none_of_event number event (comes event.times time), none_of_events time (number + 1) events) refl

none_of_works : (n : ℕ) → ticks_of (replicate n Works) ≡ 0
none_of_works zero = refl
none_of_works (suc n) = let rest = none_of_works n in omega arith

one_each : (table : Schedule) (time : ℕ) → ticks_of (centisecond table time) ≡ 1
one_each table time =
    let events : ticks_of (events_at time 0 table.events) ≡ 0 = none_of_events time 0 table.events in
    let works : ticks_of (replicate (share_at table time) Works) ≡ 0 = none_of_works (share_at table time) in
    let all : ticks_of (events_at time 0 table.events ++ Looks ∷ replicate (share_at table time) Works) ≡ ticks_of (events_at time 0 table.events) + (0 + ticks_of (replicate (share_at table time) Works)) = ticks_of-append (events_at time 0 table.events) (Looks ∷ replicate (share_at table time) Works) in
    omega arith

each_one : (table : Schedule) (time more : ℕ) → ticks_of (centiseconds table time more) ≡ more
each_one table time zero = refl
each_one table time (suc more) =
    let rest : ticks_of (centiseconds table (time + 1) more) ≡ more = each_one table (time + 1) more in
    let first : ticks_of (centisecond table time) ≡ 1 = one_each table time in
    let all : ticks_of (centisecond table time ++ centiseconds table (time + 1) more) ≡ ticks_of (centisecond table time) + ticks_of (centiseconds table (time + 1) more) = ticks_of-append (centisecond table time) (centiseconds table (time + 1) more) in
    omega arith

pub ticks_are : (table : Schedule) (seed : ℕ) (m : Machined) → own_ticks (scenario_requests by_machine table seed m) ≡ table.lasts
unfolding run
ticks_are table seed m =
    let asked : own_ticks (lived_all by_machine table.costs (standing_at seed m) (instants table)).asked ≡ 0 + ticks_of (instants table) = ticks_asked by_machine table.costs (standing_at seed m) (instants table) in
    let all : ticks_of (events_at 0 0 table.events ++ centiseconds table 1 table.lasts) ≡ ticks_of (events_at 0 0 table.events) + ticks_of (centiseconds table 1 table.lasts) = ticks_of-append (events_at 0 0 table.events) (centiseconds table 1 table.lasts) in
    let none : ticks_of (events_at 0 0 table.events) ≡ 0 = none_of_events 0 0 table.events in
    let each : ticks_of (centiseconds table 1 table.lasts) ≡ table.lasts = each_one table 1 table.lasts in
    omega arith

-- what is left of a centisecond asks for no tick of the clock's own
ticks_dropped : (n : ℕ) (is : List Instant) → ticks_of is ≡ 0 → ticks_of (drop n is) ≡ 0
ticks_dropped zero is none = none
ticks_dropped (suc n) [] none = refl
ticks_dropped (suc n) (i ∷ is) none = ticks_dropped n is (omega (arith, none))

none_of_left : (time number asked : ℕ) (events : List Event) → ticks_of (events_left time number asked events) ≡ 0
none_of_left time number asked [] = refl
none_of_left time number asked (event ∷ events) =
    ticks_of-append (drop asked (asks_of time number event)) (events_at time (number + 1) events)
    ∙ rw (ticks_dropped asked (asks_of time number event) (none_of_event number event (comes event.times time)), none_of_events time (number + 1) events) refl

none_of_look : (looks : Bool) (left : ℕ) → ticks_of (look_left looks ++ replicate left Works) ≡ 0
none_of_look true left = let none : ticks_of (replicate left Works) ≡ 0 = none_of_works left in omega arith
none_of_look false left = none_of_works left

quiet : (time number asked : ℕ) (events : List Event) (looks : Bool) (left : ℕ) → ticks_of (events_left time number asked events ++ (look_left looks ++ replicate left Works)) ≡ 0
quiet time number asked events looks left =
    ticks_of-append (events_left time number asked events) (look_left looks ++ replicate left Works)
    ∙ rw (none_of_left time number asked events, none_of_look looks left) refl

abbrev one_if : Bool → ℕ
one_if b = cond b 1 0

no_tick : (b : Bool) → one_if b ≡ 0 → b ≡ false
no_tick true one = absurd (cc)
no_tick false none = refl

not_ticked : (costs : List Cost) (jobs : Jobs) (is : List Instant) (counts : Counts) (q : Asked) → ticks_of is ≡ 0 → (next_of costs jobs is counts).asked ≡ Some q → is_own_tick q ≡ false
not_ticked costs jobs [] counts q none some = absurd (cc)
not_ticked costs jobs (i ∷ is) counts q none some =
    each did.asked did.counts (passed_ticks costs jobs i counts ∙ first) (λ k more. not_ticked costs jobs is k q (omega (arith, none)) more) some where
      did : Passed
      did = passed costs jobs i counts

      first : tick_of i ≡ 0
      first = omega (arith, none)

      each : (o : Option Asked) (k : Counts) → tick_asked o ≡ 0 → ((l : Counts) → (next_of costs jobs is l).asked ≡ Some q → is_own_tick q ≡ false) → (unless_asked (record { asked = o; counts = k }) is (next_of costs jobs is)).asked ≡ Some q → is_own_tick q ≡ false
      each None k quiet rest some = rest k some
      each (Some a) k quiet rest some = ap (λ (o : Option Asked). is_own_tick (unwrap_or o a)) (sym some) ∙ no_tick (is_own_tick a) quiet

pub no_tick_is_left : (costs : List Cost) (jobs : Jobs) (clock : Clocked) (events : List Event) (counts : Counts) (q : Asked) → (next_of costs jobs (events_left clock.time clock.event clock.asked events ++ (look_left clock.looks ++ replicate clock.left Works)) counts).asked ≡ Some q → is_own_tick q ≡ false
no_tick_is_left costs jobs clock events counts q some =
    not_ticked costs jobs (events_left clock.time clock.event clock.asked events ++ (look_left clock.looks ++ replicate clock.left Works)) counts q
    (quiet clock.time clock.event clock.asked events clock.looks clock.left) some

-- hundredths
abbrev work_of : Instant → ℕ
work_of (Asks a) = 0
work_of Looks = 0
work_of Works = 1

abbrev works_in : List Instant → ℕ
works_in [] = 0
works_in (i ∷ all) = work_of i + works_in all

one_or_other : (i : Instant) (o : Option JobCost) → works_for i o + works_for_nobody i o ≡ work_of i
one_or_other (Asks a) o = refl
one_or_other Looks o = refl
one_or_other Works None = refl
one_or_other Works (Some w) = refl

all_works : {S : Type 0} (by : Serving S) (costs : List Cost) (at : Standing S) (all : List Instant) → hundredths_given by costs at all + hundredths_left by costs at all ≡ works_in all
all_works by costs at [] = refl
all_works by costs at (i ∷ all) =
    let rest = all_works by costs (lived by costs at i) all in
    let here = one_or_other i (worker_of costs (by.jobs at.state)) in
    omega arith

works_in-append : (xs ys : List Instant) → works_in (xs ++ ys) ≡ works_in xs + works_in ys
works_in-append [] ys = omega arith
works_in-append (x ∷ xs) ys = let rest = works_in-append xs ys in omega arith

no_works : (number : ℕ) (requests : List Request) → works_in (map (λ request. Asks (by_event number request)) requests) ≡ 0
no_works number [] = refl
no_works number (r ∷ requests) = let rest = no_works number requests in omega arith

no_work_of : (number : ℕ) (event : Event) (b : Bool) → works_in (cond b (map (λ request. Asks (by_event number request)) event.requests) []) ≡ 0
no_work_of number event true = no_works number event.requests
no_work_of number event false = refl

no_work : (time number : ℕ) (events : List Event) → works_in (events_at time number events) ≡ 0
no_work time number [] = refl
no_work time number (event ∷ events) =
    works_in-append (asks_of time number event) (events_at time (number + 1) events)
    ∙ rw (no_work_of number event (comes event.times time), no_work time (number + 1) events) refl

works_of : (n : ℕ) → works_in (replicate n Works) ≡ n
works_of zero = refl
works_of (suc n) = let rest = works_of n in omega arith

pub hundredths_are : (table : Schedule) (time : ℕ) (at : Standing Machined) → hundredths_given by_machine table.costs at (centisecond table time) + hundredths_left by_machine table.costs at (centisecond table time) ≡ share_at table time
hundredths_are table time at =
    let both = all_works by_machine table.costs at (centisecond table time) in
    let events : works_in (events_at time 0 table.events) ≡ 0 = no_work time 0 table.events in
    let works : works_in (replicate (share_at table time) Works) ≡ share_at table time = works_of (share_at table time) in
    let all : works_in (events_at time 0 table.events ++ Looks ∷ replicate (share_at table time) Works) ≡ works_in (events_at time 0 table.events) + (0 + works_in (replicate (share_at table time) Works)) = works_in-append (events_at time 0 table.events) (Looks ∷ replicate (share_at table time) Works) in
    omega arith
