-- What is to come, and what is asked next.
use Rattle.std.proofs.Common.{◌≡◌, ℕ, suc, ◌+◌, ◌-◌, ◌<◌, ◌≤◌, Bool, true, false, cond, List, [], ◌∷◌, ◌++◌, map, length, drop, replicate, Option, Some, None, slice_get, option_map, is_some, refl, sym, ap, subst, ◌∙◌, append_assoc, arith}
use Rattle.std.proofs.Math.Bool.{and-false}
use Rattle.std.proofs.lemmas.List.{length-map}
use Rattle.std.proofs.lemmas.Option.{slice_get-map}
use Rattle.agc_plan.specs.declared.request.Request.{Request}
use Rattle.agc_plan.specs.declared.request.Request.TheVariants.{Change, Tick}
use Rattle.agc_exec.specs.Seats.{named_of}
use Rattle.agc_plan.specs.Jobs.{Jobs}
use Rattle.agc_plan.specs.Steps.{is_tick}
use Rattle.agc_clock.specs.declared.asked.Asked.{Asked}
use Rattle.agc_clock.specs.Clocks.{AsksNext, Clocked, Next, events_left, look_left, next_of, time_after, to_come}
use Rattle.agc_clock.specs.Coming.{comes}
use Rattle.agc_clock.specs.Counts.{Counts}
use Rattle.agc_clock.specs.Events.{Event}
use Rattle.agc_clock.specs.Instants.{Instant, Asks, Looks, Works, asks_of, by_clock, by_event, centisecond, centiseconds, events_at}
use Rattle.agc_clock.specs.Reading.{AsksOrPasses, Passes, first_of}
use Rattle.agc_clock.specs.Timetables.{Schedule, share_at}
use Rattle.agc_plan.proofs.Lists.{none_left}
use Rattle.agc_clock.proofs.Scanning.{next_row, no_row}

pub left_none : (time number : ℕ) (events : List Event) → events_left time number 0 events ≡ events_at time number events
left_none time number [] = refl
left_none time number (event ∷ events) = refl

-- an event that asks for nothing more
over : (time number asked : ℕ) (event : Event) (b : Bool) → comes event.times time ≡ b → first_of time asked (Some event) ≡ None → drop asked (asks_of time number event) ≡ []
over time number asked event true q none =
    let over : slice_get event.requests asked ≡ None = subst (λ (b : Bool). cond b (slice_get event.requests asked) None ≡ None) q none in
    let past : length event.requests ≤ asked = no_row event.requests asked over in
    rw q (none_left (map (λ request. Asks (by_event number request)) event.requests) asked (rw (length-map event.requests (λ request. Asks (by_event number request))) past))
over time number asked event false q none = rw q (none_left {X = Instant} [] asked (omega arith))

pub events_pass : (time number asked : ℕ) (events : List Event) (o : Option Event) → slice_get events number ≡ o → first_of time asked o ≡ None → events_left time number asked (drop number events) ≡ events_left time (number + 1) 0 (drop (number + 1) events)
events_pass time number asked events None is none = rw (none_left events number (no_row events number is), none_left events (number + 1) (let past : length events ≤ number = no_row events number is in omega arith)) refl
events_pass time number asked events (Some event) is none =
    rw (next_row events number event is, over time number asked event (comes event.times time) refl none)
    (sym (left_none time (number + 1) (drop (number + 1) events)))

asks_first : (time number asked : ℕ) (event : Event) (request : Request) (b : Bool) → comes event.times time ≡ b → first_of time asked (Some event) ≡ Some request → drop asked (asks_of time number event) ≡ Asks (by_event number request) ∷ drop (asked + 1) (asks_of time number event)
asks_first time number asked event request true q some =
    let here : slice_get event.requests asked ≡ Some request = subst (λ (b : Bool). cond b (slice_get event.requests asked) None ≡ Some request) q some in
    let f : Request → Instant = λ request. Asks (by_event number request) in
    rw q (next_row (map f event.requests) asked (f request) (slice_get-map f event.requests asked ∙ ap (λ (o : Option Request). option_map f o) here))
asks_first time number asked event request false q some = absurd (let no : None ≡ Some request = subst (λ (b : Bool). cond b (slice_get event.requests asked) None ≡ Some request) q some in cc)

pub events_ask : (time number asked : ℕ) (events : List Event) (o : Option Event) (request : Request) → slice_get events number ≡ o → first_of time asked o ≡ Some request → events_left time number asked (drop number events) ≡ Asks (by_event number request) ∷ events_left time number (asked + 1) (drop number events)
events_ask time number asked events None request is some = absurd (cc)
events_ask time number asked events (Some event) request is some =
    rw (next_row events number event is, asks_first time number asked event request (comes event.times time) refl some) refl

-- the first instant asks for this
pub asks_now : (table : Schedule) (jobs : Jobs) (old new : Clocked) (asked : Asked) → to_come table old ≡ Asks asked ∷ to_come table new → new.counts ≡ old.counts → new.time ≡ time_after old.time (Some asked) → AsksNext table jobs old (Some asked) new
asks_now table jobs old new asked first same time = record {
  asked_is = ap (λ (l : List Instant). (next_of table.costs jobs l old.counts).asked) (sym first);
  to_come_is = ap (λ (l : List Instant). (next_of table.costs jobs l old.counts).behind) (sym first);
  counts_is = same ∙ ap (λ (l : List Instant). (next_of table.costs jobs l old.counts).counts) (sym first);
  time_is = time;
}

-- what comes behind the events
abbrev pub behind : Schedule → ℕ → Bool → ℕ → List Instant
behind table time looks left = look_left looks ++ (replicate left Works ++ centiseconds table (time + 1) (table.lasts - time))

pub to_come_is : (table : Schedule) (clock : Clocked) (events : List Instant) → events_left clock.time clock.event clock.asked (drop clock.event table.events) ≡ events → to_come table clock ≡ events ++ behind table clock.time clock.looks clock.left
unfolding to_come
to_come_is table clock events is = ap (λ (l : List Instant). l ++ behind table clock.time clock.looks clock.left) is

-- a clock that stands elsewhere in the events of the same time
pub record IsMoved (old new : Clocked) : Type 0 where
  pub time_is : new.time ≡ old.time
  pub looks_is : new.looks ≡ old.looks
  pub left_is : new.left ≡ old.left
  pub counts_is : new.counts ≡ old.counts

same_behind : (table : Schedule) (old new : Clocked) → IsMoved old new → behind table new.time new.looks new.left ≡ behind table old.time old.looks old.left
same_behind table old new moved = rw (moved.time_is, moved.looks_is, moved.left_is) refl

pub moved_events : (table : Schedule) (old new : Clocked) (before : List Instant) → IsMoved old new → events_left old.time old.event old.asked (drop old.event table.events) ≡ before ++ events_left old.time new.event new.asked (drop new.event table.events) → to_come table old ≡ before ++ to_come table new
moved_events table old new before moved is =
    let rest : List Instant = events_left old.time new.event new.asked (drop new.event table.events) in
    to_come_is table old (before ++ rest) is
    ∙ append_assoc before rest (behind table old.time old.looks old.left)
    ∙ ap (λ (l : List Instant). before ++ l) (ap (λ (l : List Instant). rest ++ l) (sym (same_behind table old new moved)) ∙ sym (to_come_is table new rest (ap (λ (t : ℕ). events_left t new.event new.asked (drop new.event table.events)) moved.time_is)))

by_no_tick : (time number : ℕ) (request : Request) → time_after time (Some (by_event number request)) ≡ time
by_no_tick time number request = ap (λ (b : Bool). cond b (time + 1) time) (and-false (is_tick request))

pub event_asked : (table : Schedule) (jobs : Jobs) (old new : Clocked) (number : ℕ) (request : Request) → IsMoved old new → events_left old.time old.event old.asked (drop old.event table.events) ≡ Asks (by_event number request) ∷ events_left old.time new.event new.asked (drop new.event table.events) → AsksNext table jobs old (Some (by_event number request)) new
event_asked table jobs old new number request moved is =
    let asked = by_event number request in
    asks_now table jobs old new asked (moved_events table old new (Asks asked ∷ []) moved is) moved.counts_is (moved.time_is ∙ sym (by_no_tick old.time number request))

pub events_passed : (table : Schedule) (jobs : Jobs) (old new : Clocked) → IsMoved old new → events_left old.time old.event old.asked (drop old.event table.events) ≡ events_left old.time new.event new.asked (drop new.event table.events) → AsksOrPasses table jobs old None new
events_passed table jobs old new moved is = record {
  next_is =
      ap (λ (l : List Instant). next_of table.costs jobs l old.counts) (moved_events table old new [] moved is)
      ∙ ap (λ (g : Counts). next_of table.costs jobs (to_come table new) g) (sym moved.counts_is);
  time_is = moved.time_is;
}

pub nothing_left : (time number asked : ℕ) (events : List Event) → length events ≤ number → events_left time number asked (drop number events) ≡ []
nothing_left time number asked events le = ap (events_left time number asked) (none_left events number le)

-- where all events of the time were asked
pub behind_is : (table : Schedule) (clock : Clocked) → length table.events ≤ clock.event → to_come table clock ≡ behind table clock.time clock.looks clock.left
behind_is table clock passed = to_come_is table clock [] (nothing_left clock.time clock.event clock.asked table.events passed)

pub next_asks : (table : Schedule) (jobs : Jobs) (old new : Clocked) (asked : Option Asked) → next_of table.costs jobs (to_come table old) old.counts ≡ record { asked = asked; behind = to_come table new; counts = new.counts } → new.time ≡ time_after old.time asked → AsksNext table jobs old asked new
next_asks table jobs old new asked is time = record {
  asked_is = sym (ap (λ (n : Next). n.asked) is);
  to_come_is = sym (ap (λ (n : Next). n.behind) is);
  counts_is = sym (ap (λ (n : Next). n.counts) is);
  time_is = time;
}

pub then_asks : (table : Schedule) (jobs : Jobs) (old mid new : Clocked) (asked : Option Asked) → Passes table jobs old mid → AsksNext table jobs mid asked new → AsksNext table jobs old asked new
then_asks table jobs old mid new asked first then = record {
  asked_is = then.asked_is ∙ ap (λ (n : Next). n.asked) (sym first.next_is);
  to_come_is = then.to_come_is ∙ ap (λ (n : Next). n.behind) (sym first.next_is);
  counts_is = then.counts_is ∙ ap (λ (n : Next). n.counts) (sym first.next_is);
  time_is = then.time_is ∙ ap (λ (t : ℕ). time_after t asked) first.time_is;
}

pub is_none : (asked : Option Asked) → is_some asked ≡ false → asked ≡ None
is_none None none = refl
is_none (Some asked) none = absurd (cc)

pub asks_if : (table : Schedule) (jobs : Jobs) (old new : Clocked) (asked : Option Asked) → is_some asked ≡ true → AsksOrPasses table jobs old asked new → AsksNext table jobs old asked new
asks_if table jobs old new None some is = absurd (cc)
asks_if table jobs old new (Some asked) some is = is

pub passes_if : (table : Schedule) (jobs : Jobs) (old new : Clocked) (asked : Option Asked) → is_some asked ≡ false → AsksOrPasses table jobs old asked new → Passes table jobs old new
passes_if table jobs old new None none is = is
passes_if table jobs old new (Some asked) none is = absurd (cc)

-- the look at NEWJOB
pub record IsLooked (old new : Clocked) : Type 0 where
  pub time_is : new.time ≡ old.time
  pub event_is : new.event ≡ old.event
  pub looks_is : new.looks ≡ false
  pub left_is : new.left ≡ old.left
  pub counts_is : new.counts ≡ old.counts

looked_on : (table : Schedule) (old new : Clocked) → length table.events ≤ old.event → IsLooked old new → to_come table new ≡ replicate old.left Works ++ centiseconds table (old.time + 1) (table.lasts - old.time)
looked_on table old new passed looked =
    behind_is table new (let e : new.event ≡ old.event = looked.event_is in omega arith) ∙ rw (looked.time_is, looked.looks_is, looked.left_is) refl

look_comes : (table : Schedule) (old new : Clocked) → length table.events ≤ old.event → old.looks ≡ true → IsLooked old new → to_come table old ≡ Looks ∷ to_come table new
look_comes table old new passed looks looked =
    behind_is table old passed ∙ rw looks refl ∙ ap (λ (l : List Instant). Looks ∷ l) (sym (looked_on table old new passed looked))

pub look_asks : (table : Schedule) (jobs : Jobs) (old new : Clocked) → length table.events ≤ old.event → old.looks ≡ true → IsLooked old new → is_some (named_of jobs) ≡ true → AsksNext table jobs old (Some (by_clock Change)) new
look_asks table jobs old new passed looks looked some =
    next_asks table jobs old new (Some (by_clock Change))
    (rw (look_comes table old new passed looks looked, some, looked.counts_is) refl) looked.time_is

pub look_passes : (table : Schedule) (jobs : Jobs) (old new : Clocked) → length table.events ≤ old.event → old.looks ≡ true → IsLooked old new → is_some (named_of jobs) ≡ false → Passes table jobs old new
look_passes table jobs old new passed looks looked none = record {
  next_is = rw (look_comes table old new passed looks looked, none, looked.counts_is) refl;
  time_is = looked.time_is;
}

pub looks_no_more : (table : Schedule) (jobs : Jobs) (old new : Clocked) → length table.events ≤ old.event → old.looks ≡ false → IsLooked old new → Passes table jobs old new
looks_no_more table jobs old new passed looks looked = record {
  next_is = rw (looked_on table old new passed looked, looked.counts_is) (ap (λ (l : List Instant). next_of table.costs jobs l old.counts) (behind_is table old passed ∙ rw looks refl));
  time_is = looked.time_is;
}

-- a tick
pub ticks : (table : Schedule) (jobs : Jobs) (old : Clocked) → length table.events ≤ old.event → old.looks ≡ false → old.left ≡ 0 → old.time < table.lasts → (new : Clocked) → new ≡ record { time = old.time + 1; event = 0; asked = 0; looks = true; left = share_at table (old.time + 1); counts = old.counts } → AsksNext table jobs old (Some (by_clock Tick)) new
ticks table jobs old passed looks left more new is =
    let now = old.time + 1 in
    let after = centiseconds table (now + 1) (table.lasts - now) in
    let rest : table.lasts - old.time ≡ suc (table.lasts - now) = omega arith in
    let comes : to_come table old ≡ centisecond table now ++ after = behind_is table old passed ∙ rw (looks, left, rest) refl in
    let events : events_left now 0 0 (drop 0 table.events) ≡ events_at now 0 table.events = left_none now 0 table.events in
    let then : to_come table (record { time = now; event = 0; asked = 0; looks = true; left = share_at table now; counts = old.counts }) ≡ events_at now 0 table.events ++ (Looks ∷ (replicate (share_at table now) Works ++ after)) = to_come_is table _ (events_at now 0 table.events) events in
    rw is (asks_now table jobs old _ (by_clock Tick)
    (comes ∙ ap (λ (l : List Instant). Asks (by_clock Tick) ∷ l) (append_assoc (events_at now 0 table.events) (Looks ∷ replicate (share_at table now) Works) after ∙ sym then)) refl refl)

pub time_is_over : (table : Schedule) (jobs : Jobs) (old : Clocked) → length table.events ≤ old.event → old.looks ≡ false → old.left ≡ 0 → table.lasts ≤ old.time → AsksNext table jobs old None old
time_is_over table jobs old passed looks left over =
    let none : table.lasts - old.time ≡ 0 = omega arith in
    let comes : to_come table old ≡ [] = behind_is table old passed ∙ rw (looks, left, none) refl in
    next_asks table jobs old old None (rw comes refl) refl
