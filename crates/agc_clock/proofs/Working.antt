-- Hundredths of computing time, one after the other.
use Rattle.std.proofs.Common.{◌≡◌, ℕ, zero, suc, ◌+◌, ◌-◌, ◌<◌, ◌≤◌, ◌==◌, nat_le, max, true, false, List, ◌∷◌, ◌++◌, length, length-set, replicate, Option, Some, None, get_or-set_same, refl, sym, ap, ◌∙◌, inl, inr, arith}
use Rattle.std.proofs.Math.Nat.{le_refl, le-max_left, le-max_right, max-le}
use Rattle.std.proofs.lemmas.Grind.{common_steps}
use Rattle.std.proofs.lemmas.Bool.{cases_lt}
use Rattle.std.proofs.lemmas.List.{set-set, set-get_or}
use Rattle.agc_plan.specs.Jobs.{Jobs}
use Rattle.agc_clock.specs.declared.counting.JobCost.{JobCost}
use Rattle.agc_clock.specs.declared.timetable.Cost.{Cost}
use Rattle.agc_clock.specs.declared.timetable.Step.{Step}
use Rattle.agc_clock.specs.declared.timetable.Step.TheVariants as step
use Rattle.agc_clock.specs.declared.timetable.Then.{Then}
use Rattle.agc_clock.specs.declared.timetable.Then.TheVariants as then
use Rattle.agc_clock.specs.declared.asked.Asked.{Asked}
use Rattle.agc_clock.specs.Clocks.{AsksNext, Clocked, next_of, time_after, to_come}
use Rattle.agc_clock.specs.Counts.{Counts, begun, counted_on, given_to, with_given, worker_of}
use Rattle.agc_clock.specs.Instants.{Instant, Works, by_clock, centiseconds}
use Rattle.agc_clock.specs.Timetables.{Schedule, asked_of, needs, step_at}
use Rattle.agc_clock.specs.Reading.{Passes}
use Rattle.agc_clock.proofs.Passing.{behind_is, next_asks}

-- with nobody to work they pass
pub idle : (costs : List Cost) (jobs : Jobs) (left : ℕ) (after : List Instant) (counts : Counts) → (0 < left → worker_of costs jobs ≡ None) → next_of costs jobs (replicate left Works ++ after) counts ≡ next_of costs jobs after counts
idle costs jobs zero after counts none = refl
idle costs jobs (suc left) after counts none = rw (none (omega arith)) (idle costs jobs left after counts (λ some. none (omega arith)))

-- what a worker is asked that has got so much, and what it then counts
abbrev pub its_request : JobCost → ℕ → Asked
its_request w got = by_clock (asked_of (step_at w.cost (got - needs w.cost)) w.cost.then)

abbrev pub its_count : JobCost → ℕ → ℕ
its_count w got = counted_on (step_at w.cost (got - needs w.cost)) got

-- a count that is set again
set_again : (counts : Counts) (number a b : ℕ) → with_given number b (with_given number a counts) ≡ with_given number b counts
set_again counts number a b = ap (λ (l : List ℕ). record counts { given = l }) (set-set counts.given (number - 1) a b)

-- who has begun doesn't begin again
pub begun_stays : (w : JobCost) (counts : Counts) → 1 ≤ given_to w.number counts → begun w counts ≡ counts
begun_stays w counts some =
    let no : (given_to w.number counts == 0) ≡ false = grind (arith, common_steps) in
    rw no refl

-- one that uses up the cost
last_one : (costs : List Cost) (jobs : Jobs) (w : JobCost) (after : List Instant) (counts start : Counts) (got : ℕ) → worker_of costs jobs ≡ Some w → begun w counts ≡ start → got ≡ given_to w.number start + 1 → needs w.cost ≤ got → next_of costs jobs (Works ∷ after) counts ≡ record { asked = Some (its_request w got); behind = after; counts = with_given w.number (its_count w got) start }
last_one costs jobs w after counts start got works begins is used =
    let yes : nat_le (needs w.cost) got ≡ true = grind (arith, common_steps) in
    rw (works, begins, sym is, yes) refl

-- and one that does not
one_more : (costs : List Cost) (jobs : Jobs) (w : JobCost) (after : List Instant) (counts start : Counts) → worker_of costs jobs ≡ Some w → begun w counts ≡ start → given_to w.number start + 1 < needs w.cost → next_of costs jobs (Works ∷ after) counts ≡ next_of costs jobs after (with_given w.number (given_to w.number start + 1) start)
one_more costs jobs w after counts start works begins less =
    let no : nat_le (needs w.cost) (given_to w.number start + 1) ≡ false = grind (arith, common_steps) in
    rw (works, begins, no) refl

pub ends : (costs : List Cost) (jobs : Jobs) (w : JobCost) (after : List Instant) (left rest got : ℕ) (counts start : Counts) → worker_of costs jobs ≡ Some w → begun w counts ≡ start → w.number - 1 < length start.given → 1 ≤ rest → rest ≤ left → got ≡ given_to w.number start + rest → needs w.cost ≤ got → (1 < rest → got ≡ needs w.cost) → next_of costs jobs (replicate left Works ++ after) counts ≡ record { asked = Some (its_request w got); behind = replicate (left - rest) Works ++ after; counts = with_given w.number (its_count w got) start }
ends costs jobs w after zero rest got counts start works begins place some few is used exact = absurd (omega arith)
ends costs jobs w after (suc left) rest got counts start works begins place some few is used exact = elim (cases_lt 1 rest) [
  | inl more ↦
      let less : given_to w.number start + 1 < needs w.cost = (let e = exact more in omega arith) in
      let then = with_given w.number (given_to w.number start + 1) start in
      let has : given_to w.number then ≡ given_to w.number start + 1 = get_or-set_same start.given (w.number - 1) (given_to w.number start + 1) 0 place in
      let inside : w.number - 1 < length then.given = rw (length-set start.given (w.number - 1) (given_to w.number start + 1)) place in
      let same : left - (rest - 1) ≡ suc left - rest = omega arith in
      one_more costs jobs w (replicate left Works ++ after) counts start works begins less
      ∙ ends costs jobs w after left (rest - 1) got then then works (begun_stays w then (omega arith)) inside (omega arith) (omega arith) (omega arith) used (λ again. exact more)
      ∙ ap (λ (n : ℕ). record { asked = Some (its_request w got); behind = replicate n Works ++ after; counts = with_given w.number (its_count w got) then }) same
      ∙ ap (λ (c : Counts). record { asked = Some (its_request w got); behind = replicate (suc left - rest) Works ++ after; counts = c }) (set_again start w.number (given_to w.number start + 1) (its_count w got))
  | inr one ↦
      let same : left ≡ suc left - rest = omega arith in
      last_one costs jobs w (replicate left Works ++ after) counts start got works begins (omega arith) used
      ∙ ap (λ (n : ℕ). record { asked = Some (its_request w got); behind = replicate n Works ++ after; counts = with_given w.number (its_count w got) start }) same
]

pub works_on : (costs : List Cost) (jobs : Jobs) (w : JobCost) (after : List Instant) (left : ℕ) (counts start : Counts) → worker_of costs jobs ≡ Some w → (left ≡ 0 → start ≡ counts) → begun w counts ≡ start → w.number - 1 < length start.given → (0 < left → given_to w.number start + left < needs w.cost) → next_of costs jobs (replicate left Works ++ after) counts ≡ next_of costs jobs after (with_given w.number (given_to w.number start + left) start)
works_on costs jobs w after zero counts start works nothing begins place less =
    let none : given_to w.number start + zero ≡ given_to w.number start = omega arith in
    ap (next_of costs jobs after) (sym (ap (λ (n : ℕ). with_given w.number n start) none ∙ ap (λ (l : List ℕ). record start { given = l }) (set-get_or start.given (w.number - 1) 0) ∙ nothing refl))
works_on costs jobs w after (suc left) counts start works nothing begins place less =
    let all : given_to w.number start + suc left < needs w.cost = less (omega arith) in
    let then = with_given w.number (given_to w.number start + 1) start in
    let got : given_to w.number then ≡ given_to w.number start + 1 = get_or-set_same start.given (w.number - 1) (given_to w.number start + 1) 0 place in
    let inside : w.number - 1 < length then.given = rw (length-set start.given (w.number - 1) (given_to w.number start + 1)) place in
    let sum : given_to w.number then + left ≡ given_to w.number start + suc left = omega arith in
    one_more costs jobs w (replicate left Works ++ after) counts start works begins (omega arith)
    ∙ works_on costs jobs w after left then then works (λ none. refl) (begun_stays w then (omega arith)) inside (λ some. omega arith)
    ∙ ap (next_of costs jobs after) (ap (λ (n : ℕ). with_given w.number n then) sum ∙ set_again start w.number (given_to w.number start + 1) (given_to w.number start + suc left))

-- the clock after computing time was given, with so much left and these counts
pub record IsWorked (old new : Clocked) (left : ℕ) (counts : Counts) : Type 0 where
  pub time_is : new.time ≡ old.time
  pub event_is : new.event ≡ old.event
  pub looks_is : new.looks ≡ false
  pub left_is : new.left ≡ left
  pub counts_is : new.counts ≡ counts

abbrev after_it : Schedule → Clocked → List Instant
after_it table clock = centiseconds table (clock.time + 1) (table.lasts - clock.time)

worked_comes : (table : Schedule) (clock : Clocked) → length table.events ≤ clock.event → clock.looks ≡ false → to_come table clock ≡ replicate clock.left Works ++ after_it table clock
worked_comes table clock passed looked = behind_is table clock passed ∙ rw looked refl

worked_left : (table : Schedule) (old new : Clocked) (left : ℕ) (counts : Counts) → length table.events ≤ old.event → IsWorked old new left counts → to_come table new ≡ replicate left Works ++ after_it table old
worked_left table old new left counts passed is =
    worked_comes table new (let e : new.event ≡ old.event = is.event_is in omega arith) is.looks_is ∙ rw (is.left_is, is.time_is) refl

asks_no_tick : (time : ℕ) (o : Option Step) (t : Then) → time_after time (Some (by_clock (asked_of o t))) ≡ time
asks_no_tick time None then.End = refl
asks_no_tick time None (then.Sleep at) = refl
asks_no_tick time (Some (step.Novac priority entry)) t = refl
asks_no_tick time (Some (step.Findvac priority entry)) t = refl
asks_no_tick time (Some (step.Prio priority)) t = refl
asks_no_tick time (Some (step.Store place word)) t = refl
asks_no_tick time (Some (step.List delay task)) t = refl
asks_no_tick time (Some (step.SetPhase group phase)) t = refl

pub give_ends : (table : Schedule) (jobs : Jobs) (w : JobCost) (old new : Clocked) (start : Counts) (rest got : ℕ) → length table.events ≤ old.event → old.looks ≡ false → worker_of table.costs jobs ≡ Some w → begun w old.counts ≡ start → w.number - 1 < length start.given → 1 ≤ rest → rest ≤ old.left → got ≡ given_to w.number start + rest → needs w.cost ≤ got → (1 < rest → got ≡ needs w.cost) → IsWorked old new (old.left - rest) (with_given w.number (its_count w got) start) → AsksNext table jobs old (Some (its_request w got)) new
give_ends table jobs w old new start rest got passed looked works begins place some few sum used exact is =
    next_asks table jobs old new (Some (its_request w got))
    (ap (λ (l : List Instant). next_of table.costs jobs l old.counts) (worked_comes table old passed looked)
    ∙ ends table.costs jobs w (after_it table old) old.left rest got old.counts start works begins place some few sum used exact
    ∙ ap (λ (l : List Instant). record { asked = Some (its_request w got); behind = l; counts = with_given w.number (its_count w got) start }) (sym (worked_left table old new (old.left - rest) (with_given w.number (its_count w got) start) passed is))
    ∙ ap (λ (c : Counts). record { asked = Some (its_request w got); behind = to_come table new; counts = c }) (sym is.counts_is))
    (is.time_is ∙ sym (asks_no_tick old.time (step_at w.cost (got - needs w.cost)) w.cost.then))

pub give_passes : (table : Schedule) (jobs : Jobs) (w : JobCost) (old new : Clocked) (start : Counts) → length table.events ≤ old.event → old.looks ≡ false → worker_of table.costs jobs ≡ Some w → 0 < old.left → begun w old.counts ≡ start → w.number - 1 < length start.given → given_to w.number start + old.left < needs w.cost → IsWorked old new 0 (with_given w.number (given_to w.number start + old.left) start) → Passes table jobs old new
give_passes table jobs w old new start passed looked works some begins place less is = record {
  next_is =
      ap (λ (l : List Instant). next_of table.costs jobs l old.counts) (worked_comes table old passed looked)
      ∙ works_on table.costs jobs w (after_it table old) old.left old.counts start works (λ none. absurd (omega arith)) begins place (λ more. less)
      ∙ ap (next_of table.costs jobs (after_it table old)) (sym is.counts_is)
      ∙ ap (λ (l : List Instant). next_of table.costs jobs l new.counts) (sym (worked_left table old new 0 (with_given w.number (given_to w.number start + old.left) start) passed is));
  time_is = is.time_is;
}

pub nobody_works : (table : Schedule) (jobs : Jobs) (old new : Clocked) → length table.events ≤ old.event → old.looks ≡ false → (0 < old.left → worker_of table.costs jobs ≡ None) → IsWorked old new 0 old.counts → Passes table jobs old new
nobody_works table jobs old new passed looked none is = record {
  next_is =
      ap (λ (l : List Instant). next_of table.costs jobs l old.counts) (worked_comes table old passed looked)
      ∙ idle table.costs jobs old.left (after_it table old) old.counts none
      ∙ ap (next_of table.costs jobs (after_it table old)) (sym is.counts_is)
      ∙ ap (λ (l : List Instant). next_of table.costs jobs l new.counts) (sym (worked_left table old new 0 old.counts passed is));
  time_is = is.time_is;
}

-- what is still to be given before the cost is used up: at least one
pub record IsRest (cost given rest : ℕ) : Type 0 where
  pub some : 1 ≤ rest
  pub used : cost ≤ given + rest
  pub exact : 1 < rest → given + rest ≡ cost

pub rest_is : (cost given rest : ℕ) → rest ≡ max (cost - given) 1 → IsRest cost given rest
rest_is cost given rest is =
    let one : 1 ≤ max (cost - given) 1 = le-max_right (cost - given) 1 in
    let all : cost - given ≤ max (cost - given) 1 = le-max_left (cost - given) 1 in
    record {
      some = omega arith;
      used = omega arith;
      exact = λ more. elim (cases_lt 1 (cost - given)) [
        | inl lt ↦
            let most : max (cost - given) 1 ≤ cost - given = max-le (le_refl (cost - given)) (omega arith) in
            omega arith
        | inr le ↦
            let most : max (cost - given) 1 ≤ 1 = max-le le (le_refl 1) in
            omega arith
      ];
    }

-- which step that is, and how much was given with it
pub record IsMore (needed given rest more : ℕ) : Type 0 where
  pub number : more ≡ given + rest - needed
  pub got : needed + more ≡ given + rest

pub more_is : (needed given rest more : ℕ) → IsRest needed given rest → 1 ≤ needed → more ≡ given - (needed - 1) → IsMore needed given rest more
more_is needed given rest more is some same =
    let few : 1 ≤ rest = is.some in
    let used : needed ≤ given + rest = is.used in
    elim (cases_lt 1 rest) [
      | inl lt ↦
          let exact : given + rest ≡ needed = is.exact lt in
          record { number = omega arith; got = omega arith }
      | inr le ↦ record { number = omega arith; got = omega arith }
    ]
