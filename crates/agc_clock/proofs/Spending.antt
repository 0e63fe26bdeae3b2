-- What each job was given is less than it needs in all, and nothing where it is not awake.
use Rattle.std.proofs.Common.{◌≡◌, ℕ, zero, suc, ◌+◌, ◌-◌, ◌<◌, ◌≤◌, nat_le, min, Bool, true, false, not, cond, if◌then◌else◌, List, [], ◌∷◌, length, length-set, Option, Some, None, option_map, is_some, slice_get, slice_index, slice_index_or, slice_set, get_or-set_same, get_or-set_other, refl, sym, ap, subst, ◌∙◌, inl, inr, arith}
use Rattle.std.specs.Option.{option_and_then, option_map_or}
use Rattle.std.proofs.Math.Nat.{le-max_left, min-le_right}
use Rattle.std.proofs.lemmas.Bool.{cases_eq, cases_lt}
use Rattle.std.proofs.lemmas.Grind.{common_steps}
use Rattle.std.proofs.lemmas.List.{get_or_past, get_or-replicate}
use Rattle.std.proofs.lemmas.List.FromFn.{get_or-map-range_with_len}
use Rattle.std.proofs.lemmas.Option.{same_Some}
use Rattle.agc_plan.specs.Jobs.{Job, Jobs, job_in}
use Rattle.agc_plan.specs.Laws.{IsRunnerAwake}
use Rattle.agc_plan.specs.declared.request.Request.{Request}
use Rattle.agc_plan.specs.declared.request.Request.TheVariants.{EndOfJob, Sleep}
use Rattle.agc_plan.proofs.Steady.{reached_runner}
use Rattle.agc_machine.specs.Machines.{Machined, after, answer_of, plain_of}
use Rattle.agc_clock.specs.declared.asked.Asked.{Asked}
use Rattle.agc_clock.specs.declared.counting.JobCost.{JobCost}
use Rattle.agc_clock.specs.declared.timetable.Cost.{Cost}
use Rattle.agc_clock.specs.declared.timetable.Step.{Step}
use Rattle.agc_clock.specs.declared.timetable.Step.TheVariants as step
use Rattle.agc_clock.specs.declared.timetable.Then.{Then}
use Rattle.agc_clock.specs.declared.timetable.Then.TheVariants as then
use Rattle.agc_clock.specs.Counts.{Counts, begun, counted_on, draws, given_to, is_awake, kept, kept_by, none_given, passed, with_given, worked, worked_on, worker_of}
use Rattle.agc_clock.specs.Instants.{Instant, Asks, Looks, Works, by_clock}
use Rattle.agc_clock.specs.Laws.{LeavesByItsCost, steps_in}
use Rattle.agc_clock.specs.Runs.{Standing, begins_with, by_machine, goes_on, lived, lived_all, standing_at}
use Rattle.agc_clock.specs.Timetables.{asked_of, asked_step, asked_then, cost_at, needs, next_lot, spared, spread_of, step_at}
use Rattle.agc_clock.proofs.Keeping.{Keep, machine_keeps, stand_of, stands}

-- what a job is given in all before it leaves
abbrev all_of : Cost → ℕ
all_of cost = needs cost + steps_in cost.steps

needs_some : (cost : Cost) → 1 ≤ needs cost
needs_some cost = le-max_left 1 (min cost.hundredths 4000000000)

record IsCounted (costs : List Cost) (slots : List (Option Job)) (counts : Counts) : Type 0 where
  less : (k at : ℕ) (cost : Cost) → stands slots k ≡ Some at → cost_at costs at ≡ Some cost → slice_index counts.given k < all_of cost
  none : (k : ℕ) → stands slots k ≡ None → slice_index counts.given k ≡ 0

nothing_given : (seed k : ℕ) → slice_index (none_given seed).given k ≡ 0
nothing_given seed k = elim (cases_lt k 8) [
  | inl lt ↦ get_or-replicate 8 k 0 0 lt
  | inr ge ↦ get_or_past (none_given seed).given k 0 ge
]

start_counted : (costs : List Cost) (seed : ℕ) (slots : List (Option Job)) → IsCounted costs slots (none_given seed)
start_counted costs seed slots = record {
  less = λ k at cost stand is. let low = needs_some cost in let zero_is = nothing_given seed k in omega arith;
  none = λ k stand. nothing_given seed k;
}

-- whether a job is awake
awake_is : (o : Option Job) → option_map_or (λ (job : Job). not job.asleep) o false ≡ is_some (stand_of o)
awake_is None = refl
awake_is (Some job) = go job.asleep where
  go : (b : Bool) → not b ≡ is_some (cond b None (Some job.at))
  go true = refl
  go false = refl

awake_stands : (jobs : Jobs) (k : ℕ) → is_awake jobs (k + 1) ≡ is_some (stands jobs.slots k)
awake_stands jobs k =
    let same : k + 1 - 1 ≡ k = omega arith in
    ap (λ (i : ℕ). option_map_or (λ (job : Job). not job.asleep) (slice_index_or jobs.slots i None) false) same ∙ awake_is (slice_index_or jobs.slots k None)

kept_here : (began : Bool) (jobs : Jobs) (counts : Counts) (k : ℕ) → k < 8 → slice_index (kept began jobs counts).given k ≡ (if began then 0 else if is_some (stands jobs.slots k) then slice_index counts.given k else 0)
kept_here began jobs counts k lt =
    let same : k + 1 - 1 ≡ k = omega arith in
    get_or-map-range_with_len (kept_by began jobs counts.given) 1 8 k (k + 1) 0 lt (omega arith)
    ∙ rw (awake_stands jobs k, same) refl

kept_past : (began : Bool) (jobs : Jobs) (counts : Counts) (k : ℕ) → 8 ≤ k → slice_index (kept began jobs counts).given k ≡ 0
kept_past began jobs counts k ge = get_or_past (kept began jobs counts).given k 0 ge

kept_counted : (costs : List Cost) (began : Bool) (old : List (Option Job)) (jobs : Jobs) (counts : Counts) → (began ≡ false → Keep old jobs.slots) → IsCounted costs old counts → IsCounted costs jobs.slots (kept began jobs counts)
kept_counted costs began old jobs counts keeps counted = record {
  less = λ k at cost stand is. let low : 1 ≤ all_of cost = (let some = needs_some cost in omega arith) in elim (cases_lt k 8) [
    | inl lt ↦ rw (kept_here began jobs counts k lt, stand) (each began refl k at cost low stand is)
    | inr ge ↦ let zero_is = kept_past began jobs counts k ge in omega arith
  ];
  none = λ k stand. elim (cases_lt k 8) [
    | inl lt ↦ kept_here began jobs counts k lt ∙ rw stand (nobody began)
    | inr ge ↦ kept_past began jobs counts k ge
  ];
}
  where
    nobody : (b : Bool) → cond {A = ℕ} b 0 0 ≡ 0
    nobody true = refl
    nobody false = refl

    was : (o : Option ℕ) (k at : ℕ) (cost : Cost) → stands old k ≡ o → began ≡ false → 1 ≤ all_of cost → stands jobs.slots k ≡ Some at → cost_at costs at ≡ Some cost → slice_index counts.given k < all_of cost
    was None k at cost before not_begun low stand is = let zero_is = counted.none k before in omega arith
    was (Some a) k at cost before not_begun low stand is =
        let same : at ≡ a = keeps not_begun k a at before stand in
        counted.less k a cost before (ap (cost_at costs) (sym same) ∙ is)

    each : (b : Bool) → began ≡ b → (k at : ℕ) (cost : Cost) → 1 ≤ all_of cost → stands jobs.slots k ≡ Some at → cost_at costs at ≡ Some cost → (if b then 0 else slice_index counts.given k) < all_of cost
    each true q k at cost low stand is = low
    each false q k at cost low stand is = was (stands old k) k at cost refl q low stand is

-- who works is awake, and stands at an address of its cost
record IsWorking (costs : List Cost) (jobs : Jobs) (w : JobCost) : Type 0 where
  at : ℕ
  stand : stands jobs.slots (w.number - 1) ≡ Some at
  cost_is : cost_at costs at ≡ Some w.cost

worker_from : (costs : List Cost) (jobs : Jobs) (n : ℕ) (job : Job) → jobs.running ≡ Some n → job_in jobs.slots n ≡ Some job → worker_of costs jobs ≡ option_map (λ (cost : Cost). record { number = n; cost = cost }) (cost_at costs job.at)
worker_from costs jobs n job runs lives = rw (runs, lives) refl

nobody_works : (costs : List Cost) (jobs : Jobs) → jobs.running ≡ None → worker_of costs jobs ≡ None
nobody_works costs jobs runs = rw runs refl

working : (costs : List Cost) (jobs : Jobs) (w : JobCost) → IsRunnerAwake jobs → worker_of costs jobs ≡ Some w → IsWorking costs jobs w
working costs jobs w awake is = go jobs.running refl where
  paid : (n : ℕ) (job : Job) (o : Option Cost) → cost_at costs job.at ≡ o → stands jobs.slots (n - 1) ≡ Some job.at → option_map (λ (cost : Cost). record { number = n; cost = cost }) o ≡ Some w → IsWorking costs jobs w
  paid n job None cost stand same = absurd (cc)
  paid n job (Some c) cost stand same =
      let this : record { number = n; cost = c } ≡ w = same_Some (record { number = n; cost = c }) w same in
      record {
        at = job.at;
        stand = ap (λ (x : JobCost). stands jobs.slots (x.number - 1)) (sym this) ∙ stand;
        cost_is = cost ∙ ap (λ (x : JobCost). Some x.cost) this;
      }

  go : (o : Option ℕ) → jobs.running ≡ o → IsWorking costs jobs w
  go None runs = absurd (let no_one : None ≡ Some w = sym (nobody_works costs jobs runs) ∙ is in cc)
  go (Some n) runs =
      let (job, lives) = awake n runs in
      let stand : stands jobs.slots (n - 1) ≡ Some job.at = ap stand_of lives.0.1 ∙ ap (λ (b : Bool). cond b None (Some job.at)) lives.1 in
      paid n job (cost_at costs job.at) refl stand (sym (worker_from costs jobs n job runs lives.0.1) ∙ is)

set_value : (given : List ℕ) (k v most : ℕ) → v < most → slice_index (slice_set given k v) k < most
set_value given k v most lt = elim (cases_lt k (length given)) [
  | inl within ↦ let same = get_or-set_same given k v 0 within in omega arith
  | inr past ↦
      let past_set : length (slice_set given k v) ≤ k = rw (length-set given k v) past in
      let zero_is = get_or_past (slice_set given k v) k 0 past_set in
      omega arith
]

given_counted : (costs : List Cost) (slots : List (Option Job)) (counts : Counts) (k at v lot : ℕ) (cost : Cost) → IsCounted costs slots counts → stands slots k ≡ Some at → cost_at costs at ≡ Some cost → v < all_of cost → IsCounted costs slots (record { given = slice_set counts.given k v; lot = lot })
given_counted costs slots counts k at v lot cost counted stand is lt = record {
  less = λ i there c stand_i is_i. elim (cases_eq i k) [
    | inl same ↦
        let at_is : there ≡ at = same_Some there at (sym stand_i ∙ ap (stands slots) same ∙ stand) in
        let cost_is : c ≡ cost = same_Some c cost (sym is_i ∙ ap (cost_at costs) at_is ∙ is) in
        let most : v < all_of c = rw cost_is lt in
        rw same (set_value counts.given k v (all_of c) most)
    | inr ne ↦ rw (get_or-set_other counts.given k i v 0 ne) (counted.less i there c stand_i is_i)
  ];
  none = λ i nobody. elim (cases_eq i k) [
    | inl same ↦ absurd (let never : None ≡ Some at = sym nobody ∙ ap (stands slots) same ∙ stand in cc)
    | inr ne ↦ get_or-set_other counts.given k i v 0 ne ∙ counted.none i nobody
  ];
}

-- a step of a number, if there is one
abbrev its_step : List (Option Step) → ℕ → Option Step
its_step steps number = option_and_then (λ (o : Option Step). o) (slice_get steps number)

step_before : (steps : List (Option Step)) (number : ℕ) (its : Step) → its_step steps number ≡ Some its → number ≤ steps_in steps → number < steps_in steps
step_before [] number its is le = absurd (cc)
step_before (None ∷ steps) zero its is le = absurd (cc)
step_before (None ∷ steps) (suc number) its is le = absurd (omega arith)
step_before (Some one ∷ steps) zero its is le = omega arith
step_before (Some one ∷ steps) (suc number) its is le = let lt = step_before steps number its is (omega arith) in omega arith

no_step_left : (steps : List (Option Step)) (number : ℕ) → its_step steps number ≡ None → number ≤ steps_in steps → number ≡ steps_in steps
no_step_left [] number is le = omega arith
no_step_left (None ∷ steps) number is le = omega arith
no_step_left (Some one ∷ steps) zero is le = absurd (cc)
no_step_left (Some one ∷ steps) (suc number) is le = let same = no_step_left steps number is (omega arith) in omega arith

-- what a job is spared is less than it needs
pub few_spared : (cost : Cost) (lot : ℕ) → spared cost lot < needs cost
few_spared cost lot =
    let some = needs_some cost in
    let least : spread_of cost ≤ needs cost - 1 = min-le_right cost.spread (needs cost - 1) in
    omega arith

begun_counted : (costs : List Cost) (jobs : Jobs) (counts : Counts) (w : JobCost) → IsWorking costs jobs w → IsCounted costs jobs.slots counts → IsCounted costs jobs.slots (begun w counts)
begun_counted costs jobs counts w is counted = go (draws w counts) where
  lot : ℕ
  lot = next_lot counts.lot

  go : (b : Bool) → IsCounted costs jobs.slots (cond b (with_given w.number (spared w.cost lot) (record counts { lot = lot })) counts)
  go true =
      let few = few_spared w.cost lot in
      given_counted costs jobs.slots counts (w.number - 1) is.at (spared w.cost lot) lot w.cost counted is.stand is.cost_is (omega arith)
  go false = counted

worked_counted : (costs : List Cost) (jobs : Jobs) (counts : Counts) → IsRunnerAwake jobs → IsCounted costs jobs.slots counts → IsCounted costs jobs.slots (worked (worker_of costs jobs) counts).counts
worked_counted costs jobs counts awake counted = go (worker_of costs jobs) refl where
  fits : (w : JobCost) → (got : ℕ) → got < all_of w.cost + 1 → needs w.cost ≤ got → (o : Option Step) → step_at w.cost (got - needs w.cost) ≡ o → counted_on o got < all_of w.cost
  fits w got most used None is = let some = needs_some w.cost in omega arith
  fits w got most used (Some its) is = let lt = step_before w.cost.steps (got - needs w.cost) its is (omega arith) in omega arith

  spent : (w : JobCost) (counts : Counts) → IsCounted costs jobs.slots counts → IsWorking costs jobs w → (b : Bool) → nat_le (needs w.cost) (given_to w.number counts + 1) ≡ b → IsCounted costs jobs.slots (worked_on w counts).counts
  spent w counts counted is true q = rw q (
      let got = given_to w.number counts + 1 in
      let less = counted.less (w.number - 1) is.at w.cost is.stand is.cost_is in
      let used : needs w.cost ≤ given_to w.number counts + 1 = grind (arith, common_steps) in
      given_counted costs jobs.slots counts (w.number - 1) is.at (counted_on (step_at w.cost (got - needs w.cost)) got) counts.lot w.cost counted is.stand is.cost_is (fits w got (omega arith) used (step_at w.cost (got - needs w.cost)) refl))
  spent w counts counted is false q = rw q (
      let more : given_to w.number counts + 1 < needs w.cost = grind (arith, common_steps) in
      given_counted costs jobs.slots counts (w.number - 1) is.at (given_to w.number counts + 1) counts.lot w.cost counted is.stand is.cost_is (omega arith))

  go : (o : Option JobCost) → worker_of costs jobs ≡ o → IsCounted costs jobs.slots (worked o counts).counts
  go None q = counted
  go (Some w) q =
      let is = working costs jobs w awake q in
      let start = begun w counts in
      spent w start (begun_counted costs jobs counts w is counted) is (nat_le (needs w.cost) (given_to w.number start + 1)) refl

abbrev jobs_of : Machined → Jobs
jobs_of m = (plain_of m).work.jobs

passed_counted : (costs : List Cost) (m : Machined) (i : Instant) (counts : Counts) → IsCounted costs (jobs_of m).slots counts → IsCounted costs (jobs_of m).slots (passed costs (jobs_of m) i counts).counts
passed_counted costs m (Asks a) counts counted = counted
passed_counted costs m Looks counts counted = counted
passed_counted costs m Works counts counted = worked_counted costs (jobs_of m) counts (reached_runner m.plan m.base m.log) counted

on_counted : (costs : List Cost) (o : Option Asked) (counts : Counts) (at : Standing Machined) → IsCounted costs (jobs_of at.state).slots counts → IsCounted costs (jobs_of (goes_on by_machine o counts at).state).slots (goes_on by_machine o counts at).counts
on_counted costs None counts at counted = counted
on_counted costs (Some a) counts at counted =
    kept_counted costs (begins_with (answer_of at.state a.request)) (jobs_of at.state).slots (jobs_of (after at.state a.request)) counts (machine_keeps at.state a.request) counted

all_counted : (costs : List Cost) (at : Standing Machined) (all : List Instant) → IsCounted costs (jobs_of at.state).slots at.counts → IsCounted costs (jobs_of (lived_all by_machine costs at all).state).slots (lived_all by_machine costs at all).counts
all_counted costs at [] counted = counted
all_counted costs at (i ∷ all) counted =
    let did = passed costs (jobs_of at.state) i at.counts in
    all_counted costs (lived by_machine costs at i) all (on_counted costs did.asked did.counts at (passed_counted costs at.state i at.counts counted))

-- a job leaves by no request of a step
abbrev leaves_by : Request → Bool
leaves_by EndOfJob = true
leaves_by (Sleep at) = true
leaves_by request = false

then_leaves : (t : Then) → leaves_by (asked_then t) ≡ true
then_leaves then.End = refl
then_leaves (then.Sleep at) = refl

step_stays : (its : Step) → leaves_by (asked_step its) ≡ false
step_stays (step.Novac priority entry) = refl
step_stays (step.Findvac priority entry) = refl
step_stays (step.Prio priority) = refl
step_stays (step.Store place word) = refl
step_stays (step.List delay task) = refl
step_stays (step.SetPhase group phase) = refl

leaves_here : (costs : List Cost) (jobs : Jobs) (counts : Counts) → IsRunnerAwake jobs → IsCounted costs jobs.slots counts → LeavesByItsCost costs jobs counts
leaves_here costs jobs counts awake counted w is asked = go (nat_le (needs w.cost) got) refl (ap (λ (o : Option JobCost). (worked o counts).asked) (sym is) ∙ asked) where
  start : Counts
  start = begun w counts

  got : ℕ
  got = given_to w.number start + 1

  ends : (o : Option Step) → step_at w.cost (got - needs w.cost) ≡ o → got - needs w.cost ≤ steps_in w.cost.steps → Some (by_clock (asked_of o w.cost.then)) ≡ Some (by_clock (asked_then w.cost.then)) → got - needs w.cost ≡ steps_in w.cost.steps
  ends None q le same = no_step_left w.cost.steps (got - needs w.cost) q le
  ends (Some its) q le same = absurd (
      let request : asked_step its ≡ asked_then w.cost.then = ap (λ (a : Asked). a.request) (same_Some (by_clock (asked_step its)) (by_clock (asked_then w.cost.then)) same) in
      let never : false ≡ true = sym (step_stays its) ∙ ap leaves_by request ∙ then_leaves w.cost.then in
      cc)

  go : (b : Bool) → nat_le (needs w.cost) got ≡ b → (worked_on w start).asked ≡ Some (by_clock (asked_then w.cost.then)) → got ≡ needs w.cost + steps_in w.cost.steps
  go true q leaves =
      let its = working costs jobs w awake is in
      let less = (begun_counted costs jobs counts w its counted).less (w.number - 1) its.at w.cost its.stand its.cost_is in
      let used : needs w.cost ≤ got = grind (arith, common_steps) in
      let same = ends (step_at w.cost (got - needs w.cost)) refl (omega arith) (rw q at leaves) in
      omega arith
  go false q leaves = absurd (let never : None ≡ Some (by_clock (asked_then w.cost.then)) = rw q at leaves in cc)

pub leaves_by_cost : (costs : List Cost) (seed : ℕ) (m : Machined) (before : List Instant) → (at : Standing Machined) → at ≡ lived_all by_machine costs (standing_at seed m) before → LeavesByItsCost costs (by_machine.jobs at.state) at.counts
leaves_by_cost costs seed m before at is =
    let there = lived_all by_machine costs (standing_at seed m) before in
    subst (λ (x : Standing Machined). LeavesByItsCost costs (jobs_of x.state) x.counts) (sym is)
    (leaves_here costs (jobs_of there.state) there.counts (reached_runner there.state.plan there.state.base there.state.log)
    (all_counted costs (standing_at seed m) before (start_counted costs seed (jobs_of m).slots)))
