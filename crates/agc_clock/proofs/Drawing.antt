-- What lots decide: how long a job computes that begins.
use Rattle.std.proofs.Common.{◌≡◌, ℕ, zero, suc, ◌+◌, ◌-◌, ◌<◌, ◌≤◌, ◌==◌, ◌&&◌, nat_lt, Bool, true, false, List, [], length, length-set, replicate, Some, None, get_or-set_same, append-nil, refl, sym, ap, ◌∙◌, arith}
use Rattle.std.proofs.Math.Bool.{and-false}
use Rattle.std.proofs.Math.Nat.{le_refl, min-le_left}
use Rattle.std.proofs.lemmas.Grind.{common_steps}
use Rattle.agc_plan.specs.Jobs.{Jobs}
use Rattle.agc_clock.specs.declared.counting.JobCost.{JobCost}
use Rattle.agc_clock.specs.declared.timetable.Cost.{Cost}
use Rattle.agc_clock.specs.Clocks.{Next, next_of}
use Rattle.agc_clock.specs.Counts.{Counts, begun, draws, given_to}
use Rattle.agc_clock.specs.Instants.{Instant, Works, by_clock}
use Rattle.agc_clock.specs.Laws.{Begins, drawn}
use Rattle.agc_clock.specs.Timetables.{asked_of, needs, next_lot, spared, spread_of, step_at}
use Rattle.agc_clock.proofs.Spending.{few_spared}
use Rattle.agc_clock.proofs.Working.{ends, works_on}

pub drawn_some : (cost : Cost) (lot : ℕ) → 1 ≤ drawn cost lot
drawn_some cost lot = let few = few_spared cost lot in omega arith

pub drawn_most : (cost : Cost) (lot : ℕ) → drawn cost lot ≤ needs cost
drawn_most cost lot = omega arith

pub drawn_least : (cost : Cost) (lot : ℕ) → needs cost ≤ drawn cost lot + cost.spread
drawn_least cost lot =
    let least : spread_of cost ≤ cost.spread = min-le_left cost.spread (needs cost - 1) in
    omega arith

not_drawn : (w : JobCost) (counts : Counts) → draws w counts ≡ false → begun w counts ≡ counts
not_drawn w counts undrawn = rw undrawn refl

pub plain_draws_nothing : (w : JobCost) (counts : Counts) → w.cost.spread ≡ 0 → begun w counts ≡ counts
plain_draws_nothing w counts plain =
    let spread : spread_of w.cost ≡ 0 = (let least : spread_of w.cost ≤ w.cost.spread = min-le_left w.cost.spread (needs w.cost - 1) in omega arith) in
    let no : nat_lt 0 (spread_of w.cost) ≡ false = rw spread refl in
    not_drawn w counts (ap (λ (b : Bool). (given_to w.number counts == 0) && b) no ∙ and-false (given_to w.number counts == 0))

-- where a job begins to count
record IsBegun (w : JobCost) (counts start : Counts) : Type 0 where
  inside : w.number - 1 < length start.given
  spared_is : given_to w.number start ≡ spared w.cost (next_lot counts.lot)

begins : (costs : List Cost) (jobs : Jobs) (w : JobCost) (counts : Counts) → Begins costs jobs w counts → IsBegun w counts (begun w counts)
begins costs jobs w counts here = go (nat_lt 0 (spread_of w.cost)) refl where
  lot : ℕ
  lot = next_lot counts.lot

  first : (given_to w.number counts == 0) ≡ true
  first = let none = here.nothing in rw none refl

  go : (b : Bool) → nat_lt 0 (spread_of w.cost) ≡ b → IsBegun w counts (begun w counts)
  go true by_lot =
      let yes : draws w counts ≡ true = rw (first, by_lot) refl in
      rw yes (record {
        inside = rw (length-set counts.given (w.number - 1) (spared w.cost lot)) here.counted;
        spared_is = get_or-set_same counts.given (w.number - 1) (spared w.cost lot) 0 here.counted;
      })
  go false plain =
      let no : draws w counts ≡ false = rw (first, plain) refl in
      let none : spread_of w.cost ≡ 0 = grind (arith, common_steps) in
      let nothing : spared w.cost lot ≡ 0 = omega arith in
      rw no (record { inside = here.counted; spared_is = here.nothing ∙ sym nothing })

pub asked_when_drawn : (costs : List Cost) (jobs : Jobs) (w : JobCost) (counts : Counts) → Begins costs jobs w counts → (next_of costs jobs (replicate (drawn w.cost (next_lot counts.lot)) Works) counts).asked ≡ Some (by_clock (asked_of (step_at w.cost 0) w.cost.then))
asked_when_drawn costs jobs w counts here =
    let rest = drawn w.cost (next_lot counts.lot) in
    let start = begun w counts in
    let is = begins costs jobs w counts here in
    let few = few_spared w.cost (next_lot counts.lot) in
    let given = is.spared_is in
    let all : needs w.cost ≡ given_to w.number start + rest = omega arith in
    let none : needs w.cost - needs w.cost ≡ 0 = omega arith in
    ap (λ (l : List Instant). (next_of costs jobs l counts).asked) (sym (append-nil (replicate rest Works)))
    ∙ ap (λ (n : Next). n.asked) (ends costs jobs w [] rest rest (needs w.cost) counts start here.works refl is.inside (omega arith) (le_refl rest) all (le_refl (needs w.cost)) (λ more. refl))
    ∙ ap (λ (n : ℕ). Some (by_clock (asked_of (step_at w.cost n) w.cost.then))) none

pub nothing_before : (costs : List Cost) (jobs : Jobs) (w : JobCost) (counts : Counts) → Begins costs jobs w counts → (next_of costs jobs (replicate (drawn w.cost (next_lot counts.lot) - 1) Works) counts).asked ≡ None
nothing_before costs jobs w counts here = go (drawn w.cost (next_lot counts.lot) - 1) refl where
  go : (left : ℕ) → drawn w.cost (next_lot counts.lot) - 1 ≡ left → (next_of costs jobs (replicate left Works) counts).asked ≡ None
  go zero is = refl
  go (suc less) left =
      let start = begun w counts in
      let is = begins costs jobs w counts here in
      let few = few_spared w.cost (next_lot counts.lot) in
      let given = is.spared_is in
      ap (λ (l : List Instant). (next_of costs jobs l counts).asked) (sym (append-nil (replicate (suc less) Works)))
      ∙ ap (λ (n : Next). n.asked) (works_on costs jobs w [] (suc less) counts start here.works (λ none. absurd (omega arith)) refl is.inside (λ some. omega arith))
