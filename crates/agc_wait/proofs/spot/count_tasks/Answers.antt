use Rattle.std.proofs.Common.{◌≡◌, ◌≢◌, ◌≤◌, length, refl, ap, ◌∙◌, arith, inl, inr}
use Rattle.std.proofs.lemmas.Bool.{cases_lt}
use Rattle.agc_wait.specs.Table.{waits_of, at_in}
use Rattle.agc_wait.proofs.Tables.{read_as}
use Rattle.agc_wait.proofs.Spots.{none_there}
use Rattle.agc_wait.proofs.spot.count_tasks.Goals as goal

pub returns-then-not-is_occupied-clause-count : goal.returns-then-not-is_occupied-clause-count
returns-then-not-is_occupied-clause-count c =
    let e : at_in c.args.e.now c.loop-k.k ≡ 0 = none_there (at_in c.args.e.now c.loop-k.k) c.if-not-is_occupied.ensures.1 in
    let within : c.loop-k.k ≤ length (waits_of c.args.e.now) = c.loop-k.invariant in
    elim (cases_lt c.loop-k.k (length (waits_of c.args.e.now))) [
      | inl lt ↦ let some : 1 ≤ at_in c.args.e.now c.loop-k.k = (read_as c.args.e.now).some c.loop-k.k lt in absurd (omega arith)
      | inr ge ↦ omega arith
    ]

pub loop-k-preserved : goal.loop-k-preserved
loop-k-preserved c =
    let there : 1 ≤ at_in c.args.e.now c.loop-k.k = c.if-not-is_occupied.ensures.0 refl in
    let ne : at_in c.args.e.now c.loop-k.k ≢ 0 = λ e. omega arith in
    let within : c.loop-k.k ≤ length (waits_of c.args.e.now) = c.loop-k.invariant in
    elim (cases_lt c.loop-k.k (length (waits_of c.args.e.now))) [
      | inl lt ↦ omega arith
      | inr ge ↦
          let is : c.loop-k.k ≡ length (waits_of c.args.e.now) = omega arith in
          absurd (ne (ap (at_in c.args.e.now) is ∙ (read_as c.args.e.now).end (omega arith)))
    ]

pub returns-clause-count : goal.returns-clause-count
returns-clause-count c =
    let nine : length (waits_of c.args.e.now) ≤ 9 = (read_as c.args.e.now).short in
    let within : c.loop-k.k ≤ length (waits_of c.args.e.now) = c.loop-k.invariant in
    omega arith
