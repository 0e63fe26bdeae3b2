use Rattle.std.proofs.Common.{◌≡◌, ◌≢◌, ℕ, ◌+◌, ◌≤◌, refl, ap, ◌∙◌, arith}
use Rattle.agc_wait.specs.Table.{at_in, gap_of, lst1, time3}
use Rattle.agc_wait.specs.Parts.{distance_of}
use Rattle.agc_wait.proofs.Ordered.{begins, ended, far, none_found, one}
use Rattle.agc_wait.proofs.Spots.{none_there}
use Rattle.agc_wait.proofs.order.tasks_waiting.Goals as goal

pub loop-place-init : goal.loop-place-init
loop-place-init c =
    let first : c.distance_of-distance.result ≡ distance_of (time3 c.args.e.now) = c.distance_of-distance.ensures ∙ ap distance_of c.get.ensures.value in
    let near : distance_of (time3 c.args.e.now) ≤ 16384 = far (time3 c.args.e.now) in
    record {
      rest = begins c.args.e.now c.new-waits.result c.distance_of-distance.result c.new-waits.ensures first;
      len = none_found c.new-waits.result c.new-waits.ensures;
      near = omega (arith, first, near);
      nine = omega arith;
    }

pub returns-then-not-is_occupied : goal.returns-then-not-is_occupied
returns-then-not-is_occupied c =
    ended c.loop-place.place c.loop-place.distance c.args.e.now c.loop-place.waits _
    (none_there (at_in c.args.e.now c.loop-place.place) c.if-not-is_occupied.ensures.1) c.loop-place.invariant.rest

pub loop-place-preserved : goal.loop-place-preserved
loop-place-preserved c =
    let there : 1 ≤ at_in c.args.e.now c.loop-place.place = c.if-not-is_occupied.ensures.0 refl in
    let some : at_in c.args.e.now c.loop-place.place ≢ 0 = λ e. omega arith in
    let gap : c.gap_of.result ≡ gap_of (lst1 c.args.e.now c.loop-place.place) = c.gap_of.ensures.value ∙ ap gap_of c.get-in-loop-place.ensures.value in
    record {
      rest = one c.loop-place.place c.loop-place.distance c.args.e.now c.loop-place.waits c.push.new.self _ _ (omega arith) some
          (rw c.task_at.ensures at c.push.ensures.items) (ap (λ (n : ℕ). c.loop-place.distance + n) gap) c.loop-place.invariant.rest;
      len = omega (arith, c.push.ensures.len, c.loop-place.invariant.len);
      near = omega (arith, c.gap_of.ensures.small);
      nine = omega arith;
    }
