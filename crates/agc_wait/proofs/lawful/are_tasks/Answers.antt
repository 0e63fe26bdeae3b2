use Rattle.std.proofs.Common.{◌≡◌, ap, subst, ◌∙◌, refl, arith}
use Rattle.agc_wait.specs.Table.{at_in, gap_of}
use Rattle.agc_wait.specs.Parts.{AreTasks, distance_of}
use Rattle.agc_wait.proofs.Whole.{AreTasks-more, AreTasks-start}
use Rattle.agc_wait.proofs.lawful.are_tasks.Goals as goal

pub loop-k-init : goal.loop-k-init
loop-k-init c =
    AreTasks-start c.args.e.now c.args.count c.distance_of-distance.result c.requires.count (c.distance_of-distance.ensures ∙ ap distance_of c.get.ensures.value)

pub loop-k-preserved : goal.loop-k-preserved
loop-k-preserved c =
    let at : c.bits.result ≡ at_in c.args.e.now c.loop-k.k = c.bits.ensures.value ∙ c.get-in-loop-k.ensures.value in
    AreTasks-more c.args.e.now c.loop-k.k c.args.count c.loop-k.distance c.gap_of-distance.result c.requires.count c.loop-k-test.true
    (c.loop-k.invariant.1 c.loop-k-test.true) c.if-distance-gt16250.false (omega arith) (c.if-not-is_gap.ensures.0 refl)
    (c.gap_of-distance.ensures.value ∙ ap gap_of c.get-in-loop-k-2.ensures.value) c.loop-k.invariant.0

pub returns-then-distance-gt16250 : goal.returns-then-distance-gt16250
returns-then-distance-gt16250 c = (
  λ no. absurd (cc),
  λ tasks. absurd (omega (arith, tasks.near c.loop-k.k c.loop-k-test.true, c.loop-k.invariant.1 c.loop-k-test.true, c.if-distance-gt16250.true)),
)

pub returns-then-bits-ge16384 : goal.returns-then-bits-ge16384
returns-then-bits-ge16384 c =
    let at : c.bits.result ≡ at_in c.args.e.now c.loop-k.k = c.bits.ensures.value ∙ c.get-in-loop-k.ensures.value in (
      λ no. absurd (cc),
      λ tasks. absurd (omega (arith, at, tasks.address c.loop-k.k c.loop-k-test.true, c.if-bits-ge16384.true)),
    )

pub returns-then-not-is_gap : goal.returns-then-not-is_gap
returns-then-not-is_gap c = (
  λ no. absurd (cc),
  λ tasks. c.if-not-is_gap.ensures.1 (λ more. tasks.gap c.loop-k.k c.loop-k-test.true (omega (arith, more, c.requires.count))),
)

pub returns : goal.returns
returns c =
    let same : c.loop-k.k ≡ c.args.count = omega (arith, c.loop-k-test.false, c.loop-k.auto.k-end) in
    (λ yes. subst (AreTasks c.args.e.now) same c.loop-k.invariant.0, λ tasks. refl)
