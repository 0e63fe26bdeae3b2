use Rattle.std.proofs.Common.{◌*◌, ◌+◌, ◌<◌, refl, arith}
use Rattle.agc_phase.proofs.Reading.{phases_read, read_at, read_more}
use Rattle.agc_phase.proofs.image.recover.Goals as goal

pub loop-group-preserved : goal.loop-group-preserved
loop-group-preserved c =
    let lt : c.loop-group.group < 6 = c.loop-group-test.true in
    let more = read_more c.args.words.now c.loop-group.phases c.loop-group.group _ _ c.in_ok-phases.field-0 lt
    (read_at c.args.words.now (2 * c.loop-group.group) c.index-words-group.result c.told-words (omega (arith, lt)))
    (read_at c.args.words.now (2 * c.loop-group.group + 1) c.index-words-group-in-loop-group.result c.told-words (omega (arith, lt)))
    c.in_ok-phases.ensures.value (c.in_ok-phases.ensures.valid.0 refl) (record {
      six = c.loop-group.invariant.six;
      pairs = c.loop-group.invariant.pairs;
      phases_are = c.loop-group.invariant.phases;
    }) in
    record { six = more.six; pairs = more.pairs; phases = more.phases_are }

pub returns-clause-valid : goal.returns-clause-valid
returns-clause-valid c = (λ all k lt. c.loop-group.invariant.pairs k (omega (arith, lt, c.loop-group-test.false)), λ pairs. refl)

pub returns-clause-phases : goal.returns-clause-phases
returns-clause-phases c =
    phases_read c.args.words.now c.loop-group.phases (record {
      six = c.loop-group.invariant.six;
      pairs = λ k lt. c.loop-group.invariant.pairs k (omega (arith, lt, c.loop-group-test.false));
      phases_are = λ k lt. c.loop-group.invariant.phases k (omega (arith, lt, c.loop-group-test.false));
    })
