use Rattle.std.proofs.Common.{inr, refl, sym, ◌∙◌}
use Rattle.agc_plan.proofs.Rows.{starts, next_indexed, there_twice}
use Rattle.agc_plan.proofs.index.index_of.Goals as goal

pub loop-k-init : goal.loop-k-init
loop-k-init c = starts c.args.rows.now c.new-index.result c.new-index.ensures.empty

pub returns-in-Ok-Some-clause-refused : goal.returns-in-Ok-Some-clause-refused
returns-in-Ok-Some-clause-refused c =
    inr (
      refl,
      there_twice c.args.rows.now c.loop-k.k c.index-rows-k.result c.loop-k.index c.in-Ok-Some._earlier c.loop-k-test.true c.index-rows-k.is c.loop-k.invariant
          (rw (c.get.ensures.value, c.bits.ensures.value) at (sym c.in-Ok-Some.ensures.old) ∙ c.in-Ok-Some.field-0-is),
    )

pub loop-k-preserved : goal.loop-k-preserved
loop-k-preserved c =
    next_indexed c.args.rows.now c.loop-k.k c.index-rows-k.result c.loop-k.index c.insert.new.self c.loop-k-test.true c.index-rows-k.is c.loop-k.invariant
    (rw (c.get.ensures.value, c.bits.ensures.value) at (sym c.in-Ok-None.ensures.old) ∙ c.in-Ok-None.field-0-is)
    (rw (c.get.ensures.value, c.bits.ensures.value) at c.in-Ok-None.ensures.updates.0)
