use Rattle.std.proofs.Common.{◌∙◌, ap, length, slice_index, slice_set, arith}
use Rattle.std.proofs.lemmas.List.{length-set}
use Rattle.agc_wait.proofs.Writes.{moved_up-more}
use Rattle.agc_wait.proofs.moving.move_up.Goals as goal

pub loop-i-preserved : goal.loop-i-preserved
loop-i-preserved c = (
  ap length c.set.ensures.value ∙ length-set c.loop-i.e c.loop-i.i _ ∙ c.loop-i.invariant.0,
  λ j. ap (λ l. slice_index l j) (c.set.ensures.value ∙ ap (slice_set c.loop-i.e c.loop-i.i) c.get.ensures.value)
      ∙ moved_up-more c.args.e.now c.loop-i.e c.args.from c.loop-i.i c.args.by (omega arith) (omega arith) c.loop-i.invariant.1 j,
)
