use Rattle.std.proofs.Common.{sum, ◌∙◌, ap, sym, arith}
use Rattle.agc_latch.specs.Ends.{Posting}
use Rattle.agc_latch.proofs.Keeps.{posts}
use Rattle.agc_latch.proofs.device.Device.post.Goals as goal

pub fetch_add-found-requires : goal.fetch_add-found-requires
fetch_add-found-requires c = (
  ap (λ (d : Posting). d.latch) c.self.view_is ∙ (c.requires ∙ sym c.latch.view_is),
  omega arith,
  posts _ _ _ _ c.word-word.ensures.range c.self.invariant.role (omega (arith, ap sum c.self.invariant.posted)),
)
