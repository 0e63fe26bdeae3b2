use Rattle.std.proofs.Common.{◌<◌, subst, ◌∙◌, ap, sym, arith}
use Rattle.agc_latch.specs.Holders.{Joining}
use Rattle.agc_latch.proofs.Keeps.{splits}
use Rattle.agc_latch.proofs.taker.TakerSeat.device.Goals as goal

pub split_seat-seat-requires : goal.split_seat-seat-requires
split_seat-seat-requires c = (
  ap (λ (t : Joining). t.latch) c.self.view_is ∙ (c.requires.latch ∙ sym c.latch.view_is),
  omega arith,
  splits _ _ c.self.invariant.role (subst (λ (t : Joining). t.given < 64) (sym c.self.view_is) c.requires.room),
)
