use Rattle.std.proofs.Common.{◌∙◌, ap, sym, arith}
use Rattle.agc_latch.specs.Holders.{Joining}
use Rattle.agc_latch.proofs.Keeps.{joins}
use Rattle.agc_latch.proofs.taker.TakerSeat.join.Goals as goal

pub join_seat-requires : goal.join_seat-requires
join_seat-requires c = (
  ap (λ (t : Joining). t.latch) c.self.view_is ∙ (c.requires.latch ∙ sym c.latch.view_is),
  c.into_seat-seat.ensures.latch ∙ (c.requires.device ∙ sym c.latch.view_is),
  c.into_seat-seat.ensures.role.2,
  omega arith,
  joins _ _ _ _ c.self.invariant.role c.into_seat-seat.ensures.role.0,
)
