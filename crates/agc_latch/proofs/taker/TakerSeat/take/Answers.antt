use Rattle.std.proofs.Common.{◌∙◌, ap, sym, subst, arith}
use Rattle.agc_latch.specs.Latches.{IsTurnOf}
use Rattle.agc_latch.specs.Holders.{Joining}
use Rattle.agc_latch.proofs.Keeps.{takes}
use Rattle.agc_latch.proofs.taker.TakerSeat.take.Goals as goal

pub swap-requires : goal.swap-requires
swap-requires c = (
  ap (λ (t : Joining). t.latch) c.self.view_is ∙ (c.requires.latch ∙ sym c.latch.view_is),
  omega arith,
  takes _ _ _ c.args.line c.self.inside.seat.me c.word-word.ensures.word c.self.invariant.role (subst (λ (t : Joining). IsTurnOf c.args.line t.takes) (sym c.self.view_is) c.requires.turn),
)
