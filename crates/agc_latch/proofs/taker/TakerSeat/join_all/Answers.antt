use Rattle.agc_latch.proofs.Joining.{gathers_one}
use Rattle.agc_latch.proofs.taker.TakerSeat.join_all.Goals as goal

pub loop-device-preserved : goal.loop-device-preserved
loop-device-preserved c = gathers_one _ _ _ _ _ _ _ _ c.loop-device.invariant c.in-Some.ensures.items c.join.ensures
