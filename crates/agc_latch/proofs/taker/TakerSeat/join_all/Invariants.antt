use Rattle.std.proofs.Common.{length}
use Rattle.agc_latch.proofs.Joining.{Gathers}
use Rattle.agc_latch.proofs.taker.TakerSeat.join_all.Given as goal

abbrev pub invariant-loop-device : goal.invariant-loop-device
invariant-loop-device l = Gathers l.latch l.initial.self l.initial.devices.items l.self l.devices.items

abbrev pub decreases-loop-device : goal.decreases-loop-device
decreases-loop-device l = length l.devices.items
