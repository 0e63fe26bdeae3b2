use Rattle.std.proofs.Common.{rules}
use Rattle.agc_plan.specs.declared.line.Line.TheVariants.{Timer}
use Rattle.agc_latch.proofs.accounts.Accounts.device.Goals as goal

pub device-device-requires-clause-room : goal.device-device-requires-clause-room
device-device-requires-clause-room c = let below = c.self.invariant.settled_below Timer in search rules
