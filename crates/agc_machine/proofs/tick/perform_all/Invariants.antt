use Rattle.std.proofs.Common.{take, None}
use Rattle.agc_machine.specs.Stands.{PerformsAll}
use Rattle.agc_machine.proofs.tick.perform_all.Given as goal

abbrev pub invariant-loop-k : goal.invariant-loop-k
invariant-loop-k l = PerformsAll (take l.k l.actions) l.fn.e None 0 l.e
