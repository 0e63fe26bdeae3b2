use Rattle.std.proofs.Common.{length}
use Rattle.agc_desk.specs.Stages.{line_left}
use Rattle.agc_desk.proofs.Emptying.{Asked}
use Rattle.agc_desk.proofs.desk.Desk.ask_owed.Given as goal

abbrev pub invariant-loop-request : goal.invariant-loop-request
invariant-loop-request g l = Asked l.initial.self.machine.plan l.line l.initial.self l.initial.share l.self l.share

abbrev pub decreases-loop-request : goal.decreases-loop-request
decreases-loop-request g l = length (line_left l.initial.self.machine.plan l.line l.self.lines)
