use Rattle.std.proofs.Common.{drop}
use Rattle.agc_machine.specs.Machines.{after}
use Rattle.agc_session.specs.Steps.{line_written}
use Rattle.agc_session.proofs.Walks.{IsLeft}
use Rattle.agc_session.proofs.asking.ask_all.Given as goal

abbrev pub invariant-loop-request : goal.invariant-loop-request
invariant-loop-request g l = record {
  left : IsLeft _ after line_written l.initial.machine l.requests (g.W.Write.contents l.initial.writer) l.machine (g.W.Write.contents l.writer) (drop l.request-index l.requests);
}
