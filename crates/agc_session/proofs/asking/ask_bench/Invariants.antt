use Rattle.std.proofs.Common.{length}
use Rattle.std.specs.List.{flat_map}
use Rattle.agc_machine.specs.Machines.{after}
use Rattle.agc_session.specs.Pieces.{to_come}
use Rattle.agc_session.proofs.Pieces.{piece_requests}
use Rattle.agc_session.specs.Runs.{bench_requests}
use Rattle.agc_session.specs.Steps.{line_written}
use Rattle.agc_session.proofs.Walks.{IsLeft}
use Rattle.agc_session.proofs.asking.ask_bench.Given as goal

abbrev pub invariant-loop-walk : goal.invariant-loop-walk
invariant-loop-walk g l = record {
  left : IsLeft _ after line_written l.fn.machine (bench_requests l.bench) (g.W.Write.contents l.fn.writer) l.machine (g.W.Write.contents l.writer) (flat_map piece_requests (to_come l.walk));
}

abbrev pub decreases-loop-walk : goal.decreases-loop-walk
decreases-loop-walk g l = length (to_come l.walk)
