use Rattle.std.proofs.Common.{length}
use Rattle.agc_session.specs.Pieces.{to_come}
use Rattle.agc_session.proofs.counting.count_requests.Given as goal

abbrev pub decreases-loop-walk : goal.decreases-loop-walk
decreases-loop-walk l = length (to_come l.walk)
