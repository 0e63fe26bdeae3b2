use Rattle.std.proofs.Common.{◌≡◌, length}
use Rattle.agc_session.specs.Pieces.{rest, to_come}
use Rattle.agc_session.proofs.walk.Walk.next.Given as goal

abbrev pub invariant-loop-self : goal.invariant-loop-self
invariant-loop-self l = rest l.self ≡ rest l.fn.self

abbrev pub decreases-loop-self : goal.decreases-loop-self
decreases-loop-self l = length (to_come l.self)
