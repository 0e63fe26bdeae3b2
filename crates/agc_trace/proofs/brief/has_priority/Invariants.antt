use Rattle.std.proofs.Common.{◌≡◌, drop}
use Rattle.agc_trace.specs.Brief.{has_priority}
use Rattle.agc_trace.proofs.brief.has_priority.Given as goal

abbrev pub invariant-loop-seat : goal.invariant-loop-seat
invariant-loop-seat l = has_priority (drop l.seat-index l.scene.seats) l.number l.priority ≡ has_priority l.scene.seats l.number l.priority
