use Rattle.std.proofs.Common.{◌≡◌, length}
use Rattle.std.specs.List.{fold}
use Rattle.agc_run.specs.Runs.{to_ask}
use Rattle.agc_run.specs.Events.{watched}
use Rattle.agc_trace.proofs.showing.follow.Given as goal

abbrev pub invariant-loop-source : goal.invariant-loop-source
invariant-loop-source g l =
    fold watched l.run.watching (to_ask l.run.watching.machine l.run.pending) ≡ fold watched l.fn.run.watching (to_ask l.fn.run.watching.machine l.fn.run.pending)

abbrev pub decreases-loop-source : goal.decreases-loop-source
decreases-loop-source g l = length (to_ask l.run.watching.machine l.run.pending)
