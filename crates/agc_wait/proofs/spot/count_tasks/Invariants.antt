use Rattle.std.proofs.Common.{◌≤◌, length}
use Rattle.agc_wait.specs.Table.{waits_of}
use Rattle.agc_wait.proofs.spot.count_tasks.Given as goal

abbrev pub invariant-loop-k : goal.invariant-loop-k
invariant-loop-k l = l.k ≤ length (waits_of l.e)
