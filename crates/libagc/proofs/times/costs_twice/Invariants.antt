use Rattle.std.proofs.Common.{◌≡◌, drop}
use Rattle.libagc.specs.Times.{costs_twice}
use Rattle.libagc.proofs.times.costs_twice.Given as goal

abbrev pub invariant-loop-k : goal.invariant-loop-k
invariant-loop-k l = costs_twice (drop l.k l.rows) ≡ costs_twice l.rows
