use Rattle.std.proofs.Common.{◌≡◌, drop}
use Rattle.libagc.specs.Times.{steals_twice}
use Rattle.libagc.proofs.times.steals_twice.Given as goal

abbrev pub invariant-loop-k : goal.invariant-loop-k
invariant-loop-k l = steals_twice (drop l.k l.rows) ≡ steals_twice l.rows
