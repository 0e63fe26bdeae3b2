use Rattle.std.proofs.Common.{◌≡◌, [], drop, take}
use Rattle.agc_scenario.specs.Keys.{count_from_above}
use Rattle.agc_scenario.proofs.counting.count_from_above.Given as goal

abbrev pub invariant-loop-k : goal.invariant-loop-k
invariant-loop-k l = count_from_above (take l.k l.events) (drop l.k l.events) ≡ count_from_above [] l.events
