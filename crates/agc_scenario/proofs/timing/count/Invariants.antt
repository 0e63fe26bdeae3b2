use Rattle.std.proofs.Common.{◌≡◌, ◌++◌, [], drop, take}
use Rattle.agc_scenario.specs.Scenarios.{with_bases}
use Rattle.agc_scenario.proofs.timing.count.Given as goal

abbrev pub invariant-loop-k : goal.invariant-loop-k
invariant-loop-k l = take l.k l.events.items ++ with_bases (take l.k l.events.items) (drop l.k l.events.items) ≡ with_bases [] l.initial.events.items
