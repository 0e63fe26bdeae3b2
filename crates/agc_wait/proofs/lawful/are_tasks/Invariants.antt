use Rattle.std.proofs.Common.{◌≡◌, ◌<◌}
use Rattle.agc_wait.specs.Parts.{AreTasks}
use Rattle.agc_wait.specs.Writing.{distance_in}
use Rattle.agc_wait.proofs.lawful.are_tasks.Given as goal

abbrev pub invariant-loop-k : goal.invariant-loop-k
invariant-loop-k l = AreTasks l.e l.k × (l.k < l.count → l.distance ≡ distance_in l.e l.k)
