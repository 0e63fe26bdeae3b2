use Rattle.std.proofs.Common.{◌≡◌, ◌≤◌}
use Rattle.agc_image.specs.Rules.{best_set}
use Rattle.agc_image.proofs.explaining.best_set.Given as goal

abbrev pub invariant-loop-set : goal.invariant-loop-set
invariant-loop-set l = record {
  set : l.best ≡ best_set l.words l.set;
  range : l.best ≤ 7;
}
