use Rattle.std.proofs.Common.{◌≡◌, ◌≤◌, ◌*◌, ◌+◌}
use Rattle.agc_image.specs.Rules.{left_at}
use Rattle.agc_image.proofs.explaining.left_at.Given as goal

abbrev pub invariant-loop-k : goal.invariant-loop-k
invariant-loop-k l = record {
  value : l.left ≡ left_at l.words l.k;
  bound : l.left ≤ 16384 * (l.k + 1);
}
