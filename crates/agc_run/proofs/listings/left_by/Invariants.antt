use Rattle.std.proofs.Common.{◌≡◌, ◌+◌, ◌≤◌, ◌++◌, length, map, drop}
use Rattle.agc_run.specs.Origins.{left_by, nearer}
use Rattle.agc_run.proofs.listings.left_by.Given as goal

abbrev pub invariant-loop-k : goal.invariant-loop-k
invariant-loop-k l = record {
  rest : l.left ++ map (nearer l.ticked) (drop l.k l.listings) ≡ left_by l.ticked l.fired l.initial.listings;
  len : length l.left + l.fired ≤ l.k;
}
