use Rattle.std.proofs.Common.{◌≡◌, ◌≤◌, ◌++◌, length, drop}
use Rattle.agc_run.proofs.observed_run.copy_of.Given as goal

abbrev pub invariant-loop-k : goal.invariant-loop-k
invariant-loop-k l = record {
  rest : l.copy ++ drop l.k l.fn.fired ≡ l.fn.fired;
  len : length l.copy ≤ l.k;
}
