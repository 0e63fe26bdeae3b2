use Rattle.std.proofs.Common.{◌≡◌, ℕ, ◌<◌, ◌≤◌, Some, slice_get}
use Rattle.agc_plan.specs.declared.request.Task.{Task}
use Rattle.libagc.specs.Stepping.{fired_to_c}
use Rattle.libagc.proofs.steps.hand_out.Given as goal

abbrev pub invariant-loop-k : goal.invariant-loop-k
invariant-loop-k l = record {
  first : (j : ℕ) (task : Task) → j < l.k → slice_get l.list j ≡ Some task → slice_get l.fired j ≡ Some (fired_to_c task);
  others : (j : ℕ) → l.k ≤ j → slice_get l.fired j ≡ slice_get l.fn.fired j;
}
