use Rattle.std.proofs.Common.{◌≡◌, drop}
use Rattle.agc_plan.specs.Plans.{task_twice}
use Rattle.libagc.specs.Plans.{rows_from_c}
use Rattle.libagc.proofs.lacking.task_twice.Given as goal

abbrev pub invariant-loop-k : goal.invariant-loop-k
invariant-loop-k l = task_twice (rows_from_c (drop l.k l.rows)) ≡ task_twice (rows_from_c l.rows)
