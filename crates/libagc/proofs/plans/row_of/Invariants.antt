use Rattle.std.proofs.Common.{◌≡◌, drop}
use Rattle.agc_plan.specs.Plans.{actions_in}
use Rattle.libagc.specs.Plans.{rows_from_c}
use Rattle.libagc.proofs.plans.row_of.Given as goal

abbrev pub invariant-loop-row : goal.invariant-loop-row
invariant-loop-row l = actions_in (rows_from_c (drop l.row-index l.rows)) l.task ≡ actions_in (rows_from_c l.rows) l.task
