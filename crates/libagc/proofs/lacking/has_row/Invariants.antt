use Rattle.std.proofs.Common.{◌≡◌, drop}
use Rattle.agc_plan.specs.Plans.{has_task}
use Rattle.libagc.specs.Plans.{rows_from_c}
use Rattle.libagc.proofs.lacking.has_row.Given as goal

abbrev pub invariant-loop-row : goal.invariant-loop-row
invariant-loop-row l = has_task (rows_from_c (drop l.row-index l.rows)) (record { at = l.at; bank = l.bank }) ≡ has_task (rows_from_c l.rows) (record { at = l.at; bank = l.bank })
