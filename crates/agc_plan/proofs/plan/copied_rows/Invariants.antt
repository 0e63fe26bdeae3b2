use Rattle.std.proofs.Common.{◌≡◌, take}
use Rattle.agc_plan.proofs.plan.copied_rows.Given as goal

abbrev pub invariant-loop-row : goal.invariant-loop-row
invariant-loop-row l = l.own.items ≡ take l.row-index l.rows
