use Rattle.std.proofs.Common.{◌≡◌, take}
use Rattle.agc_plan.specs.Plans.{one_each}
use Rattle.agc_plan.proofs.plan.listed_rows.Given as goal

abbrev pub invariant-loop-row : goal.invariant-loop-row
invariant-loop-row l = l.own.items ≡ one_each (take l.row-index l.rows)
