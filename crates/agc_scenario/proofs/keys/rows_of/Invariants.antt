use Rattle.std.proofs.Common.{◌≡◌, take}
use Rattle.agc_scenario.proofs.keys.rows_of.Given as goal

abbrev pub invariant-loop-row : goal.invariant-loop-row
invariant-loop-row l = l.stolen.items ≡ take l.row-index l.rows
