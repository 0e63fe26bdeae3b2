use Rattle.std.proofs.Common.{◌≡◌, drop}
use Rattle.agc_clock.specs.Timetables.{stolen_at}
use Rattle.agc_clock.proofs.counting.stolen_at.Given as goal

abbrev pub invariant-loop-row : goal.invariant-loop-row
invariant-loop-row l = stolen_at (drop l.row-index l.rows) l.time ≡ stolen_at l.rows l.time
