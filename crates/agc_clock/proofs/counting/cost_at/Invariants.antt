use Rattle.std.proofs.Common.{◌≡◌, length, drop}
use Rattle.agc_clock.specs.Timetables.{cost_at}
use Rattle.agc_clock.proofs.counting.cost_at.Given as goal

abbrev pub invariant-loop-row : goal.invariant-loop-row
invariant-loop-row g l = record {
  rest : cost_at (drop l.row (g.T.Timetables.set_down l.table).costs) l.at
      ≡ cost_at (g.T.Timetables.set_down l.table).costs l.at;
  end : l.row-end ≡ length (g.T.Timetables.set_down l.table).costs;
}
