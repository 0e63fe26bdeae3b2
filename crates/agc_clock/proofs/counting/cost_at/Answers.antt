use Rattle.std.proofs.Common.{◌≤◌, length, sym, ◌∙◌, arith}
use Rattle.agc_clock.proofs.Scanning.{this_cost, later_cost, no_row}
use Rattle.agc_clock.proofs.counting.cost_at.Goals as goal
use Rattle.agc_clock.proofs.counting.cost_at.Goals.{in-None, in-Some+else-get-at}

pub returns-then-get-at : goal.returns-then-get-at
returns-then-get-at g c =
    sym (this_cost (g.T.Timetables.set_down c.args.table.now).costs c.loop-row.row c.args.at c.in-Some.cost (sym c.cost.ensures ∙ c.in-Some.is) (sym c.get.ensures.value ∙ c.if-get-at.true))
    ∙ c.loop-row.invariant.rest

pub loop-row-preserved : goal.loop-row-preserved
loop-row-preserved g c =
    let costs = (g.T.Timetables.set_down c.args.table.now).costs in
    record {
      rest = elim c.match-cost.branch [
        | in-None w ↦ absurd (let past : length costs ≤ c.loop-row.row = no_row costs c.loop-row.row (sym c.cost.ensures ∙ w.in-None.is) in omega arith)
        | in-Some+else-get-at w ↦ sym (later_cost costs c.loop-row.row c.args.at w.in-Some.cost (sym c.cost.ensures ∙ w.in-Some.is) (λ same. w.if-get-at.false (w.get.ensures.value ∙ same))) ∙ c.loop-row.invariant.rest
      ];
      end = c.loop-row.invariant.end;
    }
