use Rattle.std.proofs.Common.{sym, ◌∙◌}
use Rattle.libagc.proofs.Finding.{has_first}
use Rattle.libagc.proofs.lacking.has_row.Goals as goal

pub returns-then-row-bank : goal.returns-then-row-bank
returns-then-row-bank c =
    sym (has_first c.args.rows.now c.loop-row.row-index _ (record { at = c.args.at; bank = c.args.bank }) c.loop-row-test.true c.if-row-at.true c.if-row-bank.true) ∙ c.loop-row.invariant
