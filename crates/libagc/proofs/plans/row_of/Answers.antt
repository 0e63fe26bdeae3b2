use Rattle.std.proofs.Common.{sym, ◌∙◌}
use Rattle.libagc.proofs.Finding.{first_row}
use Rattle.libagc.proofs.plans.row_of.Goals as goal

pub returns-then-row-bank-clause-row : goal.returns-then-row-bank-clause-row
returns-then-row-bank-clause-row c =
    sym (first_row c.args.rows.now c.loop-row.row-index _ c.args.task.now c.loop-row-test.true (c.if-row-at.true ∙ c.from-at.ensures ∙ c.get.ensures.value) (c.if-row-bank.true ∙ c.from-bank.ensures ∙ c.bits.ensures.value)) ∙ c.loop-row.invariant
