use Rattle.std.proofs.Common.{arith}
use Rattle.agc_text.specs.Report.{full_line, lines, lines_text}
use Rattle.agc_text.specs.declared.reporting.ReportLine.TheVariants.{Vac}
use Rattle.agc_text.proofs.Steps.{up_to_start, up_to_item, up_to_last, up_to_more, fails_next}
use Rattle.agc_text.proofs.reporting.put_lines.Goals as goal

pub returns-in_err-put_line : goal.returns-in_err-put_line
returns-in_err-put_line g c =
    fails_next _ _ _ _ _ _ c.from_residual.result
    (up_to_item (full_line c.args.words.now c.args.totals.now) _ _ _ lines c.loop-line.line-index Vac (omega arith) c.loop-line.invariant)
    c.in_err-put_line.ensures c.from_residual.ensures.0

pub loop-line-preserved : goal.loop-line-preserved
loop-line-preserved g c =
    up_to_more _ _ _ _ _ _
    (up_to_item (full_line c.args.words.now c.args.totals.now) _ _ _ lines c.loop-line.line-index Vac (omega arith) c.loop-line.invariant)
    c.in_ok-put_line.ensures

pub loop-line-init : goal.loop-line-init
unfolding lines_text full_line
loop-line-init g c = up_to_start _ _

pub returns : goal.returns
returns g c = up_to_last (full_line c.args.words.now c.args.totals.now) _ _ _ lines c.loop-line.line-index (omega arith) c.loop-line.invariant
