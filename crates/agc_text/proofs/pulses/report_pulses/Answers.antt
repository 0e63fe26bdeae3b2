use Rattle.agc_text.proofs.Steps.{writes_first, writes_second}
use Rattle.agc_text.proofs.pulses.report_pulses.Goals as goal

pub returns-in_err-put_counts : goal.returns-in_err-put_counts
returns-in_err-put_counts g c =
    writes_first _ _ _ _ c.from_residual.result c.in_err-put_counts.ensures c.from_residual.ensures.0

pub returns-in_err-put_counts-2 : goal.returns-in_err-put_counts-2
returns-in_err-put_counts-2 g c =
    writes_second _ _ _ _ _ c.from_residual-in_err-put_counts-2.result c.in_ok-put_counts.ensures
    (writes_first _ _ _ _ c.from_residual-in_err-put_counts-2.result c.in_err-put_counts-2.ensures c.from_residual-in_err-put_counts-2.ensures.0)

pub returns : goal.returns
returns g c =
    writes_second _ _ _ _ _ c.put_counts-3.result c.in_ok-put_counts.ensures
    (writes_second _ _ _ _ _ c.put_counts-3.result c.in_ok-put_counts-2.ensures c.put_counts-3.ensures)
