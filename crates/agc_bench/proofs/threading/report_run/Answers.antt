use Rattle.agc_text.proofs.Steps.{writes_first, writes_second}
use Rattle.agc_bench.proofs.Early.{settled_written}
use Rattle.agc_bench.proofs.threading.report_run.Goals as goal

pub returns-in_err-report : goal.returns-in_err-report
returns-in_err-report g c =
    settled_written _ _ c.args.machine.now c.args.totals.now c.args.settled.now _ c.words.result c.from_residual.result c.sets.ensures c.words.ensures
    (writes_first _ _ _ _ c.from_residual.result c.in_err-report.ensures c.from_residual.ensures.0)

pub returns : goal.returns
returns g c =
    settled_written _ _ c.args.machine.now c.args.totals.now c.args.settled.now _ c.words.result c.report_pulses.result c.sets.ensures c.words.ensures
    (writes_second _ _ _ _ _ c.report_pulses.result c.in_ok-report.ensures c.report_pulses.ensures)
