use Rattle.agc_bench.proofs.Early.{early_writes, output_writes, run_written}
use Rattle.agc_bench.proofs.threading.threads.Goals as goal

pub returns-in_err-machine-2 : goal.returns-in_err-machine-2
returns-in_err-machine-2 g c =
    early_writes _ _ c.args.bench.now _ c.in_err-machine-2.field-0.0 c.from_residual-in_err-machine-2.result c.in_err-machine-2.ensures.early
    c.from_residual-in_err-machine-2.ensures.0 c.from_residual-in_err-machine-2.ensures.1

pub returns-in_err-report_run : goal.returns-in_err-report_run
returns-in_err-report_run g c =
    output_writes _ _ c.args.bench.now c.in_ok-machine-2.machine c.in_ok-machine-2.totals c.in_ok-machine-2.settled _ _ c.from_residual-in_err-report_run.result c.in_ok-machine-2.ensures.run
    c.in_ok-machine-2.ensures.totals c.in_ok-machine-2.ensures.pulses c.in_err-report_run.ensures c.from_residual-in_err-report_run.ensures.0 c.from_residual-in_err-report_run.ensures.1

pub returns : goal.returns
returns g c =
    run_written _ _ c.args.bench.now c.in_ok-machine-2.machine c.in_ok-machine-2.totals c.in_ok-machine-2.settled _ _ c.in_ok-machine-2.ensures.run
    c.in_ok-machine-2.ensures.totals c.in_ok-machine-2.ensures.pulses c.in_ok-report_run.ensures
