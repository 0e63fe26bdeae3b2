use Rattle.agc_session.specs.Runs.{bench_machine, bench_requests}
use Rattle.agc_session.proofs.Sessions.{from_machine}
use Rattle.agc_session.proofs.run.serial.Goals as goal

pub returns : goal.returns
returns g c =
    let old = g.W.Write.contents c.args.writer.now in
    from_machine old (g.W.Write.contents c.end_with_report.new.writer) (bench_machine c.args.bench.now) c.in_ok-machine.machine (bench_requests c.args.bench.now) c.end_with_report.result c.in_ok-machine.ensures.machine
    (c.end_with_report.ensures c.in_ok-machine.machine (bench_requests c.args.bench.now) old c.ask_bench-asked.ensures)
