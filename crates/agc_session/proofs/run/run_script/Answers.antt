use Rattle.agc_session.specs.Runs.{script_machine}
use Rattle.agc_session.proofs.Sessions.{from_machine}
use Rattle.agc_session.proofs.run.run_script.Goals as goal

pub returns : goal.returns
returns g c =
    let old = g.W.Write.contents c.args.writer.now in
    from_machine old (g.W.Write.contents c.end_with_report.new.writer) script_machine c.in_ok-machine.machine c.args.requests.now c.end_with_report.result c.in_ok-machine.ensures.machine
    (c.end_with_report.ensures c.in_ok-machine.machine c.args.requests.now old c.ask_all-asked.ensures)
