use Rattle.agc_session.proofs.OneText.{one_report}
use Rattle.agc_session.proofs.laws.machine_has_one_report.Goals as goal

pub returns : goal.returns
returns c = one_report
