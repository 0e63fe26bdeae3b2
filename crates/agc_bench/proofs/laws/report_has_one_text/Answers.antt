use Rattle.agc_bench.proofs.Texts.{one_run_text}
use Rattle.agc_bench.proofs.laws.report_has_one_text.Goals as goal

pub returns : goal.returns
returns g c these those one other machine settled = one_run_text _ _ _ these those one other machine settled
