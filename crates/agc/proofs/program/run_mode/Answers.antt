use Rattle.agc.proofs.Through.{through_fault, through_flush}
use Rattle.agc.proofs.program.run_mode.Goals as goal

pub returns-in_err-run_input-clause-runs : goal.returns-in_err-run_input-clause-runs
returns-in_err-run_input-clause-runs g c =
    through_fault c.args.mode _ _ _ _ c.in_err-run_input.field-0.0 c.from_residual.result c.in_err-run_input.ensures c.from_residual.ensures.1

pub returns-clause-runs : goal.returns-clause-runs
returns-clause-runs g c =
    through_flush c.args.mode _ _ _ _ _ c.run_input.result c.flush_output.result _ c.run_input.ensures c.in_ok-run_input.was c.flush_output.ensures.refused c.flush_output.ensures.kept
