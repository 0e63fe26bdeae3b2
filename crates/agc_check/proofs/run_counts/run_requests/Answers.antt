use Rattle.std.proofs.Common.{◌∙◌, ap}
use Rattle.agc_run.specs.Runs.{all_to_ask}
use Rattle.agc_run.proofs.Following.{asked_all, script_requests}
use Rattle.agc_session.specs.Runs.{script_machine}
use Rattle.agc_check.proofs.run_counts.run_requests.Goals as goal

pub returns : goal.returns
returns c whole =
    c.into_machine.ensures ∙ c.run_most-ran.ensures whole
    ∙ asked_all _ _ script_machine (λ m. c.args.requests.now) (c.new-run.ensures.machine ∙ c.in-Ok.ensures.machine) (script_requests c.args.requests.now _ (λ k. ap (all_to_ask k) c.new-run.ensures.pending ∙ c.of_walk-pending.ensures k ∙ c.of_script.ensures))
