use Rattle.std.proofs.Common.{◌∙◌}
use Rattle.agc_run.specs.Subjects.{machine_of, requests_of}
use Rattle.agc_run.proofs.Following.{asked_all, its_requests}
use Rattle.agc_check.proofs.run_counts.run_subject.Goals as goal

pub returns : goal.returns
returns c whole =
    c.into_machine.ensures ∙ c.run_most-ran.ensures whole
    ∙ asked_all _ _ (machine_of c.args.subject) (requests_of c.args.subject) c.in-Ok.ensures.machine (its_requests c.args.subject _ c.in-Ok.ensures.pending)
