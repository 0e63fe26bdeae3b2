use Rattle.std.proofs.Common.{Option, IfSome, sym, subst, ◌∙◌}
use Rattle.agc_clock.specs.declared.counting.JobAt.{JobAt}
use Rattle.agc_clock.proofs.Seats.{IsNumbered, runner_is, runner_numbered}
use Rattle.agc_clock.proofs.counting.runner.Goals as goal

pub returns-clause-runner : goal.returns-clause-runner
returns-clause-runner c = c.runner_in.ensures ∙ runner_is c.args.words.now c.job_at.result c.requires c.job_at.ensures

pub returns-clause-number : goal.returns-clause-number
returns-clause-number c = subst (λ (o : Option JobAt). IfSome o IsNumbered) (sym c.runner_in.ensures) (runner_numbered c.args.words.now c.job_at.result c.requires c.job_at.ensures)
