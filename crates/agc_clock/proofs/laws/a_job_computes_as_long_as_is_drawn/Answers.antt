use Rattle.agc_clock.proofs.Drawing.{asked_when_drawn, nothing_before}
use Rattle.agc_clock.proofs.laws.a_job_computes_as_long_as_is_drawn.Goals as goal

pub returns-clause-asked : goal.returns-clause-asked
returns-clause-asked c = asked_when_drawn

pub returns-clause-before : goal.returns-clause-before
returns-clause-before c = nothing_before
