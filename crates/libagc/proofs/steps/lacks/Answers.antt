use Rattle.std.proofs.Common.{ap, inr}
use Rattle.libagc.specs.Codes.{code_for}
use Rattle.libagc.proofs.steps.lacks.Goals as goal

pub returns-in-Some : goal.returns-in-Some
returns-in-Some c = c.in-Some.ensures.lacks _

pub returns-in-None : goal.returns-in-None
returns-in-None c = inr (inr (c.in-None.ensures.ready, ap code_for c.plan_lacks.ensures.first))
