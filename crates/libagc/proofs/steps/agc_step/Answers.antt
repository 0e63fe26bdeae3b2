use Rattle.std.proofs.Common.{sym, ◌∙◌}
use Rattle.libagc.proofs.steps.agc_step.Goals as goal

pub returns-in-None-lacks-clause-served : goal.returns-in-None-lacks-clause-served
returns-in-None-lacks-clause-served c = λ zero. record {
  request = c.in-Some.asked;
  asked_is = sym c.request_of.ensures ∙ c.in-Some.is;
  steps = c.serve.ensures.served c.args.sets c.in-Ok.ensures.image.count c.in-Ok.ensures.opened;
}
