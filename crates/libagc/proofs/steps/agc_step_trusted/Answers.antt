use Rattle.std.proofs.Common.{sym, ◌∙◌}
use Rattle.libagc.proofs.steps.agc_step_trusted.Goals as goal

pub returns-in-Some-clause-served : goal.returns-in-Some-clause-served
returns-in-Some-clause-served c = λ zero. record {
  request = c.in-Some.asked;
  asked_is = sym c.request_of.ensures ∙ c.in-Some.is;
  steps = c.serve.ensures.served c.args.sets c.requires.image.count c.open.ensures;
}
