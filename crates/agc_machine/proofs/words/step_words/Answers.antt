use Rattle.agc_word.specs.Layout.{sets_in}
use Rattle.agc_plan.specs.Plans.{planned_with}
use Rattle.agc_plan.specs.Seats.{places_after}
use Rattle.agc_plan.specs.Steps.{step}
use Rattle.agc_machine.proofs.Stepping.{ready_by, lawful_by, tidy_of, told_by}
use Rattle.agc_machine.proofs.words.step_words.Goals as goal

pub step-requires-clause-ready : goal.step-requires-clause-ready
step-requires-clause-ready c = ready_by c.args.e.now c.requires.lawful c.requires.tidy

pub returns : goal.returns
returns c = record {
  lawful = lawful_by c.step.new.e c.step.ensures.steps.ready;
  tidy = tidy_of c.step.new.e c.step.ensures.steps.ready.sound;
  same_length = c.step.ensures.steps.same_length;
  steps = told_by (step (planned_with c.args.plan.now (sets_in c.args.e.now)) c.args.request.now) (places_after (planned_with c.args.plan.now (sets_in c.args.e.now)) c.args.request.now) c.args.e.now c.step.new.e c.step.result c.step.ensures.steps.steps;
}
