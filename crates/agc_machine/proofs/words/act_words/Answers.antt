use Rattle.std.proofs.Common.{refl}
use Rattle.agc_word.specs.Layout.{sets_in}
use Rattle.agc_plan.specs.Plans.{planned_with}
use Rattle.agc_plan.specs.Seats.{places_acted}
use Rattle.agc_plan.specs.Steps.{acted}
use Rattle.agc_exec.specs.Image.{entries_in}
use Rattle.agc_wait.specs.Table.{waits_of}
use Rattle.agc_wait.proofs.Dues.{is_due-none}
use Rattle.agc_machine.proofs.Stepping.{ready_by, tables_of, tidy_of, stands_by, told_by}
use Rattle.agc_machine.proofs.words.act_words.Goals as goal

pub act_told-requires-clause-ready : goal.act_told-requires-clause-ready
act_told-requires-clause-ready g c = ready_by c.args.e.now c.requires.lawful c.requires.tidy

pub returns : goal.returns
returns g c = record {
  lawful = tables_of c.act_told.new.e c.act_told.ensures.acts.sound;
  tidy = tidy_of c.act_told.new.e c.act_told.ensures.acts.sound;
  none_due = λ goes. is_due-none (waits_of c.act_told.new.e) (c.act_told.ensures.none_due goes);
  same_length = c.act_told.ensures.acts.same_length;
  acts = told_by (acted (planned_with (g.P.Plans.written c.args.plan.now) (sets_in c.args.e.now)) c.args.request.now) (places_acted (planned_with (g.P.Plans.written c.args.plan.now) (sets_in c.args.e.now)) c.args.request.now) c.args.e.now c.act_told.new.e c.act_told.result.0 c.act_told.ensures.acts.steps;
  fired = λ plain stands. c.act_told.ensures.fired plain (entries_in c.args.e.now) (stands_by c.args.e.now plain (entries_in c.args.e.now) stands refl);
  raised = λ plain stands. c.act_told.ensures.raised plain (entries_in c.args.e.now) (stands_by c.args.e.now plain (entries_in c.args.e.now) stands refl);
}
