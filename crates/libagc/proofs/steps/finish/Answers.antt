use Rattle.std.proofs.Common.{sym, ◌∙◌}
use Rattle.libagc.specs.Plans.{plan_from_c}
use Rattle.agc_wait.specs.Table.{waits_of}
use Rattle.agc_wait.proofs.Dues.{is_due-none}
use Rattle.agc_machine.proofs.Stepping.{tables_of, tidy_of, ended_by}
use Rattle.libagc.specs.Stepping.{plan_for}
use Rattle.libagc.proofs.Stepping.{steps_at_once}
use Rattle.libagc.proofs.steps.finish.Goals as goal

pub finish_words-requires : goal.finish_words-requires
finish_words-requires c = record {
  lawful = tables_of c.args.image.now c.requires.sound;
  tidy = tidy_of c.args.image.now c.requires.sound;
  none_due = λ goes. is_due-none (waits_of c.args.image.now) (c.requires.none_due goes);
}

pub returns-then-begins : goal.returns-then-begins
returns-then-begins c = record {
  steps = λ asked old did.
      ended_by (plan_from_c c.args.plan.now.rows.now c.args.plan.now.entries.now) asked old c.args.image.now c.finish_words.new.e c.args.reply.now did c.finish_words.ensures.lawful c.finish_words.ensures.tidy c.finish_words.ensures.same_length c.finish_words.ensures.ends;
  written = c.write_back.ensures;
}

pub returns-else-begins : goal.returns-else-begins
returns-else-begins c = record {
  steps = λ asked old did.
      let on = sym c.begins.ensures ∙ c.if-begins.false in
      steps_at_once (plan_for c.args.plan.now.rows.now c.args.plan.now.entries.now old) asked c.args.reply.now old c.args.image.now did on (c.requires.none_due on);
  written = c.requires.written;
}
