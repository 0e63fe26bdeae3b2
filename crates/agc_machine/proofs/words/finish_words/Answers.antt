use Rattle.std.proofs.Common.{refl, sym, ap, ◌∙◌}
use Rattle.agc_word.specs.Layout.{sets_in}
use Rattle.agc_plan.specs.Plans.{planned_with}
use Rattle.agc_phase.specs.Image.{base_of}
use Rattle.agc_machine.specs.Stands.{base_with}
use Rattle.agc_machine.proofs.Alarms.{base_by_alarm}
use Rattle.agc_machine.proofs.Stepping.{lawful_by, tidy_of, ends_over, ends_on}
use Rattle.agc_machine.proofs.words.finish_words.Goals as goal

pub returns-then-begins : goal.returns-then-begins
returns-then-begins g c = record {
  lawful = lawful_by c.begin_after.new.e c.begin_after.ensures.ready;
  tidy = tidy_of c.begin_after.new.e c.begin_after.ensures.ready.sound;
  same_length = c.begin_after.ensures.same_length;
  ends = ends_over (planned_with (g.P.Plans.written c.args.plan.now) (sets_in c.args.e.now)) c.args.reply.now c.args.e.now c.begin_after.new.e (sym c.begins.ensures ∙ c.if-begins.true)
      (c.begin_after.ensures.base_is ∙ ap (λ a. base_with a (base_of c.args.e.now)) c.alarm.ensures ∙ base_by_alarm c.args.reply.now (base_of c.args.e.now)) c.begin_after.ensures.stands;
}

pub returns-else-begins : goal.returns-else-begins
returns-else-begins g c =
    let on = sym c.begins.ensures ∙ c.if-begins.false in
    record {
      lawful = record { tables = c.requires.lawful; none_due = c.requires.none_due on };
      tidy = c.requires.tidy;
      same_length = refl;
      ends = ends_on (planned_with (g.P.Plans.written c.args.plan.now) (sets_in c.args.e.now)) c.args.reply.now c.args.e.now on;
    }
