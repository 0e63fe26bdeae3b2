use Rattle.std.proofs.Common.{ℕ, sym, ap, ◌∙◌, subst}
use Rattle.agc_word.specs.Layout.{sets_in}
use Rattle.agc_plan.specs.Plans.{planned_with}
use Rattle.agc_phase.specs.Image.{base_of}
use Rattle.agc_machine.specs.Stands.{base_with, BeginsAfter}
use Rattle.agc_machine.proofs.Beginning.{same_sets}
use Rattle.agc_machine.proofs.Alarms.{base_by_alarm}
use Rattle.agc_machine.proofs.Stepping.{steps_over, steps_on}
use Rattle.agc_machine.proofs.moment.step_with_snapshot.Goals as goal

pub returns-then-begins-clause-steps : goal.returns-then-begins-clause-steps
returns-then-begins-clause-steps g c =
    let did = c.act_told-number.ensures.acts in
    let after : BeginsAfter (planned_with (g.P.Plans.written c.args.plan.now) (sets_in c.args.e.now)) c.alarm.result c.act_told-number.new.e c.begin_after.new.e = subst (λ (n : ℕ). BeginsAfter (planned_with (g.P.Plans.written c.args.plan.now) n) c.alarm.result c.act_told-number.new.e c.begin_after.new.e) (same_sets c.args.e.now c.act_told-number.new.e did.same_length) c.begin_after.ensures in
    record {
      ready = after.ready;
      same_length = after.same_length ∙ did.same_length;
      steps = λ plain places stands.
          steps_over (planned_with (g.P.Plans.written c.args.plan.now) (sets_in c.args.e.now)) c.args.request.now plain places c.act_told-number.new.e c.begin_after.new.e c.act_told-number.result.0 (did.steps plain places stands) (sym c.begins.ensures ∙ c.if-begins.true)
          (after.base_is ∙ ap (λ a. base_with a (base_of c.act_told-number.new.e)) c.alarm.ensures ∙ base_by_alarm c.act_told-number.result.0 (base_of c.act_told-number.new.e)) after.stands;
    }

pub returns-else-begins-clause-steps : goal.returns-else-begins-clause-steps
returns-else-begins-clause-steps g c =
    let did = c.act_told-number.ensures.acts in
    let on = sym c.begins.ensures ∙ c.if-begins.false in
    record {
      ready = record { sound = did.sound; none_due = c.act_told-number.ensures.none_due on };
      same_length = did.same_length;
      steps = λ plain places stands.
          steps_on (planned_with (g.P.Plans.written c.args.plan.now) (sets_in c.args.e.now)) c.args.request.now plain places c.act_told-number.new.e c.act_told-number.result.0 (did.steps plain places stands) on;
    }
