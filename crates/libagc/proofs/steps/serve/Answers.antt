use Rattle.std.proofs.Common.{List, ℕ, ap, length, subst, ◌∙◌, sym}
use Rattle.agc_machine.proofs.Frames.{none_counted}
use Rattle.agc_machine.proofs.Stepping.{sound_of, lawful_by, tidy_of, words_stand, acts_by}
use Rattle.agc_machine.specs.Stands.{Acts, FiresIn, RaisesIn}
use Rattle.libagc.specs.Stepping.{step_to_c, plan_for}
use Rattle.libagc.proofs.Stepping.{stepped, acted, rewritten, as_written}
use Rattle.libagc.proofs.steps.serve.Goals as goal

pub act_words-reply-requires : goal.act_words-reply-requires
act_words-reply-requires c = record {
  lawful = lawful_by c.args.image.now c.requires.ready;
  tidy = tidy_of c.args.image.now c.requires.ready.sound;
}

pub finish-requires-clause-sound : goal.finish-requires-clause-sound
finish-requires-clause-sound c = sound_of c.act_words-reply.new.e c.act_words-reply.ensures.lawful c.act_words-reply.ensures.tidy

pub finish-requires-clause-none_due : goal.finish-requires-clause-none_due
finish-requires-clause-none_due c = λ goes. none_counted c.act_words-reply.new.e c.act_words-reply.ensures.lawful.waits (c.act_words-reply.ensures.none_due goes)

pub finish-requires-clause-written : goal.finish-requires-clause-written
finish-requires-clause-written c = as_written _ _ _ c.write_back.ensures

pub returns-clause-served : goal.returns-clause-served
returns-clause-served c = λ sets valid opened.
    let rows = c.args.plan.now.rows.now in
    let entries = c.args.plan.now.entries.now in
    let did = c.act_words-reply in
    let acts : Acts (plan_for c.args.plan.now.rows.now c.args.plan.now.entries.now c.args.image.now) c.args.request.now c.args.image.now c.act_words-reply.result.0 c.act_words-reply.new.e =
    acts_by (plan_for c.args.plan.now.rows.now c.args.plan.now.entries.now c.args.image.now) c.args.request.now c.args.image.now c.act_words-reply.new.e c.act_words-reply.result.0 c.act_words-reply.ensures.lawful c.act_words-reply.ensures.tidy c.act_words-reply.ensures.same_length c.act_words-reply.ensures.acts in
    let fires : FiresIn (plan_for c.args.plan.now.rows.now c.args.plan.now.entries.now c.args.image.now) c.args.request.now c.args.image.now c.act_words-reply.new.fired =
    λ plain places stands. c.act_words-reply.ensures.fired plain (words_stand c.args.image.now plain places stands) in
    let raises : RaisesIn (plan_for c.args.plan.now.rows.now c.args.plan.now.entries.now c.args.image.now) c.args.request.now c.args.image.now c.act_words-reply.result.1 =
    λ plain places stands. c.act_words-reply.ensures.raised plain (words_stand c.args.image.now plain places stands) in
    let steps = c.finish.ensures.steps c.args.request.now c.args.image.now acts in
    record {
      reply = did.result.0;
      fired = did.new.fired;
      action = did.result.1;
      told = c.of.ensures.reply
          ∙ ap (λ (n : ℕ). step_to_c did.result.0 n c.action_to_c.result) c.len.ensures.value
          ∙ ap (λ (n : ℕ). step_to_c did.result.0 (length did.new.fired) n) c.action_to_c.ensures;
      handed_out = c.hand_out.ensures;
      fires = subst (λ (w : List ℕ). FiresIn (plan_for rows entries w) c.args.request.now w did.new.fired) opened.image fires;
      raises = subst (λ (w : List ℕ). RaisesIn (plan_for rows entries w) c.args.request.now w did.result.1) opened.image raises;
      acted = acted rows entries c.args.request.now did.result.0 sets c.args.words.now c.write_back.new.array c.args.image.now did.new.e valid opened acts c.write_back.ensures;
      changed = stepped rows entries c.args.request.now did.result.0 sets c.args.words.now c.finish.new.words c.args.image.now c.finish.new.image valid opened steps
          (rewritten did.new.e c.finish.new.image c.args.words.now c.write_back.new.array c.finish.new.words c.write_back.ensures c.finish.ensures.written (steps.same_length ∙ sym acts.same_length));
    }

pub returns-clause-code : goal.returns-clause-code
returns-clause-code c = c.of.ensures.served
