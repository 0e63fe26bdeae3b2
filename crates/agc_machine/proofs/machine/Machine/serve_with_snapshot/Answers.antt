use Rattle.std.proofs.Common.{◌≡◌, ℕ, None, List, refl, sym, ◌∙◌, subst, ap, true}
use Rattle.std.proofs.lemmas.Bool.{true≢false}
use Rattle.agc_machine.specs.Machines.{places_of}
use Rattle.agc_machine.specs.Moments.{IsMoment, Acting}
use Rattle.agc_machine.proofs.Stepping.{tables_of, tidy_of}
use Rattle.agc_plan.specs.declared.request.Request.{Request}
use Rattle.agc_plan.specs.Seats.{places_acted}
use Rattle.agc_plan.specs.Steps.{acted}
use Rattle.agc_machine.specs.Image.{IsImage}
use Rattle.agc_machine.specs.Stands.{Acts, FiresIn, RaisesIn, Steps}
use Rattle.std.specs.Vec.{vec_capacity}
use Rattle.agc_word.specs.Layout.{sets_in}
use Rattle.agc_plan.specs.Plans.{planned_with}
use Rattle.agc_plan.specs.Steps.{begins, fired_in, raised_in}
use Rattle.agc_machine.proofs.Beginning.{same_sets}
use Rattle.agc_machine.specs.Machines.{Machined, plain_of, refusal_of, stepped, served}
use Rattle.agc_machine.proofs.Serving.{IsKept, view_with, counts_fit, ready_of, stands_of, store_room, kept_stored}
use Rattle.agc_machine.proofs.machine.Machine.serve_with_snapshot.Goals as goal

-- of words that stand for what a machine reaches, where an era begins
moment_begun : (m : Machined) (words : List ℕ) (asked : Request) (moment : Acting) → IsImage m words → Acts m.plan asked words moment.reply moment.words → FiresIn m.plan asked words moment.fired → RaisesIn m.plan asked words moment.number → begins moment.reply ≡ true → IsMoment m asked moment
moment_begun m words asked moment image acts fires raises begun =
    let steps : Steps moment.words moment.reply (acted m.plan asked (plain_of m)) (places_acted m.plan asked (plain_of m) (places_of m)) = acts.steps (plain_of m) (places_of m) (stands_of m words image) in
    record {
      sets = same_sets words moment.words acts.same_length ∙ image.sets;
      tables = tables_of moment.words acts.sound;
      tidy = tidy_of moment.words acts.sound;
      none_due = λ goes. absurd (true≢false (sym begun ∙ goes));
      placed = sym steps.state.work.places_is;
      stands = record { jobs = sym steps.state.work.jobs_is; tasks = steps.state.work.agenda; base = sym steps.state.base_is };
      reply = steps.reply_is;
      fired = fires (plain_of m) (places_of m) (stands_of m words image);
      number = raises (plain_of m) (places_of m) (stands_of m words image);
    }

pub step_with_snapshot-reply-requires-clause-ready : goal.step_with_snapshot-reply-requires-clause-ready
step_with_snapshot-reply-requires-clause-ready c = ready_of _ c.self.inside.erasable c.self.invariant.0

pub note_served-requires : goal.note_served-requires
note_served-requires c =
    let e = subst (λ (m : Machined). refusal_of m c.args.request.now ≡ None) (sym c.self.view_is) c.requires.served in
    record {
      lawful = c.step_with_snapshot-reply.ensures.steps.ready.sound.phases;
      counts = counts_fit _ c.args.request.now c.self.invariant.0.machine e;
      space = λ goes.
          store_room _ c.args.request.now c.step_with_snapshot-reply.result _ c.self.invariant.0.machine c.self.invariant.1 e (c.step_with_snapshot-reply.ensures.steps.steps _ _ (stands_of _ c.self.inside.erasable c.self.invariant.0)).reply_is goes;
    }

pub invariant_of-self : goal.invariant_of-self
invariant_of-self c =
    let e = subst (λ (m : Machined). refusal_of m c.args.request.now ≡ None) (sym c.self.view_is) c.requires.served in
    let same : sets_in c.step_with_snapshot-reply.new.e ≡ sets_in c.self.inside.erasable = same_sets c.self.inside.erasable c.step_with_snapshot-reply.new.e c.step_with_snapshot-reply.ensures.steps.same_length in
    subst (λ (n : ℕ). IsKept (record { plan = planned_with c.self.inside.plan n; limit = c.self.inside.limit; allowance = c.self.inside.allowance; base = c.note_served.new.base; log = c.note_served.new.log.items; totals = c.note_served.new.totals }) c.step_with_snapshot-reply.new.e (vec_capacity c.note_served.new.log)) (sym same)
    (kept_stored _ c.args.request.now c.step_with_snapshot-reply.new.e c.step_with_snapshot-reply.result _ (begins c.step_with_snapshot-reply.result) c.note_served.new.base c.note_served.new.log.items c.note_served.new.totals c.self.invariant.0.machine (c.note_served.ensures.room ∙ c.self.invariant.1) e same c.step_with_snapshot-reply.ensures.steps.ready (c.step_with_snapshot-reply.ensures.steps.steps _ _ (stands_of _ c.self.inside.erasable c.self.invariant.0)) refl c.note_served.ensures.base c.note_served.ensures.log c.note_served.ensures.totals).0

pub returns-clause-reply : goal.returns-clause-reply
returns-clause-reply c =
    (c.step_with_snapshot-reply.ensures.steps.steps _ _ (stands_of _ c.self.inside.erasable c.self.invariant.0)).reply_is ∙ ap (λ (m : Machined). (stepped m c.args.request.now).reply) c.self.view_is

pub returns-clause-fired : goal.returns-clause-fired
returns-clause-fired c =
    c.step_with_snapshot-reply.ensures.fired _ _ (stands_of _ c.self.inside.erasable c.self.invariant.0) ∙ ap (λ (m : Machined). fired_in m.plan c.args.request.now (plain_of m)) c.self.view_is

pub returns-clause-raised : goal.returns-clause-raised
returns-clause-raised c =
    c.step_with_snapshot-reply.ensures.raised _ _ (stands_of _ c.self.inside.erasable c.self.invariant.0) ∙ ap (λ (m : Machined). raised_in m.plan c.args.request.now (plain_of m)) c.self.view_is

pub returns-clause-after : goal.returns-clause-after
returns-clause-after c =
    let e = subst (λ (m : Machined). refusal_of m c.args.request.now ≡ None) (sym c.self.view_is) c.requires.served in
    let same : sets_in c.step_with_snapshot-reply.new.e ≡ sets_in c.self.inside.erasable = same_sets c.self.inside.erasable c.step_with_snapshot-reply.new.e c.step_with_snapshot-reply.ensures.steps.same_length in
    view_with c.self.inside.plan c.self.inside.limit c.self.inside.allowance c.note_served.new.base c.note_served.new.log.items c.note_served.new.totals same
    ∙ (kept_stored _ c.args.request.now c.step_with_snapshot-reply.new.e c.step_with_snapshot-reply.result _ (begins c.step_with_snapshot-reply.result) c.note_served.new.base c.note_served.new.log.items c.note_served.new.totals c.self.invariant.0.machine (c.note_served.ensures.room ∙ c.self.invariant.1) e same c.step_with_snapshot-reply.ensures.steps.ready (c.step_with_snapshot-reply.ensures.steps.steps _ _ (stands_of _ c.self.inside.erasable c.self.invariant.0)) refl c.note_served.ensures.base c.note_served.ensures.log c.note_served.ensures.totals).1
    ∙ ap (λ (m : Machined). served (stepped m c.args.request.now) c.args.request.now m) c.self.view_is

pub returns-clause-begun : goal.returns-clause-begun
returns-clause-begun c begun =
    let at = c.step_with_snapshot-reply.ensures in
    subst (λ (m : Machined). IsMoment m c.args.request.now c.step_with_snapshot-reply.new.moment) c.self.view_is
    (moment_begun _ c.self.inside.erasable c.args.request.now c.step_with_snapshot-reply.new.moment c.self.invariant.0 (subst (λ r. Acts (planned_with c.self.inside.plan (sets_in c.self.inside.erasable)) c.args.request.now c.self.inside.erasable r c.step_with_snapshot-reply.new.moment.words) (sym at.reply) (at.acts begun)) at.fired at.raised (ap begins at.reply ∙ begun))
