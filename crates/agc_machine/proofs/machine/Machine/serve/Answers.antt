use Rattle.std.proofs.Common.{◌≡◌, ℕ, None, refl, sym, ◌∙◌, subst, ap}
use Rattle.std.specs.Vec.{vec_capacity}
use Rattle.agc_word.specs.Layout.{sets_in}
use Rattle.agc_plan.specs.Plans.{planned_with}
use Rattle.agc_plan.specs.Steps.{begins, fired_in}
use Rattle.agc_machine.proofs.Beginning.{same_sets}
use Rattle.agc_machine.specs.Machines.{Machined, plain_of, refusal_of, stepped, served}
use Rattle.agc_machine.proofs.Serving.{IsKept, view_with, counts_fit, ready_of, stands_of, store_room, kept_stored}
use Rattle.agc_machine.proofs.machine.Machine.serve.Goals as goal

pub step-reply-requires-clause-ready : goal.step-reply-requires-clause-ready
step-reply-requires-clause-ready c = ready_of _ c.self.inside.erasable c.self.invariant.0

pub note_served-requires : goal.note_served-requires
note_served-requires c =
    let e = subst (λ (m : Machined). refusal_of m c.args.request.now ≡ None) (sym c.self.view_is) c.requires.served in
    record {
      lawful = c.step-reply.ensures.steps.ready.sound.phases;
      counts = counts_fit _ c.args.request.now c.self.invariant.0.machine e;
      space = λ goes.
          store_room _ c.args.request.now c.step-reply.result _ c.self.invariant.0.machine c.self.invariant.1 e (c.step-reply.ensures.steps.steps _ _ (stands_of _ c.self.inside.erasable c.self.invariant.0)).reply_is goes;
    }

pub invariant_of-self : goal.invariant_of-self
invariant_of-self c =
    let e = subst (λ (m : Machined). refusal_of m c.args.request.now ≡ None) (sym c.self.view_is) c.requires.served in
    let same : sets_in c.step-reply.new.e ≡ sets_in c.self.inside.erasable = same_sets c.self.inside.erasable c.step-reply.new.e c.step-reply.ensures.steps.same_length in
    subst (λ (n : ℕ). IsKept (record { plan = planned_with c.self.inside.plan n; limit = c.self.inside.limit; allowance = c.self.inside.allowance; base = c.note_served.new.base; log = c.note_served.new.log.items; totals = c.note_served.new.totals }) c.step-reply.new.e (vec_capacity c.note_served.new.log)) (sym same)
    (kept_stored _ c.args.request.now c.step-reply.new.e c.step-reply.result _ (begins c.step-reply.result) c.note_served.new.base c.note_served.new.log.items c.note_served.new.totals c.self.invariant.0.machine (c.note_served.ensures.room ∙ c.self.invariant.1) e same c.step-reply.ensures.steps.ready (c.step-reply.ensures.steps.steps _ _ (stands_of _ c.self.inside.erasable c.self.invariant.0)) refl c.note_served.ensures.base c.note_served.ensures.log c.note_served.ensures.totals).0

pub returns-clause-reply : goal.returns-clause-reply
returns-clause-reply c =
    (c.step-reply.ensures.steps.steps _ _ (stands_of _ c.self.inside.erasable c.self.invariant.0)).reply_is ∙ ap (λ (m : Machined). (stepped m c.args.request.now).reply) c.self.view_is

pub returns-clause-fired : goal.returns-clause-fired
returns-clause-fired c =
    c.step-reply.ensures.fired _ _ (stands_of _ c.self.inside.erasable c.self.invariant.0) ∙ ap (λ (m : Machined). fired_in m.plan c.args.request.now (plain_of m)) c.self.view_is

pub returns-clause-after : goal.returns-clause-after
returns-clause-after c =
    let e = subst (λ (m : Machined). refusal_of m c.args.request.now ≡ None) (sym c.self.view_is) c.requires.served in
    let same : sets_in c.step-reply.new.e ≡ sets_in c.self.inside.erasable = same_sets c.self.inside.erasable c.step-reply.new.e c.step-reply.ensures.steps.same_length in
    view_with c.self.inside.plan c.self.inside.limit c.self.inside.allowance c.note_served.new.base c.note_served.new.log.items c.note_served.new.totals same
    ∙ (kept_stored _ c.args.request.now c.step-reply.new.e c.step-reply.result _ (begins c.step-reply.result) c.note_served.new.base c.note_served.new.log.items c.note_served.new.totals c.self.invariant.0.machine (c.note_served.ensures.room ∙ c.self.invariant.1) e same c.step-reply.ensures.steps.ready (c.step-reply.ensures.steps.steps _ _ (stands_of _ c.self.inside.erasable c.self.invariant.0)) refl c.note_served.ensures.base c.note_served.ensures.log c.note_served.ensures.totals).1
    ∙ ap (λ (m : Machined). served (stepped m c.args.request.now) c.args.request.now m) c.self.view_is
