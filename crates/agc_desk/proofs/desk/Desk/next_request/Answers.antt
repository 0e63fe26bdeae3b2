use Rattle.std.proofs.Common.{◌≡◌, ◌∙◌, ◌⊎◌, IfNone, [], Option, None, Some, inr, slice_get, subst, sym}
use Rattle.agc_latch.specs.Lines.{on}
use Rattle.agc_plan.specs.declared.request.Request.{Request}
use Rattle.agc_plan.specs.Plans.{Planned}
use Rattle.agc_desk.specs.Desks.{ArePulses, Desked}
use Rattle.agc_plan.specs.Pulses.{pulse_requests}
use Rattle.agc_desk.proofs.Calls.{same_setting}
use Rattle.agc_desk.proofs.Marking.{none_next}
use Rattle.agc_desk.proofs.desk.Desk.next_request.Goals as goal

or_else : (A B : Type 0) (o : Option Request) → IfNone o B → IfNone o (A ⊎ B)
or_else A B None is = inr is
or_else A B (Some q) is = tt

pub returns-clause-none : goal.returns-clause-none
returns-clause-none g c =
    let first = g.N.Names.first in
    let calls = c.self.inside.history.calls in
    let machine = c.self.inside.machine in
    let lines = c.self.inside.lines in
    let plan : machine.plan ≡ first.plan = (same_setting first calls machine c.self.invariant.leads).plan in
    let is : c.pulse_request.result ≡ slice_get (pulse_requests machine.plan c.args.line) (on c.args.line lines.begun) =
    c.pulse_request.ensures.request machine.plan.sets ∙ (λ k. slice_get (pulse_requests (c.plan.ensures k) c.args.line) (c.begun_on.ensures.value k)) in
    let none : IfNone c.pulse_request.result (pulse_requests machine.plan c.args.line ≡ []) =
    none_next machine.plan c.args.line calls lines c.pulse_request.result
    (subst (λ (p : Planned). ArePulses p calls lines.applied lines.begun) (sym plan) c.self.invariant.pulses) is in
    or_else (on c.args.line c.args.self.now.lines.owed ≡ 0) (pulse_requests c.args.self.now.machine.plan c.args.line ≡ []) c.pulse_request.result
    (subst (λ (d : Desked). IfNone c.pulse_request.result (pulse_requests d.machine.plan c.args.line ≡ [])) c.self.view_is none)
