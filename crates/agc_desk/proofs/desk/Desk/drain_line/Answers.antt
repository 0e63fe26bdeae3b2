use Rattle.std.proofs.Common.{rules, ◌≡◌, ◌∙◌, slice_get}
use Rattle.agc_plan.specs.Pulses.{pulse_requests}
use Rattle.agc_desk.proofs.Emptying.{line_idle, line_stopped}
use Rattle.agc_desk.proofs.Marking.{none_first}
use Rattle.agc_desk.proofs.desk.Desk.drain_line.Goals as goal

pub returns-then-is_some : goal.returns-then-is_some
returns-then-is_some g c = line_stopped c.args.refused _ c.args.line _ _ (search rules)

pub mark_applied-requires-clause-idle : goal.mark_applied-requires-clause-idle
mark_applied-requires-clause-idle g c =
    let machine = c.args.self.now.machine in
    let is : c.pulse_request.result ≡ slice_get (pulse_requests machine.plan c.args.line) 0 =
    c.pulse_request.ensures.request c.machine.result.now.plan.sets
    ∙ (λ k. slice_get (pulse_requests (c.plan.ensures k) c.args.line) 0)
    ∙ (λ k. slice_get (pulse_requests (c.machine.ensures.machine k).plan c.args.line) 0) in
    none_first (pulse_requests machine.plan c.args.line) c.pulse_request.result is (search rules)

pub returns : goal.returns
returns g c =
    let machine = c.args.self.now.machine in
    let is : c.pulse_request.result ≡ slice_get (pulse_requests machine.plan c.args.line) 0 =
    c.pulse_request.ensures.request c.machine.result.now.plan.sets
    ∙ (λ k. slice_get (pulse_requests (c.plan.ensures k) c.args.line) 0)
    ∙ (λ k. slice_get (pulse_requests (c.machine.ensures.machine k).plan c.args.line) 0) in
    line_idle c.args.refused _ c.args.line c.args.self.now c.args.share.now _ c.mark_applied.new.self (search rules)
    (none_first (pulse_requests machine.plan c.args.line) c.pulse_request.result is (search rules))
    c.mark_applied.ensures.lines c.mark_applied.ensures.desk c.owed_on-pulses.ensures
