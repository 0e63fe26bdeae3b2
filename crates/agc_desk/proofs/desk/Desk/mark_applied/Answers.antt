use Rattle.std.proofs.Common.{◌≡◌, ◌∙◌, [], ap, sym}
use Rattle.agc_plan.specs.Plans.{Planned}
use Rattle.agc_desk.specs.Desks.{Desked}
use Rattle.agc_plan.specs.Pulses.{pulse_requests}
use Rattle.agc_desk.proofs.Calls.{same_setting}
use Rattle.agc_desk.proofs.Marking.{unasked}
use Rattle.agc_desk.proofs.desk.Desk.mark_applied.Goals as goal

pub invariant_of-self : goal.invariant_of-self
invariant_of-self g c =
    let first = g.N.Names.first in
    let i = c.self.invariant in
    let setting = same_setting first c.self.inside.history.calls c.self.inside.machine i.leads in
    let idle : pulse_requests first.plan c.args.line ≡ [] =
    ap (λ (p : Planned). pulse_requests p c.args.line) (sym setting.plan)
    ∙ (ap (λ (d : Desked). pulse_requests d.machine.plan c.args.line) c.self.view_is ∙ c.requires.idle) in
    record {
      leads = i.leads;
      none_gathered = i.none_gathered;
      since_is = i.since_is;
      grown = i.grown;
      parts = i.parts;
      one = i.one;
      none_back = i.none_back;
      pulses = unasked first.plan c.self.inside.history.calls c.args.line c.args.pulses c.self.inside.lines c.apply.new.self i.pulses idle c.apply.ensures.applies c.apply.ensures.begun;
    }
