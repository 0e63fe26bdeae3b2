use Rattle.std.proofs.Common.{◌∙◌, ap, List}
use Rattle.agc_plan.specs.declared.request.Action.{Action}
use Rattle.agc_session.specs.Pieces.{pulse_asks}
use Rattle.agc_session.proofs.Pieces.{same_pulse}
use Rattle.agc_session.proofs.following.pulse_of.Goals as goal

pub returns-clause-requests : goal.returns-clause-requests
returns-clause-requests c =
    c.pulse_asks.ensures.requests
    ∙ ap (λ (k : List Action). pulse_asks k c.as_slice-2.result.now c.args.line) (c.as_slice.ensures.value ∙ c.key.ensures.value)
    ∙ ap (λ (r : List Action). pulse_asks c.args.bench.now.key r c.args.line) (c.as_slice-2.ensures.value ∙ c.radar.ensures.value)
    ∙ same_pulse c.args.bench.now c.args.line
