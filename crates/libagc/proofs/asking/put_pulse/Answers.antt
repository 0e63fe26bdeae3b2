use Rattle.std.proofs.Common.{ap, sym, ◌∙◌, ℕ, ◌∷◌, []}
use Rattle.libagc.specs.declared.reading.AgcRequest.{AgcRequest}
use Rattle.libagc.specs.Requests.{pulse_to_c}
use Rattle.libagc.proofs.Pulsing.{first_set}
use Rattle.libagc.proofs.asking.put_pulse.Goals as goal

pub returns-in-0-clause-list : goal.returns-in-0-clause-list
returns-in-0-clause-list c =
    first_set c.args.requests.now c.numbers_of.result c.told-requests ∙ ap (λ (r : AgcRequest). r ∷ []) c.numbers_of.ensures
    ∙ sym (ap (λ (line : ℕ). pulse_to_c line c.args.key.now c.args.radar.now) c.in-0.is)
