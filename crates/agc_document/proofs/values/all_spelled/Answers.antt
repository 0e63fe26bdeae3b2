use Rattle.std.proofs.Common.{◌∙◌}
use Rattle.std.proofs.lemmas.Result.{err_from_is_err_and}
use Rattle.agc_document.proofs.Beside.{refused_here}
use Rattle.agc_document.proofs.Refusals.{refused_because}
use Rattle.agc_document.proofs.values.all_spelled.Goals as goal

pub returns-in_err-one-clause-refused : goal.returns-in_err-one-clause-refused
returns-in_err-one-clause-refused g c =
    let p = err_from_is_err_and c.from_residual.result c.from_residual.ensures.1 in
    rw (p.1, p.2) (refused_because _ _ c.in_err-one.field-0.0 (λ never xs h e.
    refused_here g.X.FromText.spelling g.X.FromText.IsLawful c.args.texts.now c.loop-text.text-index c.text-item.result c.loop-text-test.true (λ x q f. never x q (c.text-item.is ∙ f)) xs h e) c.in_err-one.ensures.refused)
