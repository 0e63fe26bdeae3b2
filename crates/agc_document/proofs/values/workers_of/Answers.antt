use Rattle.std.proofs.Common.{◌∙◌, map}
use Rattle.std.proofs.lemmas.Result.{err_from_is_err_and}
use Rattle.agc_text.specs.Lines.{line_of}
use Rattle.agc_plan.specs.Ranges.{IsRequest}
use Rattle.std.specs.List.{AllByRecursion}
use Rattle.agc_document.proofs.Beside.{refused_here}
use Rattle.agc_document.proofs.Refusals.{refused_because}
use Rattle.agc_document.proofs.values.workers_of.Goals as goal

pub returns-in_err-worker-clause-refused : goal.returns-in_err-worker-clause-refused
returns-in_err-worker-clause-refused c =
    let p = err_from_is_err_and c.from_residual.result c.from_residual.ensures.1 in
    rw (p.1, p.2) (refused_because _ _ c.in_err-worker.field-0.0 (λ never ws h e.
    refused_here (map line_of) (AllByRecursion IsRequest) c.args.texts.now c.loop-text.text-index c.text-item.result c.loop-text-test.true (λ w q g.
    never w q (c.as_slice.ensures ∙ c.text.view_is ∙ c.text-item.is ∙ g)) ws h e) c.in_err-worker.ensures.refused)
