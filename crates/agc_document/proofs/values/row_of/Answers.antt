use Rattle.std.proofs.Common.{◌≢◌, ◌∙◌, List, Option, Some, None, IfNone, ap}
use Rattle.agc_plan.specs.declared.request.Task.{Task}
use Rattle.agc_plan.specs.declared.request.Action.{Action}
use Rattle.agc_document.specs.Texts.{RowTexts}
use Rattle.agc_document.specs.Benches.{row_texts, IsRow}
use Rattle.agc_document.proofs.values.row_of.Goals as goal

for_none : {X : Type 0} (o : Option X) (P : Type 0) → P → IfNone o P
for_none None P p = p
for_none (Some x) P p = tt

pub returns-in_err-actions-clause-only : goal.returns-in_err-actions-clause-only
returns-in_err-actions-clause-only c =
    for_none c.from_residual-in_err-actions.result ((r : Task × List Action) → IsRow r → c.args.texts.now ≢ row_texts r)
    (λ r h e. c.in_err-actions.ensures.only r.1 h.1.0 (c.as_slice.ensures ∙ ap (λ (t : RowTexts). t.actions) (c.texts.view_is ∙ e)))
