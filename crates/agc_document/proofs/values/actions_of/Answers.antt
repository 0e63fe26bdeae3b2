use Rattle.std.proofs.Common.{◌≡◌, ◌∙◌, Some, None}
use Rattle.agc_plan.specs.declared.request.Action.{Action}
use Rattle.agc_plan.specs.Ranges.{IsAction}
use Rattle.agc_text.specs.Lines.{action_line_of}
use Rattle.agc_document.proofs.Beside.{refused_here}
use Rattle.agc_document.proofs.values.actions_of.Goals as goal

none_is_not_some : (a : Action) → None ≡ Some a → ⊥
none_is_not_some a e = cc

pub returns-in-None-clause-only : goal.returns-in-None-clause-only
returns-in-None-clause-only c =
    refused_here action_line_of IsAction c.args.texts.now c.loop-text.text-index c.text-item.result c.loop-text-test.true (λ a h e. none_is_not_some a (c.in-None.ensures.only a h (c.as_str.ensures ∙ c.text-item.is ∙ e)))
