use Rattle.std.proofs.Common.{◌≡◌, ◌∙◌, ℕ, Some, None}
use Rattle.agc_text.specs.Numbers.{octal}
use Rattle.agc_text.specs.Numbers.{IsWord}
use Rattle.agc_document.proofs.Beside.{refused_here}
use Rattle.agc_document.proofs.values.words_of.Goals as goal

none_is_not_some : (w : ℕ) → None ≡ Some w → ⊥
none_is_not_some w e = cc

pub returns-in-None-clause-only : goal.returns-in-None-clause-only
returns-in-None-clause-only c = λ ws h e.
    refused_here (octal 5) IsWord c.args.texts.now c.loop-k.k c.index-texts-k.result c.loop-k-test.true (λ w p q. none_is_not_some w (c.in-None.ensures.only w p (c.as_str.ensures ∙ c.index-texts-k.is ∙ q))) ws h.1 e
