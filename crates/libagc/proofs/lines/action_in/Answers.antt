use Rattle.std.proofs.Common.{sym, subst}
use Rattle.std.specs.Str.{IsUtf8}
use Rattle.libagc.proofs.Spelling.{action_is_text}
use Rattle.libagc.proofs.lines.action_in.Goals as goal

-- what is no text spells nothing
pub returns-in-Err-clause-only : goal.returns-in-Err-clause-only
returns-in-Err-clause-only c = λ a h e. absurd (c.in-Err.ensures.cases.0 (subst (λ z. IsUtf8 z) (sym e) (action_is_text a h)))
