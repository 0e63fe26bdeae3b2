use Rattle.std.proofs.Common.{◌≡◌, false, List, ℕ, Some, None, ◌∙◌, codes}
use Rattle.std.specs.Str.{bytes_eq}
use Rattle.std.proofs.lemmas.Slice.Eq.{bytes_eq-Decides}
use Rattle.std.proofs.lemmas.Bool.{false≢true}
use Rattle.agc_text.proofs.Actions.{action_again}
use Rattle.agc_text.proofs.line.parse_action.Goals as goal

other_word : (s t : List ℕ) → false ≡ bytes_eq s t → s ≡ t → ⊥
other_word s t e same = false≢true (e ∙ (bytes_eq-Decides s t).1 same)

pub returns-in-Some-clause-only : goal.returns-in-Some-clause-only
returns-in-Some-clause-only c = λ a h e. c.action_of.ensures ∙ action_again c.args.text.now (Some c.in-Some.request) c.in-Some.ensures.only (other_word c.args.text.now (codes "nothing") c.if-eq.ensures) a h e

pub returns-in-None-clause-only : goal.returns-in-None-clause-only
returns-in-None-clause-only c = λ a h e. action_again c.args.text.now None c.in-None.ensures.only (other_word c.args.text.now (codes "nothing") c.if-eq.ensures) a h e
