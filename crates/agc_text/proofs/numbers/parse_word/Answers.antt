use Rattle.std.proofs.Common.{◌≡◌, ◌<◌, List, ℕ, Option, Some, None, IfSome, ◌∙◌, ap, sym}
use Rattle.agc_text.specs.Numbers.{octal}
use Rattle.agc_text.specs.Numbers.{octal_five_of}
use Rattle.agc_text.proofs.Octals.{five_takes, five_again}
use Rattle.agc_text.proofs.numbers.parse_word.Goals as goal

is_found : (s : List ℕ) (q : Option ℕ) → q ≡ octal_five_of s → IfSome q (λ w. (w < 32768) × (s ≡ octal 5 w))
is_found s None e = tt
is_found s (Some w) e = let h = five_takes s w (sym e) in (h.1, h.0)

pub returns-clause-found : goal.returns-clause-found
returns-clause-found c = is_found c.args.text.now c.word.result c.word.ensures

pub returns-clause-only : goal.returns-clause-only
returns-clause-only c = λ w h e. c.word.ensures ∙ ap octal_five_of e ∙ five_again w h
