use Rattle.std.proofs.Common.{◌∙◌, None, refl}
use Rattle.agc_document.proofs.Benches.{timed_none}
use Rattle.agc_document.proofs.values.parse_timed.Goals as goal

pub returns-in_err-request-in-Some-clause-only : goal.returns-in_err-request-in-Some-clause-only
returns-in_err-request-in-Some-clause-only c =
    rw (c.from_residual.ensures, c.in-Some.is) (timed_none c.in-Some.text None (λ r i e.
    c.in_err-request-in-Some.ensures.only r i (c.as_str.ensures ∙ e)) refl)
