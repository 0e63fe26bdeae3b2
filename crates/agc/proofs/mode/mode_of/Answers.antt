use Rattle.std.proofs.Common.{◌∙◌, ap, inl, inr, Err}
use Rattle.std.proofs.lemmas.Result.{err_from_is_err_and}
use Rattle.agc.proofs.Commands.{is_named, is_taken}
use Rattle.agc.proofs.mode.mode_of.Goals as goal

pub returns-in_err-matches-clause-only : goal.returns-in_err-matches-clause-only
returns-in_err-matches-clause-only c mode asked =
    let p = err_from_is_err_and c.from_residual-in_err-matches.result c.from_residual-in_err-matches.ensures.1 in
    inr (p.1 ∙ ap Err (p.2.0 (c.in_err-matches.ensures.passes (is_taken _ _ mode c.in_ok-command.ensures asked))))

pub returns-clause-only : goal.returns-clause-only
returns-clause-only c mode asked =
    inl (c.mode_alone.ensures.only mode asked (is_named _ _ c.in_ok-matches.matches mode c.in_ok-command.ensures asked c.in_ok-matches.ensures.matches))
