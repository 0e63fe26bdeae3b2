use Rattle.std.proofs.Common.{map, Err, refl, inl}
use Rattle.std.specs.String.{string_bytes}
use Rattle.agc.proofs.Ends.{ends_refused, no_mode}
use Rattle.agc.proofs.Through.{through_ends, ends_without_memory}
use Rattle.agc.proofs.program.run_words.Goals as goal

pub returns-in_err-mode : goal.returns-in_err-mode
returns-in_err-mode g c =
    ends_refused (map string_bytes c.args.words.now) c.in_err-mode.field-0.0 c.from_residual.result c.from_residual.ensures.1
    (λ is asked asks. no_mode asked c.in_err-mode.field-0.0 (Err c.in_err-mode.field-0.0) refl is (c.in_err-mode.ensures.only asked asks)) c.in_err-mode.ensures.refused

pub returns-in_err-output : goal.returns-in_err-output
returns-in_err-output g c =
    ends_without_memory (map string_bytes c.args.words.now) c.in_err-output.field-0.0 c.from_residual-in_err-output.result c.from_residual-in_err-output.ensures.1 c.in_err-output.ensures.refused

pub returns : goal.returns
returns g c =
    inl (c.in_ok-mode.mode, c.in_ok-mode.ensures.asked, through_ends _ _ _ _ _ c.run_mode.result c.run_mode.ensures.runs)
