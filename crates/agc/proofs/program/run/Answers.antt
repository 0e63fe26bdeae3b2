use Rattle.std.proofs.Common.{[]}
use Rattle.agc.proofs.Ends.{ends_refused, none_asked}
use Rattle.agc.proofs.program.run.Goals as goal

pub returns-in_err-given : goal.returns-in_err-given
returns-in_err-given g c =
    ([], ends_refused [] c.in_err-given.field-0.0 c.from_residual.result c.from_residual.ensures.1 (λ is. none_asked) c.in_err-given.ensures.refused)
