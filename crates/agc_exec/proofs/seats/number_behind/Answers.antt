use Rattle.std.proofs.Common.{◌≡◌, Some, None, ap, sym, ◌∙◌}
use Rattle.std.proofs.lemmas.Option.{same_Some}
use Rattle.agc_exec.specs.declared.seats.Seat.{Seat}
use Rattle.agc_exec.proofs.seats.number_behind.Goals as goal

pub returns-in-None-clause-behind : goal.returns-in-None-clause-behind
returns-in-None-clause-behind c s low is =
    absurd (let no : None ≡ Some s = sym c.in-None.is ∙ same_Some c.job_at.result (Some s) (sym c.job_at.ensures ∙ is) in cc)

pub returns-in-Some-clause-behind : goal.returns-in-Some-clause-behind
returns-in-Some-clause-behind c s low is =
    let same : c.in-Some.seat ≡ s = same_Some c.in-Some.seat s (sym c.in-Some.is ∙ same_Some c.job_at.result (Some s) (sym c.job_at.ensures ∙ is)) in
    ap (λ (x : Seat). Some x.number) same
