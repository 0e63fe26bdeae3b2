use Rattle.std.proofs.Common.{Some, sym, ap, ◌∙◌}
use Rattle.agc_stats.specs.declared.live_jobs.LiveJob.{LiveJob}
use Rattle.agc_stats.proofs.Lives.{left}
use Rattle.agc_stats.proofs.live_jobs.leave.Goals as goal

pub returns-in-Some-None : goal.returns-in-Some-None
returns-in-Some-None c n past alive state =
    ap (λ (j : LiveJob). Some (record { job = j; time = c.args.snapshot.now.time; end = c.args.snapshot.now.end })) c.go_on.ensures
    ∙ left n c.args.snapshot.now past c.in-Some-None.living (sym c.in-Some-None.is-0 ∙ alive) (sym c.in-Some-None.is-1 ∙ state)
