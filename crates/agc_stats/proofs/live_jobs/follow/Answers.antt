use Rattle.std.proofs.Common.{Some, sym, ap, ◌∙◌}
use Rattle.agc_stats.specs.declared.live_jobs.LiveJob.{LiveJob}
use Rattle.agc_stats.proofs.Lives.{went_on}
use Rattle.agc_stats.proofs.live_jobs.follow.Goals as goal

pub returns-in-Some-Some : goal.returns-in-Some-Some
returns-in-Some-Some c n past alive state =
    ap (λ (j : LiveJob). Some j) c.go_on.ensures
    ∙ went_on n c.args.snapshot.now past c.in-Some-Some.living c.in-Some-Some.state (sym c.in-Some-Some.is-0 ∙ alive) (sym c.in-Some-Some.is-1 ∙ state)
