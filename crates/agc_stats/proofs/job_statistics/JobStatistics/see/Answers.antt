use Rattle.std.proofs.Common.{refl}
use Rattle.agc_stats.proofs.Counting.{on_ok}
use Rattle.agc_stats.proofs.Snapshots.{seen}
use Rattle.agc_stats.proofs.job_statistics.JobStatistics.see.Goals as goal

pub returns-clause-followed : goal.returns-clause-followed
returns-clause-followed c = on_ok c.note.result (λ noted history are.
    seen history c.args.passed c.args.end c.args.jobs.now c.args.self.now _ c.note.new.self c.saturating_add-self.result c.saturating_add-self.ensures (noted history) refl refl refl c.note.ensures.instant are)
    c.note.ensures.jobs
