use Rattle.std.proofs.Common.{ap, ◌∙◌}
use Rattle.agc_stats.proofs.Counting.{on_ok}
use Rattle.agc_stats.proofs.EraTimes.{always}
use Rattle.agc_stats.proofs.Snapshots.{same_followed}
use Rattle.agc_stats.proofs.job_statistics.JobStatistics.end.Goals as goal

pub returns-clause-followed : goal.returns-clause-followed
returns-clause-followed c = on_ok c.see.result (λ seen history are.
    seen history (same_followed history c.args.self.now c.end_era.new.self c.end_era.ensures.jobs.0 (ap (λ v. v.items) c.end_era.ensures.jobs.1.0) c.end_era.ensures.timing c.end_era.ensures.jobs.1.1 are))
    c.see.ensures.followed

pub returns-clause-eras : goal.returns-clause-eras
returns-clause-eras c = always c.see.result (ap (λ v. v.items) c.see.ensures.eras.eras_are ∙ c.in_ok-end_era.ensures.eras)
