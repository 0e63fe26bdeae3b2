use Rattle.std.proofs.Common.{[], ap, ◌∙◌}
use Rattle.agc_stats.proofs.job_statistics.JobStatistics.new.Goals as goal

pub returns-clause-followed : goal.returns-clause-followed
returns-clause-followed c = c.in_ok-see_era.ensures.followed [] c.none-job_statistics.ensures.followed
