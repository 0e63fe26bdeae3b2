use Rattle.agc_stats.specs.Followed.{deadlines_of}
use Rattle.agc_stats.specs.Lives.{lives, releases}
use Rattle.agc_stats.proofs.Counting.{on_ok}
use Rattle.agc_stats.proofs.job_statistics.JobStatistics.sort.Goals as goal

pub returns-clause-followed : goal.returns-clause-followed
returns-clause-followed c = on_ok c.sort_rows.result (λ rows history are. record {
  jobs_are = record {
    eight = are.jobs_are.eight;
    alive_are = are.jobs_are.alive_are;
    rows_are = rows (deadlines_of c.args.self.now.timing) (releases history) (lives history) are.jobs_are.rows_are;
  };
  instant_is = are.instant_is;
})
    c.sort_rows.ensures.rows
