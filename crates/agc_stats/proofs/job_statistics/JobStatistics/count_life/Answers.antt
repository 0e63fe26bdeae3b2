use Rattle.std.proofs.Common.{◌++◌, ◌<◌, Option, sym, subst}
use Rattle.std.specs.Prelude.{IfSome}
use Rattle.std.specs.Option.{option_to_list}
use Rattle.agc_stats.specs.Addresses.{AreRows, releases_at}
use Rattle.agc_stats.specs.Followed.{deadlines_of}
use Rattle.agc_stats.specs.declared.live_jobs.JobLife.{JobLife}
use Rattle.agc_stats.proofs.Counting.{on_ok}
use Rattle.agc_stats.proofs.job_statistics.JobStatistics.count_life.Goals as goal

pub returns-in-Some-clause-rows : goal.returns-in-Some-clause-rows
returns-in-Some-clause-rows c = on_ok c.count_life.result (λ counted releases lives some rows.
    subst (λ (o : Option JobLife). AreRows (deadlines_of c.args.self.now.timing) releases (lives ++ option_to_list o) c.count_life.new.rows.items) (sym c.in-Some.is)
    (counted (deadlines_of c.args.self.now.timing) releases lives (subst (λ (o : Option JobLife). IfSome o (λ l. 0 < releases_at l.job.at releases)) c.in-Some.is some) rows))
    c.count_life.ensures
