use Rattle.std.proofs.Common.{◌++◌, ℕ, Option, sym, subst}
use Rattle.std.specs.Option.{option_to_list}
use Rattle.agc_stats.specs.Addresses.{AreRows}
use Rattle.agc_stats.specs.Followed.{deadlines_of}
use Rattle.agc_stats.proofs.Counting.{on_ok}
use Rattle.agc_stats.proofs.job_statistics.JobStatistics.count_release.Goals as goal

pub returns-in-Some-clause-rows : goal.returns-in-Some-clause-rows
returns-in-Some-clause-rows c = on_ok c.count_release.result (λ counted releases lives rows.
    subst (λ (o : Option ℕ). AreRows (deadlines_of c.args.self.now.timing) (releases ++ option_to_list o) lives c.count_release.new.rows.items) (sym c.in-Some.is)
    (counted (deadlines_of c.args.self.now.timing) releases lives c.deadline_at-deadline.ensures rows))
    c.count_release.ensures
