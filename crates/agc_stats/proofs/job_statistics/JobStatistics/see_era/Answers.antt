use Rattle.std.proofs.Common.{◌∷◌, List, replicate, None, subst}
use Rattle.agc_stats.specs.Followed.{AreFollowed, at_once, next_snapshot}
use Rattle.agc_stats.specs.declared.job_statistics.PassedTime.{PassedTime}
use Rattle.agc_stats.specs.declared.live_jobs.LifeEnd.TheVariants.{Ended, Lost}
use Rattle.agc_stats.specs.declared.live_jobs.Snapshot.{Snapshot}
use Rattle.agc_stats.proofs.Counting.{on_ok}
use Rattle.agc_stats.proofs.EraTimes.{same_time_on}
use Rattle.agc_stats.proofs.job_statistics.JobStatistics.see_era.Goals as goal

pub returns-clause-followed : goal.returns-clause-followed
returns-clause-followed c = on_ok c.see-2.result (λ second history are.
    let lost : List Snapshot = at_once Lost (replicate 8 None) history in
    let first : AreFollowed lost c.see.new.self =
    subst (λ (p : PassedTime). AreFollowed (next_snapshot p Lost (replicate 8 None) history ∷ history) c.see.new.self) c.none.ensures (c.in_ok-see.ensures.followed history are) in
    subst (λ (p : PassedTime). AreFollowed (next_snapshot p Ended c.args.jobs.now lost ∷ lost) c.see-2.new.self) c.none-2.ensures
    (second lost first))
    c.see-2.ensures.followed

pub returns-clause-eras : goal.returns-clause-eras
returns-clause-eras c = same_time_on c.args.self.now c.see.new.self c.see-2.new.self c.see.ensures.eras c.see-2.ensures.eras
