use Rattle.std.proofs.Common.{◌∷◌, List, Option, sym, subst}
use Rattle.std.specs.Prelude.{is_some}
use Rattle.agc_stats.specs.Followed.{AreFollowed, IsNextEra, next_snapshot, noted_by}
use Rattle.agc_stats.specs.declared.live_jobs.LifeEnd.TheVariants.{Ended}
use Rattle.agc_stats.specs.declared.live_jobs.ObservedJob.{ObservedJob}
use Rattle.agc_stats.proofs.Counting.{on_ok}
use Rattle.agc_stats.proofs.EraTimes.{next_after}
use Rattle.agc_stats.proofs.job_statistics.JobStatistics.serve.Goals as goal

pub returns-in-Some-clause-followed : goal.returns-in-Some-clause-followed
returns-in-Some-clause-followed c = on_ok c.begin_era.result (λ began history are.
    subst (λ (o : Option (List (Option ObservedJob))). AreFollowed (noted_by c.args.passed c.args.left.now o history) c.begin_era.new.self) (sym c.in-Some.is)
    (began (next_snapshot c.args.passed Ended c.args.left.now history ∷ history) (c.in_ok-see.ensures.followed history are)))
    c.begin_era.ensures.followed

pub returns-in-Some-clause-eras : goal.returns-in-Some-clause-eras
returns-in-Some-clause-eras c = on_ok c.begin_era.result (λ next.
    subst (λ (o : Option (List (Option ObservedJob))). IsNextEra (is_some o) c.args.self.now c.begin_era.new.self) (sym c.in-Some.is)
    (next_after c.args.self.now c.see.new.self c.begin_era.new.self c.see.ensures.eras next))
    c.begin_era.ensures.eras

pub returns-in-None-clause-eras : goal.returns-in-None-clause-eras
returns-in-None-clause-eras c =
    subst (λ (o : Option (List (Option ObservedJob))). IsNextEra (is_some o) c.args.self.now c.see.new.self) (sym c.in-None.is) c.see.ensures.eras
