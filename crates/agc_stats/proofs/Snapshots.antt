-- The statistics of jobs, after a snapshot more.
use Rattle.std.proofs.Common.{◌≡◌, ℕ, ◌+◌, List, ◌∷◌, length, get_or, Option, None, Bor, sym, ap, subst, ◌∙◌}
use Rattle.agc_scenario.specs.Scenarios.{Timed}
use Rattle.agc_stats.specs.Addresses.{AreRows}
use Rattle.agc_stats.specs.Eras.{counted}
use Rattle.agc_stats.specs.Followed.{AreFollowed, AreJobs, deadlines_of, next_snapshot, time_of}
use Rattle.agc_stats.specs.Lives.{lives, releases}
use Rattle.agc_stats.specs.declared.job_statistics.JobStatistics.{JobStatistics}
use Rattle.agc_stats.specs.declared.job_statistics.PassedTime.{PassedTime}
use Rattle.agc_stats.specs.declared.live_jobs.LifeEnd.{LifeEnd}
use Rattle.agc_stats.specs.declared.live_jobs.ObservedJob.{ObservedJob}
use Rattle.agc_stats.specs.declared.live_jobs.LiveJob.{LiveJob}
use Rattle.agc_stats.specs.declared.live_jobs.Snapshot.{Snapshot}

-- jobs, rows and deadlines are the same
pub same_jobs : (history : List Snapshot) (old new : JobStatistics) → new.live_jobs ≡ old.live_jobs → new.rows.items ≡ old.rows.items → new.timing ≡ old.timing → AreJobs history old → AreJobs history new
same_jobs history old new jobs rows timing are = record {
  eight = ap length jobs ∙ are.eight;
  alive_are = λ n lt. ap (λ (l : List (Option LiveJob)). get_or l n None) jobs ∙ are.alive_are n lt;
  rows_are = subst (AreRows (deadlines_of new.timing) (releases history) (lives history)) (sym rows)
      (subst (λ (t : Option (Bor Timed)). AreRows (deadlines_of t) (releases history) (lives history) old.rows.items) (sym timing) are.rows_are);
}

pub same_followed : (history : List Snapshot) (old new : JobStatistics) → new.live_jobs ≡ old.live_jobs → new.rows.items ≡ old.rows.items → new.timing ≡ old.timing → new.instant ≡ old.instant → AreFollowed history old → AreFollowed history new
same_followed history old new jobs rows timing instant are = record {
  jobs_are = same_jobs history old new jobs rows timing are.jobs_are;
  instant_is = instant ∙ are.instant_is;
}

pub seen : (history : List Snapshot) (passed : PassedTime) (end : LifeEnd) (jobs : List (Option ObservedJob)) (old mid new : JobStatistics) (time : ℕ)
    → time ≡ counted (old.instant + passed.time)
    → (AreJobs history mid → AreJobs (record { time = time; passed = passed.time; computed = passed.computed; end = end; jobs = jobs } ∷ history) new)
    → mid.live_jobs ≡ old.live_jobs → mid.rows.items ≡ old.rows.items → mid.timing ≡ old.timing → new.instant ≡ time
    → AreFollowed history old → AreFollowed (next_snapshot passed end jobs history ∷ history) new
seen history passed end jobs old mid new time is noted live rows timing instant are =
    let now : time ≡ counted (time_of history + passed.time) = is ∙ ap (λ (n : ℕ). counted (n + passed.time)) are.instant_is in
    record {
      jobs_are = subst (λ (t : ℕ). AreJobs (record { time = t; passed = passed.time; computed = passed.computed; end = end; jobs = jobs } ∷ history) new) now
          (noted (same_jobs history old mid live rows timing are.jobs_are));
      instant_is = instant ∙ now;
    }
