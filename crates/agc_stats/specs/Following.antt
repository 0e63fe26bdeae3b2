-- For the proofs: a job that is followed, with one snapshot more.
use Rattle.std.specs.Prelude.{ℕ, ◌+◌, if◌then◌else◌}
use Rattle.agc_stats.specs.Eras.{counted}
use Rattle.agc_stats.specs.Lives.{is_same_activity}
use Rattle.agc_stats.specs.declared.live_jobs.Activity.{Activity}
use Rattle.agc_stats.specs.declared.live_jobs.Activity.TheVariants.{Runs, Sleeps, Waits}
use Rattle.agc_stats.specs.declared.live_jobs.ObservedJob.{ObservedJob}
use Rattle.agc_stats.specs.declared.live_jobs.LiveJob.{LiveJob}
use Rattle.agc_stats.specs.declared.live_jobs.Snapshot.{Snapshot}

abbrev pub released_with : ObservedJob → ℕ → LiveJob
released_with state time = record {
  at = state.at;
  activity = state.activity;
  released = time;
  computed = 0;
  slept = 0;
  preempted = 0;
}

abbrev pub if_in : Activity → Activity → ℕ → ℕ
if_in one other number = if is_same_activity one other then number else 0

abbrev pub gone_on : Snapshot → Activity → LiveJob → LiveJob
gone_on s activity job = record job {
  activity = activity;
  computed = counted (job.computed + if_in job.activity Runs s.computed);
  slept = counted (job.slept + if_in job.activity Sleeps s.passed);
  preempted = counted (job.preempted
      + if_in job.activity Runs (if_in activity Waits 1));
}
