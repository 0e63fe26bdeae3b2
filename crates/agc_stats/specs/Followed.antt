-- The statistics of a run's jobs.
use Rattle.std.specs.Borrow.{Bor}
use Rattle.std.specs.Prelude.{◌≡◌, ℕ, ◌+◌, ◌*◌, ◌==◌, ◌<◌, ◌≤◌, Bool, true, false, List, [], ◌∷◌}
use Rattle.std.specs.Prelude.{◌++◌, length, Option, Some, None, option_map, replicate}
use Rattle.std.specs.Prelude.{slice_index_or, if◌then◌else◌}
use Rattle.std.specs.List.{filter_map, find, range_with_len}
use Rattle.std.specs.Option.{option_and_then}
use Rattle.agc_clock.specs.declared.elapsed.Elapsed.{Elapsed}
use Rattle.agc_scenario.specs.Scenarios.{Timed, TimedJob}
use Rattle.agc_stats.specs.Addresses.{AreRows}
use Rattle.agc_stats.specs.Eras.{all_used, counted, used_in}
use Rattle.agc_stats.specs.Lives.{alive_job, gone, lives, release_in, releases}
use Rattle.agc_stats.specs.declared.job_statistics.JobStatistics.{JobStatistics}
use Rattle.agc_stats.specs.declared.job_statistics.PassedTime.{PassedTime}
use Rattle.agc_stats.specs.declared.live_jobs.LifeEnd.{LifeEnd}
use Rattle.agc_stats.specs.declared.live_jobs.LifeEnd.TheVariants.{Ended, Lost}
use Rattle.agc_stats.specs.declared.live_jobs.ObservedJob.{ObservedJob}
use Rattle.agc_stats.specs.declared.live_jobs.Snapshot.{Snapshot}

-- the deadline of an address's jobs in hundredths of a centisecond, if a scenario gives one
abbrev pub deadline_in : TimedJob → Option ℕ
deadline_in job = option_map (λ deadline. deadline * 100) job.deadline

abbrev pub deadline_among : List TimedJob → ℕ → Option ℕ
deadline_among jobs at = option_and_then deadline_in (find (λ job. job.at == at) jobs)

abbrev pub deadlines_of : Option (Bor Timed) → ℕ → Option ℕ
deadlines_of None at = None
deadlines_of (Some timing) at = deadline_among timing.now.jobs at

-- the time that passed by a clock or, without one, with a tick
abbrev pub passed_by : Elapsed → (ticks : Bool) → PassedTime
passed_by elapsed ticks = record {
  time = ((elapsed.computed + elapsed.stolen) + elapsed.idle) + (if ticks then 100 else 0);
  computed = elapsed.computed;
}

-- the snapshot after some time
abbrev pub time_of : List Snapshot → ℕ
time_of [] = 0
time_of (s ∷ past) = s.time

abbrev pub next_snapshot : PassedTime → LifeEnd → List (Option ObservedJob) → List Snapshot
    → Snapshot
next_snapshot passed end jobs history = record {
  time = counted (time_of history + passed.time);
  passed = passed.time;
  computed = passed.computed;
  end = end;
  jobs = jobs;
}

-- at the beginning of an era all jobs are lost, and then others are there
abbrev pub at_once : LifeEnd → List (Option ObservedJob) → List Snapshot → List Snapshot
at_once end jobs history =
    next_snapshot (record { time = 0; computed = 0 }) end jobs history ∷ history

abbrev pub begun : List (Option ObservedJob) → List Snapshot → List Snapshot
begun jobs history = at_once Ended jobs (at_once Lost (replicate 8 None) history)

-- a request leaves these jobs, after some time, and an era may begin with it
abbrev pub noted_by : PassedTime → List (Option ObservedJob) → Option (List (Option ObservedJob))
    → List Snapshot → List Snapshot
noted_by passed left None history = next_snapshot passed Ended left history ∷ history
noted_by passed left (Some jobs) history =
    begun jobs (next_snapshot passed Ended left history ∷ history)

-- after these snapshots, the newest first, the jobs that are alive are followed, and each address
-- has the statistics of all lives of its jobs that are over
pub record AreJobs (history : List Snapshot) (s : JobStatistics) : Type 0 where
  pub eight : length s.live_jobs ≡ 8
  pub alive_are : (n : ℕ) → n < 8 → slice_index_or s.live_jobs n None ≡ alive_job n history
  pub rows_are : AreRows (deadlines_of s.timing) (releases history) (lives history) s.rows.items

-- the same, at the time of the newest snapshot
pub record AreFollowed (history : List Snapshot) (s : JobStatistics) : Type 0 where
  pub jobs_are : AreJobs history s
  pub instant_is : s.instant ≡ time_of history

-- for the proofs: of how the time of eras was used nothing changes; or another era begins, if one
-- does
pub record IsSameTime (old new : JobStatistics) : Type 0 where
  pub eras_are : new.eras ≡ old.eras
  pub era_is : new.era ≡ old.era

abbrev pub IsNextEra : Bool → JobStatistics → JobStatistics → Type 0
IsNextEra true old new =
    (new.eras.items ≡ old.eras.items ++ old.era ∷ []) × (used_in new.era ≡ all_used [])
IsNextEra false old new = IsSameTime old new

-- for the proofs: the same, where of a snapshot more so many numbers have been noted
pub record AreJobsUpTo (count : ℕ) (s : Snapshot) (history : List Snapshot) (j : JobStatistics)
    : Type 0 where
  pub eight : length j.live_jobs ≡ 8
  pub noted : (n : ℕ) → n < count → slice_index_or j.live_jobs n None ≡ alive_job n (s ∷ history)
  pub alive_are : (n : ℕ) → count ≤ n → n < 8
      → slice_index_or j.live_jobs n None ≡ alive_job n history
  pub rows_are : AreRows (deadlines_of j.timing)
      (releases history ++ filter_map (λ n. release_in n s history) (range_with_len 0 count))
      (lives history ++ filter_map (λ n. gone n s history) (range_with_len 0 count))
      j.rows.items
