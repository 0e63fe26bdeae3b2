use Rattle.std.proofs.Common.{◌≡◌, List, [], length}
use Rattle.std.specs.Prelude.{is_some}
use Rattle.std.specs.List.{fold}
use Rattle.agc_machine.specs.Machines.{after}
use Rattle.agc_run.specs.Runs.{to_ask}
use Rattle.agc_stats.specs.Eras.{all_used, used_in}
use Rattle.agc_stats.specs.Followed.{AreFollowed}
use Rattle.agc_stats.specs.JobRuns.{AreSoFar}
use Rattle.agc_stats.specs.declared.live_jobs.Snapshot.{Snapshot}
use Rattle.agc_stats.proofs.jobs.jobs_to_end.Given as goal

abbrev pub invariant-loop-call : goal.invariant-loop-call
invariant-loop-call l = record {
  machine : fold after l.run.machine (to_ask l.run.machine l.run.pending)
      ≡ fold after l.fn.run.machine (to_ask l.fn.run.machine l.fn.run.pending);
  followed : (history : List Snapshot) → AreFollowed history l.fn.job_statistics
      → l.fn.job_statistics.eras.items ≡ [] → used_in l.fn.job_statistics.era ≡ all_used []
      → AreSoFar (is_some l.fn.job_statistics.timing) history l.fn.run.machine
      l.fn.run.pending l.job_statistics l.run.machine l.run.pending;
  timing : l.job_statistics.timing ≡ l.fn.job_statistics.timing;
}

abbrev pub decreases-loop-call : goal.decreases-loop-call
decreases-loop-call l = length (to_ask l.run.machine l.run.pending)
