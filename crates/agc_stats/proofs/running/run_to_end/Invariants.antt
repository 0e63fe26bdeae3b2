use Rattle.std.proofs.Common.{◌≡◌, List, ◌++◌, length}
use Rattle.std.specs.List.{fold}
use Rattle.agc_machine.specs.Machines.{after}
use Rattle.agc_run.specs.Runs.{to_ask}
use Rattle.agc_stats.specs.Runs.{AreStatistics, Entry, entries, occupancy_now}
use Rattle.agc_stats.proofs.running.run_to_end.Given as goal

abbrev pub invariant-loop-call : goal.invariant-loop-call
invariant-loop-call g l = record {
  machine : fold after l.run.machine (to_ask l.run.machine l.run.pending) ≡ fold after l.fn.run.machine (to_ask l.fn.run.machine l.fn.run.pending);
  made : (es : List Entry) × AreStatistics l.fn.run.machine es l.statistics × (es ++ entries l.run.machine l.statistics.time (to_ask l.run.machine l.run.pending) ≡ entries l.fn.run.machine 0 (to_ask l.fn.run.machine l.fn.run.pending));
  full : l.statistics.occupancy ≡ occupancy_now l.run.machine;
}

abbrev pub decreases-loop-call : goal.decreases-loop-call
decreases-loop-call g l = length (to_ask l.run.machine l.run.pending)
