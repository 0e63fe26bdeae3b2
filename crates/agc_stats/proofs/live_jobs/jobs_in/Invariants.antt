use Rattle.std.proofs.Common.{◌≡◌, ℕ, ◌+◌, ◌<◌, length, drop, get_or, None}
use Rattle.std.specs.Option.{option_or}
use Rattle.agc_word.specs.Layout.{sets_in}
use Rattle.agc_exec.specs.Seats.{seats_in}
use Rattle.agc_stats.specs.ObservedJobs.{state_from}
use Rattle.agc_stats.proofs.live_jobs.jobs_in.Given as goal

abbrev pub invariant-loop-set : goal.invariant-loop-set
invariant-loop-set l = record {
  eight : length l.jobs ≡ 8;
  each : (n : ℕ) → n < 8
      → option_or (state_from (n + 1) l.set (drop l.set (seats_in l.words))) (get_or l.jobs n None)
      ≡ state_from (n + 1) 0 (seats_in l.words);
  end : l.set-end ≡ sets_in l.words;
}
