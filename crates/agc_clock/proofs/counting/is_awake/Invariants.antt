use Rattle.std.proofs.Common.{◌≡◌, ◌≢◌, ℕ, ◌<◌}
use Rattle.agc_word.specs.Layout.{sets_in}
use Rattle.agc_exec.specs.HeldJob.{HeldJob}
use Rattle.agc_exec.specs.Image.{sets_of}
use Rattle.agc_exec.specs.Sets.{Holds}
use Rattle.agc_clock.proofs.counting.is_awake.Given as goal

abbrev pub invariant-loop-k : goal.invariant-loop-k
invariant-loop-k l = record {
  others : (i : ℕ) (r : HeldJob) → i < l.k → Holds (sets_of l.words) i r → r.number ≢ l.number;
  end : l.k-end ≡ sets_in l.words;
}
