use Rattle.std.proofs.Common.{◌≡◌, ℕ, ◌+◌, ◌<◌, length, get_or}
use Rattle.agc_exec.specs.Image.{jobs_in}
use Rattle.agc_clock.specs.Counts.{kept_by}
use Rattle.agc_clock.proofs.counting.kept.Given as goal

abbrev pub invariant-loop-place : goal.invariant-loop-place
invariant-loop-place l = record {
  eight : length l.all ≡ 8;
  before : (k : ℕ) → k < l.place
      → get_or l.all k 0 ≡ kept_by l.began (jobs_in l.words) l.given (k + 1);
}
