use Rattle.std.proofs.Common.{◌<◌, ◌≤◌, ℕ, ◌+◌, slice_index}
use Rattle.agc_exec.specs.Stages.{sign}
use Rattle.agc_word.specs.Layout.{set_place}
use Rattle.agc_exec.proofs.lawful.nobody_awake.Given as goal

abbrev pub invariant-loop-k : goal.invariant-loop-k
invariant-loop-k l = (j : ℕ) → j < l.k → sign ≤ slice_index l.e (set_place j + 11)
