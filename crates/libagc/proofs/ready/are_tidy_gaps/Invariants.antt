use Rattle.std.proofs.Common.{◌≡◌, ℕ, ◌<◌}
use Rattle.agc_wait.specs.Table.{lst1}
use Rattle.libagc.proofs.ready.are_tidy_gaps.Given as goal

abbrev pub invariant-loop-k : goal.invariant-loop-k
invariant-loop-k l = (j : ℕ) → j < l.k → (lst1 l.e j ≡ 0o77777) → ⊥
