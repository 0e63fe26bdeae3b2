use Rattle.std.proofs.Common.{ℕ, ◌<◌, slice_index_or, []}
use Rattle.agc_exec.specs.Blocks.{blocks_of}
use Rattle.agc_exec.specs.Image.{IsTidyBlock}
use Rattle.libagc.proofs.ready.are_tidy_sets.Given as goal

abbrev pub invariant-loop-k : goal.invariant-loop-k
invariant-loop-k l = (j : ℕ) → j < l.k → IsTidyBlock (slice_index_or (blocks_of l.e) j [])
