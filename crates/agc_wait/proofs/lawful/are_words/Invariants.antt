use Rattle.std.proofs.Common.{◌<◌, ℕ, slice_index}
use Rattle.agc_wait.specs.Table.{InTable}
use Rattle.agc_wait.proofs.lawful.are_words.Given as goal

abbrev pub invariant-loop-place : goal.invariant-loop-place
invariant-loop-place l = (i : ℕ) → InTable i → i < l.place → slice_index l.e i < 32768
