use Rattle.std.proofs.Common.{◌≡◌, ◌<◌, ◌≤◌, ℕ, true, false, slice_index_or}
use Rattle.agc_exec.proofs.search.free_number.Given as goal

abbrev pub invariant-loop-number : goal.invariant-loop-number
invariant-loop-number l = (m : ℕ) → 1 ≤ m → m < l.number → slice_index_or l.used m false ≡ true
