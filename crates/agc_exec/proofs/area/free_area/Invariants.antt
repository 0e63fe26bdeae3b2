use Rattle.std.proofs.Common.{◌≡◌, ◌<◌, ◌≤◌, ℕ, true}
use Rattle.agc_plan.specs.Jobs.{is_owned}
use Rattle.agc_exec.specs.Sets.{slots_of}
use Rattle.agc_exec.specs.Image.{sets_of}
use Rattle.agc_exec.proofs.area.free_area.Given as goal

abbrev pub invariant-loop-area : goal.invariant-loop-area
invariant-loop-area l = (m : ℕ) → 1 ≤ m → m < l.area → is_owned m (slots_of (sets_of l.e)) ≡ true
