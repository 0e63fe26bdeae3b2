use Rattle.std.proofs.Common.{◌≡◌, take}
use Rattle.agc_run.proofs.origins.Origins.duplicate.Given as goal

abbrev pub invariant-loop-origin : goal.invariant-loop-origin
invariant-loop-origin l = l.copy ≡ take l.origin-index l.self
