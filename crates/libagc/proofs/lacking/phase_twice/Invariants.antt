use Rattle.std.proofs.Common.{◌≡◌, drop}
use Rattle.agc_plan.specs.Plans.{phase_twice}
use Rattle.libagc.specs.Plans.{entries_from_c}
use Rattle.libagc.proofs.lacking.phase_twice.Given as goal

abbrev pub invariant-loop-k : goal.invariant-loop-k
invariant-loop-k l = phase_twice (entries_from_c (drop l.k l.entries)) ≡ phase_twice (entries_from_c l.entries)
