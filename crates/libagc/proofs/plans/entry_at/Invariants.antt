use Rattle.std.proofs.Common.{◌≡◌, drop}
use Rattle.agc_plan.specs.Plans.{entry_at}
use Rattle.libagc.specs.Plans.{entries_from_c}
use Rattle.libagc.proofs.plans.entry_at.Given as goal

abbrev pub invariant-loop-entry : goal.invariant-loop-entry
invariant-loop-entry l = entry_at (entries_from_c (drop l.entry-index l.entries)) l.group l.phase ≡ entry_at (entries_from_c l.entries) l.group l.phase
