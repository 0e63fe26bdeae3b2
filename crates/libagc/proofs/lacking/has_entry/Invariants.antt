use Rattle.std.proofs.Common.{◌≡◌, drop}
use Rattle.agc_plan.specs.Plans.{has_entry}
use Rattle.libagc.specs.Plans.{entries_from_c}
use Rattle.libagc.proofs.lacking.has_entry.Given as goal

abbrev pub invariant-loop-other : goal.invariant-loop-other
invariant-loop-other l = has_entry (entries_from_c (drop l.other-index l.entries)) l.group l.phase ≡ has_entry (entries_from_c l.entries) l.group l.phase
