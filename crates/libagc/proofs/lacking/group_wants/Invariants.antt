use Rattle.std.proofs.Common.{◌≡◌, drop}
use Rattle.agc_plan.specs.Plans.{group_wants}
use Rattle.libagc.specs.Plans.{entries_from_c}
use Rattle.libagc.proofs.lacking.group_wants.Given as goal

abbrev pub invariant-loop-entry : goal.invariant-loop-entry
invariant-loop-entry l = group_wants (entries_from_c (drop l.entry-index l.entries)) l.group ≡ group_wants (entries_from_c l.entries) l.group
