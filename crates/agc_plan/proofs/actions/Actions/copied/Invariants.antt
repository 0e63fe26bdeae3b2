use Rattle.std.proofs.Common.{◌≡◌, take}
use Rattle.agc_plan.proofs.actions.Actions.copied.Given as goal

abbrev pub invariant-loop-action : goal.invariant-loop-action
invariant-loop-action l = l.copy ≡ take l.action-index l.self
