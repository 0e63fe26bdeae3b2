use Rattle.std.proofs.Common.{◌≡◌, drop, slice_get}
use Rattle.agc_plan.specs.Pulses.{requests_for}
use Rattle.agc_plan.proofs.pulse.request_after.Given as goal

abbrev pub invariant-loop-action : goal.invariant-loop-action
invariant-loop-action l = slice_get (requests_for l.actions) l.others ≡ slice_get (requests_for (drop l.action-index l.actions)) l.left
