use Rattle.std.proofs.Common.{◌≡◌, ◌≤◌, take}
use Rattle.agc_plan.specs.Pulses.{requests_for}
use Rattle.agc_session.proofs.following.requests_for.Given as goal

abbrev pub invariant-loop-action : goal.invariant-loop-action
invariant-loop-action l = record {
  put : take l.count l.requests ≡ requests_for (take l.action-index l.actions);
  most : l.count ≤ l.action-index;
}
