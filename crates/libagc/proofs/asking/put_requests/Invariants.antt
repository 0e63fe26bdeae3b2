use Rattle.std.proofs.Common.{◌≡◌, ◌≤◌, ◌++◌, take, drop}
use Rattle.libagc.proofs.Pulsing.{asks}
use Rattle.libagc.proofs.asking.put_requests.Given as goal

abbrev pub invariant-loop-action : goal.invariant-loop-action
invariant-loop-action l = record {
  put : take l.count l.requests ++ asks (drop l.action-index l.actions) ≡ asks l.actions;
  rest : drop l.count l.requests ≡ drop l.count l.fn.requests;
  most : l.count ≤ l.action-index;
}
