use Rattle.std.proofs.Common.{◌≡◌, ◌+◌, ◌-◌, ◌*◌, ◌≤◌, ◌++◌, length}
use Rattle.agc_wait.specs.Table.{waits_from, waits_of}
use Rattle.agc_wait.proofs.order.tasks_waiting.Given as goal

abbrev pub invariant-loop-place : goal.invariant-loop-place
invariant-loop-place l = record {
  rest : l.waits ++ waits_from (9 - l.place) l.place l.distance l.e ≡ waits_of l.e;
  len : length l.waits ≡ l.place;
  near : l.distance ≤ 16384 * (l.place + 1);
  nine : l.place ≤ 9;
}
