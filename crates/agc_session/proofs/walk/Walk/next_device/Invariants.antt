use Rattle.std.proofs.Common.{◌≡◌, ◌≤◌, ◌-◌, length, true}
use Rattle.agc_session.specs.Pieces.{to_come}
use Rattle.agc_session.proofs.walk.Walk.next_device.Given as goal

abbrev pub invariant-loop-self : goal.invariant-loop-self
invariant-loop-self l = record {
  same : to_come l.self ≡ to_come l.fn.self;
  left : l.self.left ≡ 0;
  begun : l.self.begun ≡ true;
  walked : length l.self.workers ≤ l.self.worker;
  devices : l.devices ≡ l.self.devices;
}

abbrev pub decreases-loop-self : goal.decreases-loop-self
decreases-loop-self l = length l.devices - l.self.device
