use Rattle.std.proofs.Common.{◌≡◌, ◌+◌, Some, map, take}
use Rattle.agc_latch.specs.Accounts.{given_of, latch_of}
use Rattle.agc_latch.specs.Ends.{new_device}
use Rattle.agc_desk.specs.Desks.{with_lines}
use Rattle.agc_bench.proofs.poster.devices_of.Given as goal

abbrev pub invariant-loop-planned : goal.invariant-loop-planned
invariant-loop-planned g l = record {
  devices : l.devices.items ≡ map (λ d. new_device l.latch d.1) (take l.planned-index l.planned-items);
  given : given_of l.desk.lines.taker ≡ given_of l.initial.desk.lines.taker + l.planned-index;
  count : l.desk.lines.devices ≡ l.planned-index;
  latch : latch_of l.desk.lines.taker ≡ Some l.latch;
  settled : l.desk.lines.settled ≡ l.initial.desk.lines.settled;
  desk : l.desk ≡ with_lines l.desk.lines l.initial.desk;
}
