use Rattle.std.proofs.Common.{◌≡◌, ◌≤◌, ◌++◌, length, drop}
use Rattle.std.specs.List.{flat_map}
use Rattle.agc_run.specs.Origins.{origin_in, origins_after}
use Rattle.agc_run.proofs.origins.origins_after.Given as goal

abbrev pub invariant-loop-seat : goal.invariant-loop-seat
invariant-loop-seat l = record {
  rest : l.found ++ flat_map (origin_in l.now l.origins) (drop l.seat-index l.seat-items) ≡ origins_after l.now l.origins l.scene.seats;
  len : length l.found ≤ l.seat-index;
}
