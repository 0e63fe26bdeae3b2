use Rattle.std.proofs.Common.{◌≡◌, drop}
use Rattle.agc_run.specs.Scenes.{owner_of}
use Rattle.agc_run.proofs.scene.Scene.owner.Given as goal

abbrev pub invariant-loop-seat : goal.invariant-loop-seat
invariant-loop-seat l = owner_of l.area (drop l.seat-index l.seat-items) ≡ owner_of l.area l.self.seats
