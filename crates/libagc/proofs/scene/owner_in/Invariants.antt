use Rattle.std.proofs.Common.{◌≡◌, drop}
use Rattle.libagc.specs.Scenes.{owner_in}
use Rattle.libagc.proofs.scene.owner_in.Given as goal

abbrev pub invariant-loop-job : goal.invariant-loop-job
invariant-loop-job l = owner_in (drop l.job-index l.sets) l.area ≡ owner_in l.sets l.area
