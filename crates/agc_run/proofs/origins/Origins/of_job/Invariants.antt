use Rattle.std.proofs.Common.{◌≡◌, drop}
use Rattle.agc_run.specs.Origins.{known_since}
use Rattle.agc_run.proofs.origins.Origins.of_job.Given as goal

abbrev pub invariant-loop-origin : goal.invariant-loop-origin
invariant-loop-origin l = known_since (drop l.origin-index l.origin-items) l.job ≡ known_since l.self l.job
