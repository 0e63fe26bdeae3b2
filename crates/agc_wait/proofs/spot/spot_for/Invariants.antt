use Rattle.agc_wait.specs.Table.{waits_of}
use Rattle.agc_wait.specs.Moving.{IsWalked}
use Rattle.agc_wait.proofs.spot.spot_for.Given as goal

abbrev pub invariant-loop-place : goal.invariant-loop-place
invariant-loop-place l = IsWalked (waits_of l.e) l.distance l.place l.before l.here
