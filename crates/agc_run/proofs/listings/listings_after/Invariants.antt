use Rattle.std.proofs.Common.{◌≡◌, ◌≤◌, ◌++◌, length, drop}
use Rattle.agc_run.specs.Origins.{listings_after}
use Rattle.agc_run.proofs.listings.listings_after.Given as goal

abbrev pub invariant-loop-wait : goal.invariant-loop-wait
invariant-loop-wait l = record {
  rest : l.found ++ listings_after l.now (drop l.place l.were) (drop l.wait-index l.wait-items) ≡ listings_after l.now l.were l.scene.waits;
  len : length l.found ≤ l.wait-index;
  near : l.place ≤ l.wait-index;
}
