use Rattle.std.proofs.Common.{◌≡◌, take}
use Rattle.agc_run.proofs.listings.Listings.duplicate.Given as goal

abbrev pub invariant-loop-listing : goal.invariant-loop-listing
invariant-loop-listing l = l.copy ≡ take l.listing-index l.self
