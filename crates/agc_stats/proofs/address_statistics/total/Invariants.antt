use Rattle.std.proofs.Common.{◌≡◌, take}
use Rattle.agc_stats.specs.Addresses.{total}
use Rattle.agc_stats.proofs.address_statistics.total.Given as goal

abbrev pub invariant-loop-time : goal.invariant-loop-time
invariant-loop-time l = l.total ≡ total (take l.time-index l.times)
