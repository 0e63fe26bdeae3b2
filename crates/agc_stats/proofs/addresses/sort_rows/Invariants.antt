use Rattle.std.proofs.Common.{◌≡◌, ◌<◌, ℕ, List, Option, length, get_or}
use Rattle.std.specs.List.Sorted.{IsNonDecreasing}
use Rattle.agc_stats.specs.Addresses.{AreRows}
use Rattle.agc_stats.specs.declared.address_statistics.AddressStatistics.{AddressStatistics}
use Rattle.agc_stats.specs.declared.live_jobs.JobLife.{JobLife}
use Rattle.agc_stats.proofs.addresses.sort_rows.Given as goal

abbrev pub invariant-loop-place : goal.invariant-loop-place
invariant-loop-place l = record {
  rows : (deadlines : ℕ → Option ℕ) (releases : List ℕ) (lives : List JobLife) → AreRows deadlines releases lives l.fn.rows.items → AreRows deadlines releases lives l.rows.items;
  sorted : (k : ℕ) (d : AddressStatistics) → k < l.place → IsNonDecreasing (get_or l.rows.items k d).responses.items;
  end : l.place-end ≡ length l.rows.items;
}
