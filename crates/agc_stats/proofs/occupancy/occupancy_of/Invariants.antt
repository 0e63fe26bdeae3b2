use Rattle.std.proofs.Common.{◌≡◌, ◌+◌, ◌≤◌, drop}
use Rattle.std.specs.Prelude.{is_some}
use Rattle.std.specs.List.{count_by}
use Rattle.agc_word.specs.Layout.{sets_in}
use Rattle.agc_exec.specs.Seats.{seats_in}
use Rattle.agc_stats.specs.Occupancies.{owns_area}
use Rattle.agc_stats.proofs.occupancy.occupancy_of.Given as goal

abbrev pub invariant-loop-k : goal.invariant-loop-k
invariant-loop-k l = record {
  sets : l.sets + count_by is_some (drop l.k (seats_in l.e)) ≡ count_by is_some (seats_in l.e);
  areas : l.areas + count_by owns_area (drop l.k (seats_in l.e)) ≡ count_by owns_area (seats_in l.e);
  few_sets : l.sets ≤ l.k;
  few_areas : l.areas ≤ l.k;
  end : l.k-end ≡ sets_in l.e;
  eight : l.k-end ≤ 8;
}
