use Rattle.std.proofs.Common.{ℕ}
use Rattle.std.proofs.lemmas.List.Sorted.{IsNonDecreasingBy-from_sort, IsPermutation-trans}
use Rattle.agc_stats.proofs.Counting.{on_ok}
use Rattle.agc_stats.proofs.address_statistics.AddressStatistics.sort.Goals as goal

pub returns-clause-sorted : goal.returns-clause-sorted
returns-clause-sorted c = on_ok c.sort.result (λ sorted. IsNonDecreasingBy-from_sort (λ (x : ℕ). x) c.sort.new.self.items sorted) c.sort.ensures.sorted

pub returns-clause-stays : goal.returns-clause-stays
returns-clause-stays c deadlines releases lives row = record {
  released_is = row.released_is;
  deadline_is = row.deadline_is;
  lives_are = record {
    lost_is = row.lives_are.lost_is;
    alive_is = row.lives_are.alive_is;
    preempted_is = row.lives_are.preempted_is;
    computed_is = row.lives_are.computed_is;
    responses_are = IsPermutation-trans _ _ _ row.lives_are.responses_are c.sort.ensures.permutation;
    computed_to_end_is = row.lives_are.computed_to_end_is;
    slept_to_end_is = row.lives_are.slept_to_end_is;
    missed_is = row.lives_are.missed_is;
    first_missed_is = row.lives_are.first_missed_is;
  };
}
