use Rattle.std.proofs.Common.{◌≡◌, ◌<◌, ℕ, List, length, sym, subst, ◌∙◌, arith}
use Rattle.std.proofs.lemmas.List.{length-set}
use Rattle.agc_stats.specs.declared.address_statistics.AddressStatistics.{AddressStatistics}
use Rattle.agc_stats.proofs.Rows.{row_changed, sorted_more}
use Rattle.agc_stats.proofs.addresses.sort_rows.Goals as goal

pub loop-place-preserved : goal.loop-place-preserved
loop-place-preserved c =
    let rows : List AddressStatistics = c.loop-place.rows.items in
    let within : c.loop-place.place < length rows = omega arith in
    record {
      rows = λ deadlines releases lives are. row_changed deadlines releases lives rows c.loop-place.place c.index_mut.result.now c.sort.new.self (c.loop-place.invariant.rows deadlines releases lives are) within c.index_mut.ensures.value c.sort.ensures.address (c.sort.ensures.stays deadlines releases lives);
      sorted = sorted_more rows c.loop-place.place c.sort.new.self within c.loop-place.invariant.sorted c.in_ok-sort.ensures.sorted;
      end = c.loop-place.invariant.end ∙ sym (length-set rows c.loop-place.place c.sort.new.self);
    }
