use Rattle.std.proofs.Common.{◌≤◌, Bool, cond, length, ap, ◌∙◌, arith}
use Rattle.std.specs.Prelude.{is_some}
use Rattle.agc_exec.specs.Seats.{seats_in}
use Rattle.agc_exec.proofs.Seating.{length-seats}
use Rattle.agc_run.specs.Reading.{scene_in}
use Rattle.agc_stats.specs.Occupancies.{owns_area}
use Rattle.agc_stats.proofs.Occupancies.{all_counted, counted_on, few_on, tables_are}
use Rattle.agc_stats.proofs.occupancy.occupancy_of.Goals as goal

pub loop-k-preserved : goal.loop-k-preserved
loop-k-preserved c =
    let seats = seats_in c.args.e.now in
    let few_sets : c.loop-k.sets ≤ 8 = omega arith in
    let few_areas : c.loop-k.areas ≤ 8 = omega arith in
    record {
      sets = counted_on is_some seats c.loop-k.k c.job_at-seat.result c.loop-k.sets c.one_if.result c.saturating_add-sets.result _ c.job_at-seat.ensures (c.one_if.ensures ∙ ap (λ (b : Bool). cond b 1 0) c.is_some.ensures) c.saturating_add-sets.ensures few_sets c.loop-k.invariant.sets;
      areas = counted_on owns_area seats c.loop-k.k c.job_at-seat.result c.loop-k.areas c.one_if-in-loop-k.result c.saturating_add-areas.result _ c.job_at-seat.ensures (c.one_if-in-loop-k.ensures ∙ ap (λ (b : Bool). cond b 1 0) c.owns_area.ensures) c.saturating_add-areas.ensures few_areas c.loop-k.invariant.areas;
      few_sets = few_on c.loop-k.k c.loop-k.sets c.one_if.result c.saturating_add-sets.result c.is_some.result c.one_if.ensures c.saturating_add-sets.ensures c.loop-k.invariant.few_sets;
      few_areas = few_on c.loop-k.k c.loop-k.areas c.one_if-in-loop-k.result c.saturating_add-areas.result c.owns_area.result c.one_if-in-loop-k.ensures c.saturating_add-areas.ensures c.loop-k.invariant.few_areas;
      end = c.loop-k.invariant.end;
      eight = c.loop-k.invariant.eight;
    }

pub returns : goal.returns
returns c =
    let seats = seats_in c.args.e.now in
    let past : length seats ≤ c.loop-k.k = rw (length-seats c.args.e.now) (omega arith) in
    tables_are (scene_in c.args.e.now) c.loop-k.sets c.loop-k.areas (length c.as_slice.result.now) c.is_some-2.result
    (all_counted is_some seats c.loop-k.k c.loop-k.sets past c.loop-k.invariant.sets)
    (all_counted owns_area seats c.loop-k.k c.loop-k.areas past c.loop-k.invariant.areas)
    (ap length (c.as_slice.ensures.value ∙ c.tasks_waiting.ensures))
    (c.is_some-2.ensures ∙ ap is_some c.running.ensures)
