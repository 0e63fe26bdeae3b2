-- The worked examples hold by computing.
use Rattle.std.proofs.Common.{refl}
use Rattle.agc_plan.specs.Examples.{Examples}

pub worked : Examples
worked = record {
  one_job = refl;
  nobody_left = refl;
  end_hands_over = refl;
  change_of_job = refl;
  nobody_runs = refl;
  equal_priorities = refl;
  least_again = refl;
  least_area_again = refl;
  over_a_sleeper = refl;
  one_sleeper = refl;
  alarm_1201 = refl;
  alarm_1202 = refl;
  alarm_1202_of_eight = refl;
  areas_before_numbers = refl;
  area_without_number = refl;
  alarm_1203 = refl;
  three_alarms = refl;
  equal_due_times = (refl, refl);
  alarm_inside_a_tick = (refl, refl);
  task_lists_itself = (refl, refl);
  phase_begins_again = (refl, refl);
}
