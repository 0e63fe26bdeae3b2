use Rattle.std.proofs.Common.{◌≡◌, ◌≤◌}
use Rattle.agc_image.specs.Rules.{tasks_before}
use Rattle.agc_image.proofs.explaining.tasks_in.Given as goal

abbrev pub invariant-loop-place : goal.invariant-loop-place
invariant-loop-place l = record {
  count : l.count ≡ tasks_before l.words l.place;
  range : l.count ≤ l.place;
}
