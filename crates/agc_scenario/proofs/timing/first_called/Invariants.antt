use Rattle.std.proofs.Common.{◌≡◌, drop}
use Rattle.agc_scenario.specs.Scenarios.{first_called}
use Rattle.agc_scenario.proofs.timing.first_called.Given as goal

abbrev pub invariant-loop-event : goal.invariant-loop-event
invariant-loop-event l = first_called l.called (drop l.event-index l.events) ≡ first_called l.called l.events
