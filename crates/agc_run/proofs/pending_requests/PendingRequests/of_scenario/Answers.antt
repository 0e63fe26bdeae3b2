use Rattle.std.proofs.Common.{◌∙◌, ap}
use Rattle.agc_clock.specs.Clocks.{at_start}
use Rattle.agc_run.proofs.Passing.{time_left}
use Rattle.agc_run.proofs.pending_requests.PendingRequests.of_scenario.Goals as goal

pub returns : goal.returns
returns c m = time_left m c.of_script.result _ c.none.result c.new.result c.of_script.ensures c.none.ensures (c.new.ensures ∙ ap at_start c.seed.ensures)
