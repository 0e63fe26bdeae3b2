use Rattle.agc_trace.proofs.Quieted.{quiet_plain, quiet_places}
use Rattle.agc_trace.proofs.laws.quiet_request_changes_the_time_alone.Goals as goal

pub returns-clause-state : goal.returns-clause-state
returns-clause-state c = quiet_plain

pub returns-clause-core_sets : goal.returns-clause-core_sets
returns-clause-core_sets c = quiet_places
