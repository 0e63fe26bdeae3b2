use Rattle.agc_scenario.proofs.Refusals.{if_names_found}
use Rattle.agc_scenario.proofs.scenario.names_of.Goals as goal

pub returns-clause-found : goal.returns-clause-found
returns-clause-found c = if_names_found (λ v. v.items) c.args.names.now c.all_spelled.result c.all_spelled.ensures.found
