use Rattle.std.proofs.Common.{refl}
use Rattle.agc_scenario.proofs.laws.keys_are_those_listed.Goals as goal

pub returns : goal.returns
returns c = record {
  scenario = refl;
  steal = refl;
  cost = refl;
  job = refl;
  event = refl;
  each_of_job = refl;
  each_of_cost = refl;
  each_of_event = refl;
  each_of_steal = refl;
}
