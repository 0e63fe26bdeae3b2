use Rattle.std.proofs.Common.{refl}
use Rattle.agc_document.proofs.laws.keys_are_those_listed.Goals as goal

pub returns : goal.returns
returns c = record {
  bench = refl;
  each_of_bench = refl;
  task = refl;
  each_of_task = refl;
  phase = refl;
  each_of_phase = refl;
  worker = refl;
  each_of_worker = refl;
  device = refl;
  each_of_device = refl;
  explored_worker = refl;
  each_of_explored = refl;
  explored = refl;
}
