use Rattle.agc_exec.proofs.Emptying.{cleared}
use Rattle.agc_exec.proofs.clearing.clear.Goals as goal

pub returns-clause-clears : goal.returns-clause-clears
returns-clause-clears c = cleared c.args.e.now c.clear_sets.new.e c.clear_areas.new.e c.set.new.self c.of_bits.result c.sets-all.ensures.all c.clear_sets.ensures.words c.clear_sets.ensures.others c.clear_areas.ensures.words c.clear_areas.ensures.others c.clear_areas.ensures.uses c.of_bits.ensures c.set.ensures.value
