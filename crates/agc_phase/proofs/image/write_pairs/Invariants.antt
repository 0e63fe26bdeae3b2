use Rattle.agc_phase.specs.Writing.{PairsWritten}
use Rattle.agc_phase.proofs.image.write_pairs.Given as goal

abbrev pub invariant-loop-k : goal.invariant-loop-k
invariant-loop-k l = PairsWritten l.phases l.fn.e l.k l.e
