use Rattle.agc_phase.specs.Writing.{CodesWritten}
use Rattle.agc_phase.proofs.image.write_codes.Given as goal

abbrev pub invariant-loop-k : goal.invariant-loop-k
invariant-loop-k l = CodesWritten l.codes l.fn.e l.k l.e
