use Rattle.agc_exec.specs.Stages.{AreJudged}
use Rattle.agc_exec.proofs.lawful.are_judged.Given as goal

abbrev pub invariant-loop-k : goal.invariant-loop-k
invariant-loop-k l = AreJudged l.e l.k l.numbers l.areas
