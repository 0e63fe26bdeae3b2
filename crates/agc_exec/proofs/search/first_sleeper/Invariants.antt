use Rattle.agc_exec.specs.Image.{sets_of}
use Rattle.agc_exec.specs.Stages.{IsSleeperRank}
use Rattle.agc_exec.proofs.search.first_sleeper.Given as goal

abbrev pub invariant-loop-k : goal.invariant-loop-k
invariant-loop-k l = IsSleeperRank (sets_of l.e) l.at l.k l.first
