use Rattle.agc_exec.specs.Image.{sets_of}
use Rattle.agc_exec.specs.Stages.{IsBestRank}
use Rattle.agc_exec.proofs.search.best_rank.Given as goal

abbrev pub invariant-loop-k : goal.invariant-loop-k
invariant-loop-k l = IsBestRank (sets_of l.e) l.k l.best
