use Rattle.agc_plan.specs.Index.{IndexesFirst}
use Rattle.agc_plan.proofs.index.index_of.Given as goal

abbrev pub invariant-loop-k : goal.invariant-loop-k
invariant-loop-k l = IndexesFirst l.k l.rows l.index
