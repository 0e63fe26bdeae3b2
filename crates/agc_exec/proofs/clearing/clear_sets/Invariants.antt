use Rattle.agc_word.specs.Layout.{IsSized, Keeps}
use Rattle.agc_exec.specs.Frames.{OutsideSets}
use Rattle.agc_exec.specs.Blocks.{blocks_of}
use Rattle.agc_exec.proofs.Emptying.{FreedBelow}
use Rattle.agc_exec.proofs.clearing.clear_sets.Given as goal

abbrev pub invariant-loop-k : goal.invariant-loop-k
invariant-loop-k l = record {
  sized : IsSized l.e;
  others : Keeps OutsideSets l.fn.e l.e;
  freed : FreedBelow l.k (blocks_of l.fn.e) (blocks_of l.e);
}
