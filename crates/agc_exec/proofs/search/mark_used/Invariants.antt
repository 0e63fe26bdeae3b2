use Rattle.agc_exec.specs.Image.{sets_of}
use Rattle.agc_exec.specs.Stages.{IsMarked, IsFirstFree}
use Rattle.agc_exec.proofs.search.mark_used.Given as goal

abbrev pub invariant-loop-k : goal.invariant-loop-k
invariant-loop-k l = record {
  marked : IsMarked (sets_of l.e) l.k l.used;
  free : IsFirstFree (sets_of l.e) l.k l.free;
}
