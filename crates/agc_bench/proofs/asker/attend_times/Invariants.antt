use Rattle.agc_bench.specs.Sharing.{AsksPulses}
use Rattle.agc_bench.proofs.asker.attend_times.Given as goal

abbrev pub invariant-loop-time : goal.invariant-loop-time
invariant-loop-time g l = AsksPulses l._time l.initial.share l.share
