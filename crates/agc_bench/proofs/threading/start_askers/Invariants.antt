use Rattle.std.proofs.Common.{◌≡◌, ℕ, ◌<◌, length, get_or, vec_len}
use Rattle.agc_bench.specs.Sharing.{IsPledge}
use Rattle.agc_bench.proofs.threading.start_askers.Given as goal

abbrev pub invariant-loop-share : goal.invariant-loop-share
invariant-loop-share g l = record {
  len : vec_len l.running ≡ length l.yielded;
  each : (k : ℕ) (d : _) → k < length l.yielded → IsPledge l.hall.bench.now l.yielded l.hall.gate.now k (get_or l.running.items k d).promise.start.value (get_or l.running.items k d).promise.bench.now (get_or l.running.items k d).promise.thread (get_or l.running.items k d).promise.gate.now;
}
