use Rattle.std.proofs.Common.{◌≡◌, ◌++◌, ℕ, ◌<◌, length, get_or, vec_len}
use Rattle.std.specs.Vec.Iter.{into_iter_items, into_iter_len}
use Rattle.agc_bench.specs.Sharing.{IsPosts}
use Rattle.agc_bench.proofs.threading.start_posters.Given as goal

abbrev pub invariant-loop-device : goal.invariant-loop-device
invariant-loop-device g l = record {
  rest : l.yielded ++ into_iter_items l.device-iterator ≡ into_iter_items l.initial.device-iterator;
  left_over : into_iter_len l.device-iterator ≡ length (into_iter_items l.device-iterator);
  len : vec_len l.posting ≡ length l.yielded;
  each : (k : ℕ) (d : _) → k < length l.yielded → IsPosts l.hall.latch.now l.hall.bench.now k (get_or l.posting.items k d).promise.latch.now (get_or l.posting.items k d).promise.planned;
}
