use Rattle.std.proofs.Common.{◌≡◌, ◌≤◌, ◌++◌, length, drop}
use Rattle.agc_word.specs.Layout.{sets_in}
use Rattle.agc_exec.specs.Seats.{seats_in}
use Rattle.agc_run.proofs.scene.seats_of.Given as goal

abbrev pub invariant-loop-k : goal.invariant-loop-k
invariant-loop-k l = record {
  rest : l.seats.items ++ drop l.k (seats_in l.e) ≡ seats_in l.e;
  len : length l.seats.items ≤ l.k;
  end : l.k-end ≡ sets_in l.e;
  eight : l.k-end ≤ 8;
}
