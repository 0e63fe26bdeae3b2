use Rattle.std.proofs.Common.{◌≡◌, ◌+◌, vec_len}
use Rattle.agc_bench.specs.Sharing.{AreFresh}
use Rattle.agc_bench.proofs.opening.shares_of.Given as goal

abbrev pub invariant-loop-given : goal.invariant-loop-given
invariant-loop-given g l = record {
  count : vec_len l.shares ≡ l._given;
  fresh : AreFresh l.initial.desk.given l.shares.items;
  given : l.desk ≡ record l.initial.desk { given = l.initial.desk.given + l._given };
}
