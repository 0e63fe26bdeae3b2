use Rattle.std.proofs.Common.{◌<◌, ◌≤◌, length, arith}
use Rattle.std.proofs.lemmas.Option.{slice_get_within}
use Rattle.libagc.proofs.Stepping.{past_end}
use Rattle.libagc.proofs.steps.hand_out.Goals as goal

pub returns : goal.returns
returns c = record {
  first = λ k task is.
      let within : k < length c.args.list.now = slice_get_within c.args.list.now k task is in
      c.loop-k.invariant.first k task (omega (arith, within, c.loop-k-test.false, c.len-k-end.ensures.value)) is;
  others = λ k is.
      let past : length c.args.list.now ≤ k = past_end c.args.list.now k is in
      c.loop-k.invariant.others k (omega (arith, past, c.loop-k.auto.k-end, c.len-k-end.ensures.value));
}
