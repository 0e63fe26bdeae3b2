use Rattle.std.proofs.Common.{arith}
use Rattle.agc_exec.proofs.Reading.{blocks_of-exchanged}
use Rattle.agc_exec.proofs.core_set.exchange_words.Goals as goal

pub returns-clause-blocks : goal.returns-clause-blocks
returns-clause-blocks c =
    blocks_of-exchanged c.args.e.now c.loop-i.e c.args.k c.requires.sized c.requires.set.0 c.requires.set.1 (record {
      same_length = c.loop-i.invariant.same_length;
      front = λ i lt. c.loop-i.invariant.front i (omega arith);
      other = λ i lt. c.loop-i.invariant.other i (omega arith);
      front_rest = λ j low high. c.loop-i.invariant.front_rest j (omega arith) high;
      other_rest = λ j low. c.loop-i.invariant.other_rest j (omega arith);
    })
