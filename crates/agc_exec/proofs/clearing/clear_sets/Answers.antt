use Rattle.std.proofs.Common.{◌≡◌, ◌-◌, ◌/◌, [], ap, sym, arith, length}
use Rattle.agc_word.specs.Layout.{sets_in}
use Rattle.agc_exec.specs.Frames.{OutsideSets}
use Rattle.agc_word.proofs.Keeping.{kept_twice}
use Rattle.agc_exec.specs.Blocks.{block_in, blocks_of}
use Rattle.agc_exec.proofs.Decoding.{IsSized-kept}
use Rattle.agc_exec.proofs.Reading.{get-blocks_of, length-blocks_of}
use Rattle.agc_exec.proofs.Emptying.{FreedBelow-all, FreedBelow-more}
use Rattle.agc_exec.proofs.clearing.clear_sets.Goals as goal

pub loop-k-preserved : goal.loop-k-preserved
loop-k-preserved c =
    let len : length (blocks_of c.loop-k.e) ≡ sets_in c.loop-k.e = length-blocks_of c.loop-k.e in
    let same : sets_in c.loop-k.e ≡ sets_in c.args.e.now = ap (λ n. (n - 48) / 12) c.loop-k.invariant.others.same_length in
    record {
      sized = IsSized-kept c.loop-k.e c.set_word.new.e c.set_word.ensures.others.same_length c.loop-k.invariant.sized;
      others = kept_twice OutsideSets c.args.e.now c.loop-k.e c.set_word.new.e c.loop-k.invariant.others c.set_word.ensures.others;
      freed = FreedBelow-more (blocks_of c.args.e.now) (blocks_of c.loop-k.e) (blocks_of c.set_word.new.e) c.loop-k.k c.of_bits.result (block_in c.loop-k.e c.loop-k.k) (omega arith) (sym (get-blocks_of c.loop-k.e c.loop-k.k [] (omega arith))) c.of_bits.ensures c.set_word.ensures.blocks c.loop-k.invariant.freed;
    }

pub returns-clause-words : goal.returns-clause-words
returns-clause-words c =
    let len : length (blocks_of c.args.e.now) ≡ sets_in c.args.e.now = length-blocks_of c.args.e.now in
    FreedBelow-all (blocks_of c.args.e.now) (blocks_of c.loop-k.e) c.loop-k.k (omega arith) c.loop-k.invariant.freed
