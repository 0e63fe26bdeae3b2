use Rattle.std.proofs.Common.{◌≡◌, ◌∙◌, ap, sym, arith, slice_set}
use Rattle.agc_exec.specs.Frames.{OutsideSets}
use Rattle.agc_word.specs.Words.{complement}
use Rattle.agc_word.proofs.Keeping.{kept_twice}
use Rattle.agc_exec.specs.Calls.{slept_block, fronted_blocks}
use Rattle.agc_plan.specs.Jobs.{best}
use Rattle.agc_exec.specs.Blocks.{blocks_of, block_in}
use Rattle.agc_exec.specs.Image.{sets_of}
use Rattle.agc_exec.specs.Sets.{running_in, entries_of}
use Rattle.agc_exec.proofs.Reading.{get-block_in}
use Rattle.agc_exec.proofs.Turning.{Turned, turned-by, slept, turned-lawful, turned-words, turned-coded, turned-set, slept-gives, front_is}
use Rattle.agc_exec.proofs.leave.sleep_front.Goals as goal

pub bring_best-requires-clause-lawful : goal.bring_best-requires-clause-lawful
bring_best-requires-clause-lawful c =
    turned-lawful c.args.e.now c.set_word-2.new.e 0 c.requires.runs.0 (slept c.args.at c.requires.runs.0) (slept_block c.args.at (block_in c.args.e.now 0)) (turned-by c.args.e.now c.set_word.new.e c.set_word-2.new.e c.requires.runs.0 c.args.at c.neg.result c.of_bits.result c.requires.set c.requires.runs.1 c.requires.runs.2 (omega arith) (omega arith) c.set_word.ensures.others c.set_word.ensures.blocks c.set_word-2.ensures.blocks (c.neg.ensures.turned ∙ ap complement (c.of_bits-priority.ensures ∙ c.word_of.ensures.value ∙ sym (get-block_in c.args.e.now 0 11 0 (omega arith)))) (c.of_bits.ensures ∙ c.get.ensures.value))

pub runner-requires : goal.runner-requires
runner-requires c =
    let turned : Turned c.args.e.now c.set_word-2.new.e 0 c.requires.runs.0 (slept c.args.at c.requires.runs.0) (slept_block c.args.at (block_in c.args.e.now 0)) = (turned-by c.args.e.now c.set_word.new.e c.set_word-2.new.e c.requires.runs.0 c.args.at c.neg.result c.of_bits.result c.requires.set c.requires.runs.1 c.requires.runs.2 (omega arith) (omega arith) c.set_word.ensures.others c.set_word.ensures.blocks c.set_word-2.ensures.blocks (c.neg.ensures.turned ∙ ap complement (c.of_bits-priority.ensures ∙ c.word_of.ensures.value ∙ sym (get-block_in c.args.e.now 0 11 0 (omega arith)))) (c.of_bits.ensures ∙ c.get.ensures.value)) in
    turned-set c.args.e.now c.set_word-2.new.e c.bring_best.new.e 0 c.requires.runs.0 (slept c.args.at c.requires.runs.0) (slept_block c.args.at (block_in c.args.e.now 0)) turned c.bring_best.ensures.brings c.bring_best.ensures.blocks (c.bring_best.ensures.others.same_length ∙ c.set_word-2.ensures.others.same_length ∙ c.set_word.ensures.others.same_length)

pub returns : goal.returns
returns c =
    let turned : Turned c.args.e.now c.set_word-2.new.e 0 c.requires.runs.0 (slept c.args.at c.requires.runs.0) (slept_block c.args.at (block_in c.args.e.now 0)) = (turned-by c.args.e.now c.set_word.new.e c.set_word-2.new.e c.requires.runs.0 c.args.at c.neg.result c.of_bits.result c.requires.set c.requires.runs.1 c.requires.runs.2 (omega arith) (omega arith) c.set_word.ensures.others c.set_word.ensures.blocks c.set_word-2.ensures.blocks (c.neg.ensures.turned ∙ ap complement (c.of_bits-priority.ensures ∙ c.word_of.ensures.value ∙ sym (get-block_in c.args.e.now 0 11 0 (omega arith)))) (c.of_bits.ensures ∙ c.get.ensures.value)) in
    let words : blocks_of c.bring_best.new.e ≡ fronted_blocks (running_in (sets_of c.bring_best.new.e)) (entries_of (sets_of c.args.e.now)) (slice_set (blocks_of c.args.e.now) 0 (slept_block c.args.at (block_in c.args.e.now 0))) =
    turned-words c.args.e.now c.set_word-2.new.e c.bring_best.new.e 0 c.requires.runs.0 (slept c.args.at c.requires.runs.0) (slept_block c.args.at (block_in c.args.e.now 0)) turned c.bring_best.ensures.brings c.bring_best.ensures.blocks in
    record {
      gives = rw c.runner.ensures (slept-gives c.args.e.now c.set_word-2.new.e c.bring_best.new.e c.requires.runs.0 c.args.at (slept_block c.args.at (block_in c.args.e.now 0)) turned c.requires.runs.2 c.bring_best.ensures.brings);
      words = rw (front_is c.args.e.now c.requires.set.sized) words;
      coded = rw words (turned-coded c.args.e.now c.set_word-2.new.e 0 c.requires.runs.0 (slept c.args.at c.requires.runs.0) (slept_block c.args.at (block_in c.args.e.now 0)) turned (running_in (sets_of c.bring_best.new.e)));
      first = c.bring_best.ensures.brings.running ∙ ap best (sym c.bring_best.ensures.brings.slots);
      others = kept_twice OutsideSets c.args.e.now c.set_word-2.new.e c.bring_best.new.e (kept_twice OutsideSets c.args.e.now c.set_word.new.e c.set_word-2.new.e c.set_word.ensures.others c.set_word-2.ensures.others) c.bring_best.ensures.others;
    }
