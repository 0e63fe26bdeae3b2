use Rattle.std.proofs.Common.{◌≡◌, ◌∙◌, ap, sym, refl}
use Rattle.agc_exec.specs.Frames.{OutsideSets}
use Rattle.agc_word.proofs.Keeping.{kept_twice}
use Rattle.agc_exec.specs.Calls.{blocks_end}
use Rattle.agc_plan.specs.Jobs.{best}
use Rattle.agc_exec.specs.Blocks.{block_in, blocks_of}
use Rattle.agc_exec.specs.Image.{sets_of, IsLawfulBlock}
use Rattle.agc_exec.specs.Sets.{running_in, entries_of}
use Rattle.agc_exec.proofs.Decoding.{IsSized-kept}
use Rattle.agc_exec.proofs.Ending.{Freed, Freed-made, freed-lawful, freed-gives, freed-words, Each-freed, lawful-freed}
use Rattle.agc_exec.proofs.leave.end_front.Goals as goal

pub bring_best-requires-clause-lawful : goal.bring_best-requires-clause-lawful
bring_best-requires-clause-lawful c = freed-lawful _ _ _ (Freed-made c.args.e.now c.set_word.new.e c.requires.runs.0 (block_in c.args.e.now 0) c.of_bits.result c.requires.set (c.requires.runs.1, c.requires.runs.2) refl c.of_bits.ensures c.set_word.ensures.blocks)

pub runner-requires : goal.runner-requires
runner-requires c =
    let freed : Freed c.args.e.now c.set_word.new.e c.requires.runs.0 = Freed-made c.args.e.now c.set_word.new.e c.requires.runs.0 (block_in c.args.e.now 0) c.of_bits.result c.requires.set (c.requires.runs.1, c.requires.runs.2) refl c.of_bits.ensures c.set_word.ensures.blocks in
    record {
      sized = IsSized-kept c.set_word.new.e c.bring_best.new.e c.bring_best.ensures.others.same_length (IsSized-kept c.args.e.now c.set_word.new.e c.set_word.ensures.others.same_length c.requires.set.sized);
      coded = rw (freed-words c.args.e.now c.set_word.new.e c.bring_best.new.e c.requires.runs.0 freed c.bring_best.ensures.brings c.bring_best.ensures.blocks) (Each-freed IsLawfulBlock c.args.e.now c.bring_best.new.e c.requires.runs.0 c.set_word.new.e freed c.requires.set.coded (lawful-freed _ freed.free) (running_in (sets_of c.bring_best.new.e)));
      standing = record { lawful = c.bring_best.ensures.brings.lawful; in_front = c.bring_best.ensures.brings.in_front };
    }

pub returns : goal.returns
returns c =
    let freed : Freed c.args.e.now c.set_word.new.e c.requires.runs.0 = Freed-made c.args.e.now c.set_word.new.e c.requires.runs.0 (block_in c.args.e.now 0) c.of_bits.result c.requires.set (c.requires.runs.1, c.requires.runs.2) refl c.of_bits.ensures c.set_word.ensures.blocks in
    let words : blocks_of c.bring_best.new.e ≡ blocks_end (running_in (sets_of c.args.e.now)) (running_in (sets_of c.bring_best.new.e)) (entries_of (sets_of c.args.e.now)) (blocks_of c.args.e.now) =
    freed-words c.args.e.now c.set_word.new.e c.bring_best.new.e c.requires.runs.0 freed c.bring_best.ensures.brings c.bring_best.ensures.blocks in
    record {
      gives = rw c.runner.ensures (freed-gives c.args.e.now c.set_word.new.e c.bring_best.new.e c.requires.runs.0 freed c.bring_best.ensures.brings);
      words = words;
      coded = rw words (Each-freed IsLawfulBlock c.args.e.now c.bring_best.new.e c.requires.runs.0 c.set_word.new.e freed c.requires.set.coded (lawful-freed _ freed.free) (running_in (sets_of c.bring_best.new.e)));
      first = c.bring_best.ensures.brings.running ∙ ap best (sym c.bring_best.ensures.brings.slots);
      others = kept_twice OutsideSets c.args.e.now c.set_word.new.e c.bring_best.new.e c.set_word.ensures.others c.bring_best.ensures.others;
    }
