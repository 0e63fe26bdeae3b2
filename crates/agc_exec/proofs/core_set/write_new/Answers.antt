use Rattle.std.proofs.Common.{◌≡◌, ◌<◌, ◌∙◌, ℕ, List, ◌∷◌, [], slice_set, replicate, arith, length}
use Rattle.agc_word.specs.Layout.{sets_in}
use Rattle.agc_plan.specs.declared.request.Entry.{Entry}
use Rattle.agc_exec.specs.Calls.{block_with}
use Rattle.agc_exec.specs.Blocks.{blocks_of}
use Rattle.agc_exec.proofs.Reading.{blocks_of-more}
use Rattle.agc_exec.proofs.core_set.write_new.Goals as goal

coded : (blocks : List (List ℕ)) (k name at number : ℕ) (entry : Entry) (urgency : ℕ) → name ≡ number → at ≡ entry.at → slice_set blocks k (name ∷ 0 ∷ 0 ∷ 0 ∷ 0 ∷ 0 ∷ 0 ∷ 0 ∷ at ∷ entry.bank ∷ 0 ∷ urgency ∷ []) ≡ slice_set blocks k (block_with number entry urgency)
coded blocks k name at number entry urgency e f = rw (e, f)

pub returns-clause-blocks : goal.returns-clause-blocks
returns-clause-blocks c =
    let lt : c.args.k < sets_in c.args.e.now = omega arith in
    let l0 : length c.blank.new.e ≡ length c.args.e.now = c.blank.ensures.others.same_length in
    let l1 : length c.set_word.new.e ≡ length c.args.e.now = c.set_word.ensures.others.same_length ∙ l0 in
    let l2 : length c.set_word-2.new.e ≡ length c.args.e.now = c.set_word-2.ensures.others.same_length ∙ l1 in
    let l3 : length c.set_word-3.new.e ≡ length c.args.e.now = c.set_word-3.ensures.others.same_length ∙ l2 in
    let b1 : blocks_of c.set_word.new.e ≡ slice_set (blocks_of c.args.e.now) c.args.k (slice_set (replicate 12 0) 0 c.of_bits.result) = blocks_of-more c.args.e.now c.blank.new.e c.set_word.new.e c.args.k 0 c.of_bits.result (replicate 12 0) lt l0 c.blank.ensures.blocks c.set_word.ensures.blocks in
    let b2 = blocks_of-more c.args.e.now c.set_word.new.e c.set_word-2.new.e c.args.k 8 c.of_bits-2.result _ lt l1 b1 c.set_word-2.ensures.blocks in
    let b3 = blocks_of-more c.args.e.now c.set_word-2.new.e c.set_word-3.new.e c.args.k 9 c.args.entry.bank _ lt l2 b2 c.set_word-3.ensures.blocks in
    let b4 = blocks_of-more c.args.e.now c.set_word-3.new.e c.set_word-4.new.e c.args.k 11 c.args.urgency _ lt l3 b3 c.set_word-4.ensures.blocks in
    b4 ∙ coded (blocks_of c.args.e.now) c.args.k c.of_bits.result c.of_bits-2.result c.args.number c.args.entry c.args.urgency (omega arith) (omega arith)
