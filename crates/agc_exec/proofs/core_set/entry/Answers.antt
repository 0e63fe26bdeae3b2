use Rattle.std.proofs.Common.{◌∙◌, ◌+◌, ap, sym, arith, slice_index}
use Rattle.agc_word.specs.Layout.{set_place}
use Rattle.agc_exec.specs.Blocks.{block_in}
use Rattle.agc_exec.specs.Sets.{number_in}
use Rattle.agc_exec.proofs.Reading.{get-block_in}
use Rattle.agc_exec.proofs.Ranks.{at_words, held_by-free, number_in-held}
use Rattle.agc_exec.proofs.core_set.entry.Goals as goal

pub returns-then-word_of-eq-MINUS_ZERO : goal.returns-then-word_of-eq-MINUS_ZERO
returns-then-word_of-eq-MINUS_ZERO c =
    sym (ap number_in (at_words c.args.e.now c.args.k (omega arith) ∙ held_by-free (block_in c.args.e.now c.args.k) (slice_index c.args.e.now (set_place c.args.k + 11)) (omega arith)))

pub returns-else-word_of-eq-MINUS_ZERO : goal.returns-else-word_of-eq-MINUS_ZERO
returns-else-word_of-eq-MINUS_ZERO c =
    c.word_of-else-word_of-eq-MINUS_ZERO.ensures.value
    ∙ sym (ap number_in (at_words c.args.e.now c.args.k (omega arith)) ∙ number_in-held (block_in c.args.e.now c.args.k) (slice_index c.args.e.now (set_place c.args.k + 11)) (λ e. omega arith) ∙ get-block_in c.args.e.now c.args.k 0 0 (omega arith))
