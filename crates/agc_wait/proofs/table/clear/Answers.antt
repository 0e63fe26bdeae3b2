use Rattle.std.proofs.Common.{arith, length, ap, ◌∙◌}
use Rattle.std.proofs.lemmas.List.{length-set}
use Rattle.agc_word.specs.Layout as layout
use Rattle.agc_wait.specs.Moving.{filled}
use Rattle.agc_wait.proofs.Writes.{after_set}
use Rattle.agc_wait.proofs.Blanks.{cleared}
use Rattle.agc_wait.proofs.table.clear.Goals as goal

pub returns : goal.returns
returns c =
    cleared c.args.e.now c.set.new.self c.fill.new.e c.fill-2.new.e
    (after_set _ _ layout.time3 _ _ c.set.ensures.value c.zero.ensures c.set.ensures.all (omega arith))
    (λ j. c.fill.ensures.filled j ∙ ap (λ w. filled c.set.new.self layout.lst1 layout.lst2 w j) c.of_bits.ensures)
    (λ j. c.fill-2.ensures.filled j ∙ ap (λ w. filled c.fill.new.e layout.lst2 layout.phase_words w j) c.zero-2.ensures)
    (c.fill-2.ensures.all ∙ c.fill.ensures.all ∙ ap length c.set.ensures.value ∙ length-set c.args.e.now layout.time3 _)
