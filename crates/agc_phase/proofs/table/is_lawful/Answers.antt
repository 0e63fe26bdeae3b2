use Rattle.std.proofs.Common.{subst, sym, ◌∙◌}
use Rattle.agc_phase.specs.Image.{ArePairs}
use Rattle.agc_phase.proofs.Reading.{lawful_by_parts}
use Rattle.agc_phase.proofs.table.is_lawful.Goals as goal

pub returns-then-is_some : goal.returns-then-is_some
returns-then-is_some c =
    lawful_by_parts c.args.e.now c.phase_words.result c.failreg.result c.index-failreg-0.result c.index-failreg-1.result c.index-failreg-2.result _ c.phase_words.ensures c.failreg.ensures.words
    (c.recover.ensures.valid.0 (sym c.is_some.ensures ∙ c.if-is_some.true)) c.is_failreg.ensures

pub returns-else-is_some : goal.returns-else-is_some
returns-else-is_some c = (
  λ is. absurd (let off = c.if-is_some.false in cc),
  λ lawful.
      let pairs = subst ArePairs (sym c.phase_words.ensures) lawful.pairs in c.is_some.ensures ∙ c.recover.ensures.valid.1 pairs,
)
