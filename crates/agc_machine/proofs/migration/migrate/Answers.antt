use Rattle.std.proofs.Common.{ℕ, List, slice_set, ap, subst, ◌∙◌, rules}
use Rattle.agc_word.specs.Layout.{padded}
use Rattle.agc_word.specs.Words.{complement}
use Rattle.agc_machine.specs.Image.{IsLawfulImage}
use Rattle.agc_machine.proofs.Migrating.{padded-grown, migrates}
use Rattle.agc_machine.proofs.migration.migrate.Goals as goal

pub returns-clause-migrated : goal.returns-clause-migrated
returns-clause-migrated c =
    migrates c.args.words.now _ c.told-words (subst IsLawfulImage c.loaded-e.ensures (c.if-not-is_lawful_image.ensures.0 search rules))
    (ap (λ (w : ℕ). slice_set c.words-migrated.result 143 w) (c.neg.ensures.turned ∙ ap complement c.zero.ensures)
    ∙ ap (λ (l : List ℕ). slice_set l 143 32767) (c.words-migrated.ensures.words ∙ ap padded c.loaded-e.ensures)
    ∙ padded-grown c.args.words.now c.told-words)
