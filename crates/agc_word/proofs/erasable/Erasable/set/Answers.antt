use Rattle.std.proofs.Common.{◌<◌, ◌∙◌, ap, length, slice_set}
use Rattle.std.proofs.lemmas.List.{length-set}
use Rattle.agc_word.specs.Profiles.{words_with}
use Rattle.agc_word.proofs.Padding.{words_with-set, padded-kept, within}
use Rattle.agc_word.proofs.erasable.Erasable.set.Goals as goal

pub invariant_of-self : goal.invariant_of-self
invariant_of-self c =
    let lt : c.args.place < length (words_with c.self.inside.sets c.self.inside.words) = within c.self.inside.sets c.self.inside.words c.args.self.now c.args.place c.self.invariant.0 c.self.view_is c.requires in
    (length-set c.self.inside.words c.args.place c.args.word ∙ c.self.invariant.0, padded-kept c.self.inside.sets c.self.inside.words c.args.place c.args.word c.self.invariant.0 lt c.self.invariant.1)

pub returns-clause-value : goal.returns-clause-value
returns-clause-value c =
    let lt : c.args.place < length (words_with c.self.inside.sets c.self.inside.words) = within c.self.inside.sets c.self.inside.words c.args.self.now c.args.place c.self.invariant.0 c.self.view_is c.requires in
    words_with-set c.self.inside.sets c.self.inside.words c.args.place c.args.word c.self.invariant.0 lt ∙ ap (λ l. slice_set l c.args.place c.args.word) c.self.view_is
