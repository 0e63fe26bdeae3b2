use Rattle.std.proofs.Common.{◌∙◌, sym, rules}
use Rattle.agc_exec.proofs.Judging.{set_sound, set_apart, lawful_sets}
use Rattle.agc_exec.proofs.lawful.has_lawful_sets.Goals as goal

pub returns-then-not-are_judged-clause-no : goal.returns-then-not-are_judged-clause-no
returns-then-not-are_judged-clause-no c set =
    sym (search rules) ∙ c.are_judged.ensures.no (set_sound c.args.e.now c.requires.sized set) (set_apart c.args.e.now set)

pub returns-clause-yes : goal.returns-clause-yes
returns-clause-yes c e =
    lawful_sets c.args.e.now c.requires.sized (c.are_judged.ensures.sound (search rules)) (c.are_judged.ensures.apart (search rules)) (c.is_fronted.ensures.yes e)
