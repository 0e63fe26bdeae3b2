use Rattle.std.proofs.Common.{◌∙◌}
use Rattle.agc_run.proofs.Showing.{shown_before, shown_left}
use Rattle.agc_run.proofs.observed_run.scene_shown.Goals as goal

pub returns-in-Some : goal.returns-in-Some
returns-in-Some c = λ m asked kept is. shown_before m asked c.args.before c.in-Some.scene c.in-Some.is kept

pub returns-in-None : goal.returns-in-None
returns-in-None c = λ m asked kept is.
    c.scene_of.ensures ∙ shown_left m asked c.args.before c.args.run.now.machine c.args.answer.now c.args.run.now.snapshot c.words_left.result.now c.in-None.is kept is c.words_left.ensures.begun c.words_left.ensures.goes_on
