use Rattle.std.proofs.Common.{◌≡◌, ◌<◌, true, length, get_or, sym, ◌∙◌, arith}
use Rattle.std.proofs.lemmas.Grind.{common_steps}
use Rattle.agc_plan.specs.Plans.{same_task}
use Rattle.agc_plan.proofs.Rows.{row_at}
use Rattle.agc_plan.proofs.index.guessed.Goals as goal

pub returns-then-eq : goal.returns-then-eq
returns-then-eq c =
    let within : c.match-get.guess < length c.args.rows.now = grind (arith, common_steps) in
    let same : same_task (get_or c.args.rows.now c.match-get.guess c.index-rows-guess.result).0 c.args.task.now ≡ true =
    sym c.eq.ensures ∙ c.if-eq.true in
    row_at c.args.rows.now c.match-get.guess c.index-rows-guess.result c.index-rows-guess-then-eq.result c.args.task.now c.requires within same
