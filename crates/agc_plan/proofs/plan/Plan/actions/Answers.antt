use Rattle.std.proofs.Common.{◌≡◌, ◌<◌, ◌+◌, ◌-◌, length, get_or, sym, ap, ◌∙◌, arith}
use Rattle.std.proofs.lemmas.Grind.{common_steps}
use Rattle.agc_plan.specs.Plans.{actions_in}
use Rattle.agc_plan.proofs.Rows.{row_of, no_row}
use Rattle.agc_plan.proofs.plan.Plan.actions.Goals as goal

pub index-requires : goal.index-requires
index-requires c =
    let found = row_of 0 c.self.inside.rows.items c.args.task.now c.in-Some-number_of.number (sym (c.self.invariant.1 c.args.task.now) ∙ sym c.number_of.ensures ∙ c.in-Some-number_of.is) in
    let within : c.in-Some-number_of.number < 0 + length c.self.inside.rows.items = found.within in
    grind (arith, common_steps)

pub returns-in-None-number_of : goal.returns-in-None-number_of
returns-in-None-number_of c =
    no_row 0 c.self.inside.rows.items c.args.task.now (sym (c.self.invariant.1 c.args.task.now) ∙ sym c.number_of.ensures ∙ c.in-None-number_of.is)
    ∙ ap (λ p. actions_in p.rows c.args.task.now) c.self.view_is

pub returns-in-Some-number_of : goal.returns-in-Some-number_of
returns-in-Some-number_of c =
    let found = row_of 0 c.self.inside.rows.items c.args.task.now c.in-Some-number_of.number (sym (c.self.invariant.1 c.args.task.now) ∙ sym c.number_of.ensures ∙ c.in-Some-number_of.is) in
    let whole : c.in-Some-number_of.number ≡ c.in-Some-number_of.number - 0 = omega arith in
    c.as_slice-in-Some-number_of.ensures.value ∙ ap (λ row. row.1) c.index.ensures
    ∙ ap (λ k. (get_or c.self.inside.rows.items k c.index.result.now).1) whole ∙ found.actions c.index.result.now
    ∙ ap (λ p. actions_in p.rows c.args.task.now) c.self.view_is

pub returns-in-Some : goal.returns-in-Some
returns-in-Some c = c.as_slice-in-Some.ensures.value ∙ c.in-Some.ensures ∙ ap (λ rows. actions_in rows c.args.task.now) c.as_slice.ensures.value ∙ ap (λ p. actions_in p.rows c.args.task.now) c.self.view_is
