use Rattle.std.proofs.Common.{sym, ◌∙◌}
use Rattle.agc_plan.proofs.Quiet.{quiet}
use Rattle.libagc.specs.Plans.{plan_from_c}
use Rattle.libagc.proofs.Finding.{no_fault}
use Rattle.libagc.proofs.lacking.plan_lacks.Goals as goal

pub returns-else-all_want-clause-quiet : goal.returns-else-all_want-clause-quiet
returns-else-all_want-clause-quiet c =
    let plan = plan_from_c c.args.rows.now c.args.entries.now in
    quiet plan (no_fault plan.rows plan.entries (sym c.task_twice.ensures ∙ c.if-task_twice.false) (sym c.phase_twice.ensures ∙ c.if-phase_twice.false) (sym c.all_want.ensures ∙ c.if-all_want.false))
