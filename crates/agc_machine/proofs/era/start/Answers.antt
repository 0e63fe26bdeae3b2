use Rattle.std.proofs.Common.{Some, sym, subst}
use Rattle.agc_plan.specs.declared.request.JobStart.{JobStart}
use Rattle.agc_plan.specs.Jobs.{novac, findvac}
use Rattle.agc_machine.specs.Stands.{Changes, with_job, places_with_job}
use Rattle.agc_machine.proofs.Frames.{works_new, due_by_cores}
use Rattle.agc_machine.proofs.era.start.Goals as goal

pub returns-in-Novac-clause-changes : goal.returns-in-Novac-clause-changes
returns-in-Novac-clause-changes c =
    subst (λ (j : JobStart). Changes (with_job (Some j)) (places_with_job (Some j)) c.args.e.now c.novac.new.e) (sym c.in-Novac.is)
    (works_new (novac c.in-Novac.priority c.in-Novac.entry) _ c.args.e.now c.novac.new.e c.novac.result c.requires c.novac.ensures).changes

pub returns-in-Novac-clause-due : goal.returns-in-Novac-clause-due
returns-in-Novac-clause-due c = due_by_cores c.args.e.now c.novac.new.e c.novac.ensures.others

pub returns-in-Findvac-clause-changes : goal.returns-in-Findvac-clause-changes
returns-in-Findvac-clause-changes c =
    subst (λ (j : JobStart). Changes (with_job (Some j)) (places_with_job (Some j)) c.args.e.now c.findvac.new.e) (sym c.in-Findvac.is)
    (works_new (findvac c.in-Findvac.priority c.in-Findvac.entry) _ c.args.e.now c.findvac.new.e c.findvac.result c.requires c.findvac.ensures).changes

pub returns-in-Findvac-clause-due : goal.returns-in-Findvac-clause-due
returns-in-Findvac-clause-due c = due_by_cores c.args.e.now c.findvac.new.e c.findvac.ensures.others
