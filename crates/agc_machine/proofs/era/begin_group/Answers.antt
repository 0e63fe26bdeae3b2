use Rattle.std.proofs.Common.{Option, sym, subst}
use Rattle.agc_plan.specs.Begins.{Begins}
use Rattle.agc_machine.specs.Stands.{Changes, with_job, with_task, places_with_job, same_places, places_group}
use Rattle.agc_plan.specs.Groups.{group_begun}
use Rattle.agc_machine.proofs.Frames.{changes_twice}
use Rattle.agc_machine.proofs.era.begin_group.Goals as goal

pub returns-in-Some-clause-changes : goal.returns-in-Some-clause-changes
returns-in-Some-clause-changes c =
    let job = rw c.job.ensures at c.begin_job.ensures.changes in
    let task = rw c.task.ensures at c.begin_task.ensures.changes in
    subst (λ (e : Option Begins). Changes (group_begun e) (places_group e) c.args.e.now c.begin_task.new.e) (sym c.in-Some.is)
    (changes_twice (with_job c.in-Some.entry.job) (with_task c.in-Some.entry.task) (places_with_job c.in-Some.entry.job) same_places c.args.e.now c.begin_job.new.e c.begin_task.new.e job task)
