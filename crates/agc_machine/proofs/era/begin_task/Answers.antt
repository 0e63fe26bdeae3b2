use Rattle.std.proofs.Common.{ℕ, Option, sym, subst}
use Rattle.agc_plan.specs.declared.request.Task.{Task}
use Rattle.agc_machine.specs.Stands.{Changes, with_task, same_places}
use Rattle.agc_machine.proofs.era.begin_task.Goals as goal

pub returns-in-Some-clause-changes : goal.returns-in-Some-clause-changes
returns-in-Some-clause-changes c =
    subst (λ (t : Option (ℕ × Task)). Changes (with_task t) same_places c.args.e.now c.list.new.e) (sym c.in-Some.is)
    c.list.ensures.works.changes
