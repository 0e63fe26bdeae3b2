use Rattle.std.proofs.Common.{refl}
use Rattle.std.specs.Result.{is_ok}
use Rattle.agc_plan.specs.declared.reply.Alarm.TheVariants.{A1203}
use Rattle.agc_plan.specs.declared.reply.Reply.TheVariants.{Listed, Alarmed}
use Rattle.agc_machine.proofs.Frames.{works_listed}
use Rattle.agc_machine.proofs.tick.list.Goals as goal

pub returns-in-Ok-clause-works : goal.returns-in-Ok-clause-works
returns-in-Ok-clause-works c =
    works_listed c.args.delay c.args.task c.args.e.now c.list.new.e (is_ok c.list.result) Listed c.requires c.list.ensures (rw c.in-Ok.is refl)

pub returns-in-Err-clause-works : goal.returns-in-Err-clause-works
returns-in-Err-clause-works c =
    works_listed c.args.delay c.args.task c.args.e.now c.list.new.e (is_ok c.list.result) (Alarmed A1203) c.requires c.list.ensures (rw c.in-Err.is refl)
