use Rattle.std.proofs.Common.{refl, sym, subst}
use Rattle.agc_plan.specs.declared.request.Action.{Action}
use Rattle.agc_plan.specs.declared.request.Action.TheVariants as action
use Rattle.agc_plan.specs.Jobs as plain
use Rattle.agc_plan.specs.Places.{fronted}
use Rattle.agc_plan.specs.Seats.{seated_new}
use Rattle.agc_plan.specs.Steps.{with_jobs, with_listed}
use Rattle.agc_machine.specs.Stands.{Performs, same_places, listing_told}
use Rattle.agc_machine.proofs.Acting.{performs_work}
use Rattle.agc_machine.proofs.Alarms.{listing_alarm}
use Rattle.agc_machine.proofs.Frames.{works_new, works_front, due_by_cores}
use Rattle.agc_machine.proofs.tick.perform.Goals as goal

pub returns-in-Novac : goal.returns-in-Novac
returns-in-Novac c =
    let f = plain.novac c.in-Novac.priority c.in-Novac.entry in
    subst (λ (a : Action). Performs a c.args.e.now c.alarm.result c.novac.new.e) (sym c.in-Novac.is)
    (performs_work (action.Novac c.in-Novac.priority c.in-Novac.entry) (λ work. with_jobs (f work.jobs) work) (λ work places. (seated_new (f work.jobs) places).places) c.args.e.now c.novac.result c.alarm.result c.novac.new.e
    (works_new f _ c.args.e.now c.novac.new.e c.novac.result c.requires c.novac.ensures)
    (due_by_cores c.args.e.now c.novac.new.e c.novac.ensures.others) c.alarm.ensures (λ work. refl) (λ work places. refl))

pub returns-in-Findvac : goal.returns-in-Findvac
returns-in-Findvac c =
    let f = plain.findvac c.in-Findvac.priority c.in-Findvac.entry in
    subst (λ (a : Action). Performs a c.args.e.now c.alarm-in-Findvac.result c.findvac.new.e) (sym c.in-Findvac.is)
    (performs_work (action.Findvac c.in-Findvac.priority c.in-Findvac.entry) (λ work. with_jobs (f work.jobs) work) (λ work places. (seated_new (f work.jobs) places).places) c.args.e.now c.findvac.result c.alarm-in-Findvac.result c.findvac.new.e
    (works_new f _ c.args.e.now c.findvac.new.e c.findvac.result c.requires c.findvac.ensures)
    (due_by_cores c.args.e.now c.findvac.new.e c.findvac.ensures.others) c.alarm-in-Findvac.ensures (λ work. refl) (λ work places. refl))

pub returns-in-Rouse : goal.returns-in-Rouse
returns-in-Rouse c =
    let f = plain.rouse c.in-Rouse.at in
    subst (λ (a : Action). Performs a c.args.e.now c.alarm-in-Rouse.result c.job_wake.new.e) (sym c.in-Rouse.is)
    (performs_work (action.Rouse c.in-Rouse.at) (λ work. with_jobs (f work.jobs) work) (λ work places. fronted (f work.jobs).jobs.running places) c.args.e.now c.job_wake.result c.alarm-in-Rouse.result c.job_wake.new.e
    (works_front f _ c.args.e.now c.job_wake.new.e c.job_wake.result c.requires c.job_wake.ensures)
    (due_by_cores c.args.e.now c.job_wake.new.e c.job_wake.ensures.others) c.alarm-in-Rouse.ensures (λ work. refl) (λ work places. refl))

pub returns-in-List : goal.returns-in-List
returns-in-List c =
    subst (λ (a : Action). Performs a c.args.e.now c.list.result c.list.new.e) (sym c.in-List.is)
    (performs_work (action.List c.in-List.delay c.in-List.task) (with_listed c.in-List.delay c.in-List.task) same_places c.args.e.now (listing_told c.list.result) c.list.result c.list.new.e c.list.ensures.works c.list.ensures.due (listing_alarm c.list.result) (λ work. refl) (λ work places. refl))
