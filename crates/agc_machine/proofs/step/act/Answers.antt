use Rattle.std.proofs.Common.{refl, sym, subst, ◌∙◌}
use Rattle.agc_plan.specs.declared.reply.Reply.{Reply}
use Rattle.agc_plan.specs.declared.reply.Reply.TheVariants.{Phased, Restarted}
use Rattle.agc_plan.specs.declared.request.Request.{Request}
use Rattle.agc_plan.specs.declared.request.Request.TheVariants as request
use Rattle.agc_word.specs.Layout.{sets_in}
use Rattle.agc_plan.specs.Base.{fresh_base, with_phase}
use Rattle.agc_plan.specs.Jobs as plain
use Rattle.agc_plan.specs.Places.{placed_end, fronted}
use Rattle.agc_plan.specs.Plans.{planned_with}
use Rattle.agc_plan.specs.Seats.{seated_new}
use Rattle.agc_plan.specs.Steps.{with_jobs, with_listed}
use Rattle.agc_machine.specs.Stands.{Acts, Works, same_places}
use Rattle.agc_machine.proofs.Acting.{acts_work, acts_base, acts_ticked}
use Rattle.agc_machine.proofs.Alarms.{no_alarm}
use Rattle.agc_machine.proofs.Frames.{works_new, works_end, works_front, works_still, due_by_cores, due_by_phases}
use Rattle.agc_machine.proofs.step.act.Goals as goal

pub returns-in-Novac-clause-acts : goal.returns-in-Novac-clause-acts
returns-in-Novac-clause-acts g c =
    let plan = planned_with (g.P.Plans.written c.args.plan.now) (sets_in c.args.e.now) in
    let f = plain.novac c.in-Novac.priority c.in-Novac.entry in
    subst (λ (r : Request). Acts plan r c.args.e.now c.novac.result c.novac.new.e) (sym c.in-Novac.is)
    (acts_work plan (request.Novac c.in-Novac.priority c.in-Novac.entry) (λ work. with_jobs (f work.jobs) work) (λ work places. (seated_new (f work.jobs) places).places) c.args.e.now c.novac.result c.novac.new.e
    (works_new f _ c.args.e.now c.novac.new.e c.novac.result c.requires.ready.sound c.novac.ensures) (λ p. refl) (λ p places. refl))

pub returns-in-Novac-clause-none_due : goal.returns-in-Novac-clause-none_due
returns-in-Novac-clause-none_due g c = λ goes. due_by_cores c.args.e.now c.novac.new.e c.novac.ensures.others ∙ c.requires.ready.none_due

pub returns-in-Findvac-clause-acts : goal.returns-in-Findvac-clause-acts
returns-in-Findvac-clause-acts g c =
    let plan = planned_with (g.P.Plans.written c.args.plan.now) (sets_in c.args.e.now) in
    let f = plain.findvac c.in-Findvac.priority c.in-Findvac.entry in
    subst (λ (r : Request). Acts plan r c.args.e.now c.findvac.result c.findvac.new.e) (sym c.in-Findvac.is)
    (acts_work plan (request.Findvac c.in-Findvac.priority c.in-Findvac.entry) (λ work. with_jobs (f work.jobs) work) (λ work places. (seated_new (f work.jobs) places).places) c.args.e.now c.findvac.result c.findvac.new.e
    (works_new f _ c.args.e.now c.findvac.new.e c.findvac.result c.requires.ready.sound c.findvac.ensures) (λ p. refl) (λ p places. refl))

pub returns-in-Findvac-clause-none_due : goal.returns-in-Findvac-clause-none_due
returns-in-Findvac-clause-none_due g c = λ goes. due_by_cores c.args.e.now c.findvac.new.e c.findvac.ensures.others ∙ c.requires.ready.none_due

pub returns-in-EndOfJob-clause-acts : goal.returns-in-EndOfJob-clause-acts
returns-in-EndOfJob-clause-acts g c =
    let plan = planned_with (g.P.Plans.written c.args.plan.now) (sets_in c.args.e.now) in
    let f = plain.end_of_job in
    subst (λ (r : Request). Acts plan r c.args.e.now c.end_of_job.result c.end_of_job.new.e) (sym c.in-EndOfJob.is)
    (acts_work plan request.EndOfJob (λ work. with_jobs (f work.jobs) work) (λ work places. placed_end work.jobs.running (f work.jobs).jobs.running places) c.args.e.now c.end_of_job.result c.end_of_job.new.e
    (works_end f _ c.args.e.now c.end_of_job.new.e c.end_of_job.result c.requires.ready.sound c.end_of_job.ensures) (λ p. refl) (λ p places. refl))

pub returns-in-EndOfJob-clause-none_due : goal.returns-in-EndOfJob-clause-none_due
returns-in-EndOfJob-clause-none_due g c = λ goes. due_by_cores c.args.e.now c.end_of_job.new.e c.end_of_job.ensures.others ∙ c.requires.ready.none_due

pub returns-in-Sleep-clause-acts : goal.returns-in-Sleep-clause-acts
returns-in-Sleep-clause-acts g c =
    let plan = planned_with (g.P.Plans.written c.args.plan.now) (sets_in c.args.e.now) in
    let f = plain.sleep c.in-Sleep.at in
    subst (λ (r : Request). Acts plan r c.args.e.now c.job_sleep.result c.job_sleep.new.e) (sym c.in-Sleep.is)
    (acts_work plan (request.Sleep c.in-Sleep.at) (λ work. with_jobs (f work.jobs) work) (λ work places. fronted (f work.jobs).jobs.running places) c.args.e.now c.job_sleep.result c.job_sleep.new.e
    (works_front f _ c.args.e.now c.job_sleep.new.e c.job_sleep.result c.requires.ready.sound c.job_sleep.ensures) (λ p. refl) (λ p places. refl))

pub returns-in-Sleep-clause-none_due : goal.returns-in-Sleep-clause-none_due
returns-in-Sleep-clause-none_due g c = λ goes. due_by_cores c.args.e.now c.job_sleep.new.e c.job_sleep.ensures.others ∙ c.requires.ready.none_due

pub returns-in-Rouse-clause-acts : goal.returns-in-Rouse-clause-acts
returns-in-Rouse-clause-acts g c =
    let plan = planned_with (g.P.Plans.written c.args.plan.now) (sets_in c.args.e.now) in
    let f = plain.rouse c.in-Rouse.at in
    subst (λ (r : Request). Acts plan r c.args.e.now c.job_wake.result c.job_wake.new.e) (sym c.in-Rouse.is)
    (acts_work plan (request.Rouse c.in-Rouse.at) (λ work. with_jobs (f work.jobs) work) (λ work places. fronted (f work.jobs).jobs.running places) c.args.e.now c.job_wake.result c.job_wake.new.e
    (works_front f _ c.args.e.now c.job_wake.new.e c.job_wake.result c.requires.ready.sound c.job_wake.ensures) (λ p. refl) (λ p places. refl))

pub returns-in-Rouse-clause-none_due : goal.returns-in-Rouse-clause-none_due
returns-in-Rouse-clause-none_due g c = λ goes. due_by_cores c.args.e.now c.job_wake.new.e c.job_wake.ensures.others ∙ c.requires.ready.none_due

pub returns-in-Prio-clause-acts : goal.returns-in-Prio-clause-acts
returns-in-Prio-clause-acts g c =
    let plan = planned_with (g.P.Plans.written c.args.plan.now) (sets_in c.args.e.now) in
    let f = plain.prio c.in-Prio.priority in
    subst (λ (r : Request). Acts plan r c.args.e.now c.prio_change.result c.prio_change.new.e) (sym c.in-Prio.is)
    (acts_work plan (request.Prio c.in-Prio.priority) (λ work. with_jobs (f work.jobs) work) (λ work places. fronted (f work.jobs).jobs.running places) c.args.e.now c.prio_change.result c.prio_change.new.e
    (works_front f _ c.args.e.now c.prio_change.new.e c.prio_change.result c.requires.ready.sound c.prio_change.ensures) (λ p. refl) (λ p places. refl))

pub returns-in-Prio-clause-none_due : goal.returns-in-Prio-clause-none_due
returns-in-Prio-clause-none_due g c = λ goes. due_by_cores c.args.e.now c.prio_change.new.e c.prio_change.ensures.others ∙ c.requires.ready.none_due

pub returns-in-Change-clause-acts : goal.returns-in-Change-clause-acts
returns-in-Change-clause-acts g c =
    let plan = planned_with (g.P.Plans.written c.args.plan.now) (sets_in c.args.e.now) in
    let f = plain.change in
    subst (λ (r : Request). Acts plan r c.args.e.now c.change_job.result c.change_job.new.e) (sym c.in-Change.is)
    (acts_work plan request.Change (λ work. with_jobs (f work.jobs) work) (λ work places. fronted (f work.jobs).jobs.running places) c.args.e.now c.change_job.result c.change_job.new.e
    (works_front f _ c.args.e.now c.change_job.new.e c.change_job.result c.requires.ready.sound c.change_job.ensures) (λ p. refl) (λ p places. refl))

pub returns-in-Change-clause-none_due : goal.returns-in-Change-clause-none_due
returns-in-Change-clause-none_due g c = λ goes. due_by_cores c.args.e.now c.change_job.new.e c.change_job.ensures.others ∙ c.requires.ready.none_due

pub returns-in-Store-clause-acts : goal.returns-in-Store-clause-acts
returns-in-Store-clause-acts g c =
    let plan = planned_with (g.P.Plans.written c.args.plan.now) (sets_in c.args.e.now) in
    let f = plain.store c.in-Store.place c.in-Store.word in
    subst (λ (r : Request). Acts plan r c.args.e.now c.store.result c.store.new.e) (sym c.in-Store.is)
    (acts_work plan (request.Store c.in-Store.place c.in-Store.word) (λ work. with_jobs (f work.jobs) work) (λ work places. places) c.args.e.now c.store.result c.store.new.e
    (works_still f _ c.args.e.now c.store.new.e c.store.result c.requires.ready.sound c.store.ensures) (λ p. refl) (λ p places. refl))

pub returns-in-Store-clause-none_due : goal.returns-in-Store-clause-none_due
returns-in-Store-clause-none_due g c = λ goes. due_by_cores c.args.e.now c.store.new.e c.store.ensures.others ∙ c.requires.ready.none_due

pub returns-in-List-clause-acts : goal.returns-in-List-clause-acts
returns-in-List-clause-acts g c =
    let plan = planned_with (g.P.Plans.written c.args.plan.now) (sets_in c.args.e.now) in
    subst (λ (r : Request). Acts plan r c.args.e.now c.listing_reply.result c.list.new.e) (sym c.in-List.is)
    (acts_work plan (request.List c.in-List.delay c.in-List.task) (with_listed c.in-List.delay c.in-List.task) same_places c.args.e.now c.listing_reply.result c.list.new.e (subst (λ (r : Reply). Works (with_listed c.in-List.delay c.in-List.task) same_places c.args.e.now r c.list.new.e) (sym c.listing_reply.ensures) c.list.ensures.works) (λ p. refl) (λ p places. refl))

pub returns-in-SetPhase-clause-acts : goal.returns-in-SetPhase-clause-acts
returns-in-SetPhase-clause-acts g c =
    let plan = planned_with (g.P.Plans.written c.args.plan.now) (sets_in c.args.e.now) in
    subst (λ (r : Request). Acts plan r c.args.e.now Phased c.set_phase.new.e) (sym c.in-SetPhase.is)
    (acts_base plan (request.SetPhase c.in-SetPhase.group c.in-SetPhase.phase) (with_phase c.in-SetPhase.group c.in-SetPhase.phase) c.args.e.now Phased c.set_phase.new.e c.requires.ready.sound c.set_phase.ensures (λ p. refl) (λ p places. refl))

pub returns-in-SetPhase-clause-none_due : goal.returns-in-SetPhase-clause-none_due
returns-in-SetPhase-clause-none_due g c = λ goes. due_by_phases c.args.e.now c.set_phase.new.e c.set_phase.ensures.others ∙ c.requires.ready.none_due

pub returns-in-Fresh-clause-acts : goal.returns-in-Fresh-clause-acts
returns-in-Fresh-clause-acts g c =
    let plan = planned_with (g.P.Plans.written c.args.plan.now) (sets_in c.args.e.now) in
    subst (λ (r : Request). Acts plan r c.args.e.now Restarted c.clear.new.e) (sym c.in-Fresh.is)
    (acts_base plan request.Fresh (λ base. fresh_base) c.args.e.now Restarted c.clear.new.e c.requires.ready.sound c.clear.ensures (λ p. refl) (λ p places. refl))

pub returns-in-Tick-clause-acts : goal.returns-in-Tick-clause-acts
returns-in-Tick-clause-acts g c =
    acts_ticked (planned_with (g.P.Plans.written c.args.plan.now) (sets_in c.args.e.now)) c.args.request.now c.args.e.now c.tick.result c.alarm_in.result c.tick.new.e c.tick.ensures.works c.alarm_in.ensures c.in-Tick.is

pub returns-in-Tick-clause-fired : goal.returns-in-Tick-clause-fired
returns-in-Tick-clause-fired g c = λ plain places stands. rw c.in-Tick.is (c.tick.ensures.fired plain.work places stands.work)

pub returns-in-Tick-clause-none_due : goal.returns-in-Tick-clause-none_due
returns-in-Tick-clause-none_due g c = λ goes. c.tick.ensures.none_due (sym c.alarm_in.ensures ∙ no_alarm c.alarm_in.result goes)

pub returns-in-Novac-clause-fired : goal.returns-in-Novac-clause-fired
returns-in-Novac-clause-fired g c = λ plain places stands. rw c.in-Novac.is c.requires.none

pub returns-in-Findvac-clause-fired : goal.returns-in-Findvac-clause-fired
returns-in-Findvac-clause-fired g c = λ plain places stands. rw c.in-Findvac.is c.requires.none

pub returns-in-EndOfJob-clause-fired : goal.returns-in-EndOfJob-clause-fired
returns-in-EndOfJob-clause-fired g c = λ plain places stands. rw c.in-EndOfJob.is c.requires.none

pub returns-in-Sleep-clause-fired : goal.returns-in-Sleep-clause-fired
returns-in-Sleep-clause-fired g c = λ plain places stands. rw c.in-Sleep.is c.requires.none

pub returns-in-Rouse-clause-fired : goal.returns-in-Rouse-clause-fired
returns-in-Rouse-clause-fired g c = λ plain places stands. rw c.in-Rouse.is c.requires.none

pub returns-in-Prio-clause-fired : goal.returns-in-Prio-clause-fired
returns-in-Prio-clause-fired g c = λ plain places stands. rw c.in-Prio.is c.requires.none

pub returns-in-Change-clause-fired : goal.returns-in-Change-clause-fired
returns-in-Change-clause-fired g c = λ plain places stands. rw c.in-Change.is c.requires.none

pub returns-in-Store-clause-fired : goal.returns-in-Store-clause-fired
returns-in-Store-clause-fired g c = λ plain places stands. rw c.in-Store.is c.requires.none

pub returns-in-List-clause-fired : goal.returns-in-List-clause-fired
returns-in-List-clause-fired g c = λ plain places stands. rw c.in-List.is c.requires.none

pub returns-in-SetPhase-clause-fired : goal.returns-in-SetPhase-clause-fired
returns-in-SetPhase-clause-fired g c = λ plain places stands. rw c.in-SetPhase.is c.requires.none

pub returns-in-Restart-clause-fired : goal.returns-in-Restart-clause-fired
returns-in-Restart-clause-fired g c = λ plain places stands. rw c.in-Restart.is c.requires.none

pub returns-in-Fresh-clause-fired : goal.returns-in-Fresh-clause-fired
returns-in-Fresh-clause-fired g c = λ plain places stands. rw c.in-Fresh.is c.requires.none
