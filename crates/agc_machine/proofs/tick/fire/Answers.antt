use Rattle.std.proofs.Common.{[], List, Some, None, arith, refl, sym, ◌∙◌, subst}
use Rattle.std.proofs.lemmas.List.{length-append}
use Rattle.agc_plan.specs.declared.request.Task.{Task}
use Rattle.agc_plan.specs.Steps.{fire_all}
use Rattle.agc_machine.specs.Stands.{seated_in}
use Rattle.agc_machine.proofs.Fires.{GoesOn, Ends, begins_firing, onward, stopped, finished, fires_by}
use Rattle.agc_machine.proofs.Frames.{sound_by_waits, base_by_waits, none_counted}
use Rattle.agc_machine.proofs.tick.fire.Goals as goal

pub loop-e-init : goal.loop-e-init
loop-e-init g c = record {
  sound = c.requires.sound;
  same_length = refl;
  same_base = refl;
  goes_on = λ work places stands.
      subst (λ (x : List Task). GoesOn (g.P.Plans.written c.args.plan.now).rows c.args.e.now x (seated_in work places) (fire_all (g.P.Plans.written c.args.plan.now).rows work [] [])) (sym c.requires.none)
      (begins_firing (g.P.Plans.written c.args.plan.now).rows c.args.e.now work places stands);
  few = rw c.requires.none (let h = c.requires.few in omega arith);
}

pub perform_all-requires : goal.perform_all-requires
perform_all-requires g c =
    sound_by_waits c.loop-e.e c.dispatch-task.new.e c.dispatch-task.ensures.others c.loop-e.invariant.sound c.dispatch-task.ensures.lawful (c.dispatch-task.ensures.tidy c.loop-e.invariant.sound.tidy_waits)

pub loop-e-preserved : goal.loop-e-preserved
loop-e-preserved g c = record {
  sound = c.perform_all.ensures.changes.sound;
  same_length = c.perform_all.ensures.changes.same_length ∙ c.dispatch-task.ensures.others.same_length ∙ c.loop-e.invariant.same_length;
  same_base = c.perform_all.ensures.changes.same_base ∙ base_by_waits c.loop-e.e c.dispatch-task.new.e c.dispatch-task.ensures.others ∙ c.loop-e.invariant.same_base;
  goes_on = λ work places stands.
      subst (λ (x : List Task). GoesOn (g.P.Plans.written c.args.plan.now).rows c.perform_all.new.e x (seated_in work places) (fire_all (g.P.Plans.written c.args.plan.now).rows work [] [])) (sym c.push.ensures)
      (onward (g.P.Plans.written c.args.plan.now).rows (seated_in work places) (fire_all (g.P.Plans.written c.args.plan.now).rows work [] []) c.loop-e.fired c.dispatch-task.result c.actions.result.now c.loop-e.e c.dispatch-task.new.e c.perform_all.new.e
      (c.loop-e.invariant.goes_on work places stands) c.dispatch-task.ensures c.actions.ensures (rw c.in-None.is at c.perform_all.ensures));
  few = rw c.push.ensures (rw length-append (let few = c.loop-e.invariant.few in let a = c.dispatch-task.ensures.fewer_due in let b = c.perform_all.ensures.same_due in omega arith));
}

pub returns-in-Some : goal.returns-in-Some
returns-in-Some g c =
    fires_by (g.P.Plans.written c.args.plan.now).rows c.args.e.now c.push.new.self (Some c.in-Some.raised.alarm) c.in-Some.raised.number c.perform_all.new.e c.perform_all.ensures.changes.sound
    (c.perform_all.ensures.changes.same_length ∙ c.dispatch-task.ensures.others.same_length ∙ c.loop-e.invariant.same_length)
    (c.perform_all.ensures.changes.same_base ∙ base_by_waits c.loop-e.e c.dispatch-task.new.e c.dispatch-task.ensures.others ∙ c.loop-e.invariant.same_base)
    (λ empty. absurd (cc))
    (λ work places stands.
    subst (λ (x : List Task). Ends c.perform_all.new.e x (Some c.in-Some.raised.alarm) c.in-Some.raised.number (fire_all (g.P.Plans.written c.args.plan.now).rows work [] []) (seated_in work places)) (sym c.push.ensures)
    (stopped (g.P.Plans.written c.args.plan.now).rows (seated_in work places) (fire_all (g.P.Plans.written c.args.plan.now).rows work [] []) c.loop-e.fired c.dispatch-task.result c.actions.result.now c.loop-e.e c.dispatch-task.new.e c.perform_all.new.e c.in-Some.raised.alarm c.in-Some.raised.number
    (c.loop-e.invariant.goes_on work places stands) c.dispatch-task.ensures c.actions.ensures (rw c.in-Some.is at c.perform_all.ensures)))

pub returns : goal.returns
returns g c =
    let none_due = none_counted c.loop-e.e c.loop-e.invariant.sound.waits (sym c.due.ensures.value ∙ c.loop-e-test.false) in
    fires_by (g.P.Plans.written c.args.plan.now).rows c.args.e.now c.loop-e.fired None 0 c.loop-e.e c.loop-e.invariant.sound c.loop-e.invariant.same_length c.loop-e.invariant.same_base (λ empty. none_due)
    (λ work places stands. finished (g.P.Plans.written c.args.plan.now).rows (seated_in work places) (fire_all (g.P.Plans.written c.args.plan.now).rows work [] []) c.loop-e.fired c.loop-e.e (c.loop-e.invariant.goes_on work places stands) none_due)
