use Rattle.std.proofs.Common.{◌≡◌, ap, ◌∙◌, subst, refl, Bool, false, if◌then◌else◌, Some, None}
use Rattle.agc_machine.specs.Machines.{Machined, starts_over}
use Rattle.agc_run.specs.Events.{Watching, event_of, scene_now}
use Rattle.agc_run.specs.Runs.{WatchingRun}
use Rattle.agc_run.proofs.Eventful.{event_is}
use Rattle.agc_run.proofs.observed_run.ObservedRun.event.Goals as goal

pub returns-clause-event : goal.returns-clause-event
returns-clause-event c =
    let asked = c.args.asked.now.request in
    let w : Watching = record { machine = c.self.inside.run.machine; asked = c.self.inside.asked; time = c.self.inside.time; total = c.self.inside.total; jobs = c.self.inside.jobs; tasks = c.self.inside.tasks } in
    subst (λ (x : WatchingRun). record { number = c.saturating_add-number.result; time = c.one_more_if.result; total = c.one_more_if-2.result; request = asked; answer = c.ask-answer.result; fired = c.copy_of-fired.result; raised = c.raised.result; scene = c.scene_shown-scene.result; era = c.scene_if.result; jobs = c.origins_after-jobs.result; tasks = c.listings_after-tasks.result } ≡ event_of x.watching asked) c.self.view_is
    (event_is w asked c.saturating_add-number.result c.one_more_if.result c.one_more_if-2.result c.raised.result c.len.result c.is_ticked-ticked.result c.begins_with.result c.ask-answer.result c.copy_of-fired.result c.scene_shown-scene.result c.scene_if.result c.machine-2.result.now (record { request = c.saturating_add-number.result; restart = false }) c.origins_after-jobs.result c.left_by.result c.listings_after-tasks.result
    c.listings_after-tasks.ensures c.left_by.ensures c.len.ensures.value c.origins_after-jobs.ensures refl
    c.scene_if.ensures (c.machine-2.ensures ∙ c.ask-answer.ensures.machine) c.begins_with.ensures.machine
    c.one_more_if.ensures c.one_more_if-2.ensures c.is_ticked-ticked.ensures
    c.ask-answer.ensures.answer (c.copy_of-fired.ensures ∙ c.tasks_fired.ensures ∙ c.ask-answer.ensures.fired)
    (c.raised.ensures ∙ c.ask-answer.ensures.raised)
    (c.scene_shown-scene.ensures w.machine asked
    (c.scene_if-before.ensures
    ∙ ap (λ (b : Bool). if b then Some (scene_now c.machine.result.now) else None) c.starts_over.ensures
    ∙ ap (λ (m : Machined). if starts_over asked then Some (scene_now m) else None) c.machine.ensures) (record {
      now_is = c.ask-answer.ensures.machine;
      answer_is = c.ask-answer.ensures.answer;
      kept = c.ask-answer.ensures.begun;
    }))
    c.saturating_add-number.ensures)
