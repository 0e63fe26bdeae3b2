-- The event of a request, part by part.
use Rattle.std.proofs.Common.{◌≡◌, ℕ, Bool, false, if◌then◌else◌, List, length, Option, Some, None, Result, refl}
use Rattle.std.specs.Prelude.{◌&&◌}
use Rattle.std.specs.Result.{is_ok}
use Rattle.agc_plan.specs.declared.reply.Reply.{Reply}
use Rattle.agc_plan.specs.declared.request.Request.{Request}
use Rattle.agc_plan.specs.declared.request.Task.{Task}
use Rattle.agc_plan.specs.Steps.{is_tick}
use Rattle.agc_machine.specs.declared.answer.Refusal.{Refusal}
use Rattle.agc_machine.specs.Machines.{Machined, after, answer_of, begins_with, fired_of}
use Rattle.agc_run.specs.declared.listings.Listing.{Listing}
use Rattle.agc_run.specs.declared.origins.Origin.{Origin}
use Rattle.agc_run.specs.declared.origins.Since.{Since}
use Rattle.agc_run.specs.Events.{Watching, one_more_if, event_of, one_more, raised_at, scene_at, scene_now}
use Rattle.agc_run.specs.Origins.{left_by, listings_after, origins_after}
use Rattle.agc_run.specs.Scenes.{Scene}

pub event_is : (w : Watching) (asked : Request) (number time total raised fires : ℕ) (ticked begins : Bool) (answer : Result Reply Refusal) (fired : List Task) (scene : Scene) (era : Option Scene) (machine : Machined) (now : Since) (jobs : List Origin) (left tasks : List Listing)
    → tasks ≡ listings_after now left scene.waits → left ≡ left_by ticked fires w.tasks → fires ≡ length fired → jobs ≡ origins_after now w.jobs scene.seats → now ≡ record { request = number; restart = false }
    → era ≡ (if begins then Some (scene_now machine) else None) → machine ≡ after w.machine asked → begins ≡ begins_with answer
    → time ≡ one_more_if ticked w.time → total ≡ one_more_if ticked w.total → ticked ≡ (is_tick asked && is_ok answer)
    → answer ≡ answer_of w.machine asked → fired ≡ fired_of w.machine asked → raised ≡ raised_at w.machine asked → scene ≡ scene_at w.machine asked → number ≡ one_more w.asked
    → record { number = number; time = time; total = total; request = asked; answer = answer; fired = fired; raised = raised; scene = scene; era = era; jobs = jobs; tasks = tasks } ≡ event_of w asked
unfolding event_of
event_is w asked number time total raised fires ticked begins answer fired scene era machine now jobs left tasks tasks_is left_is fires_is jobs_is now_is era_is machine_is begins_is time_is total_is ticked_is answer_is fired_is raised_is scene_is number_is =
    rw (tasks_is, left_is, fires_is, jobs_is, now_is, era_is, machine_is, begins_is, time_is, total_is, ticked_is, answer_is, fired_is, raised_is, scene_is, number_is) refl
