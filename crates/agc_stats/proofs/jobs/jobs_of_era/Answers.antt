use Rattle.std.proofs.Common.{◌≡◌, Bool, true, List, Option, Some, None, sym, ap, ◌∙◌}
use Rattle.std.specs.Prelude.{if◌then◌else◌}
use Rattle.agc_machine.specs.Machines.{begins_with}
use Rattle.agc_run.specs.Events.{scene_now}
use Rattle.agc_stats.specs.ObservedJobs.{states_in}
use Rattle.agc_stats.specs.declared.live_jobs.ObservedJob.{ObservedJob}
use Rattle.agc_stats.proofs.Occupancies.{seats_now}
use Rattle.agc_stats.proofs.jobs.jobs_of_era.Goals as goal

pub returns-then-begins : goal.returns-then-begins
returns-then-begins c =
    let jobs : List (Option ObservedJob) = states_in (scene_now c.args.machine.now).seats in
    let begun : begins_with c.args.answer.now ≡ true = ap begins_with c.in-Ok.is ∙ sym c.begins.ensures ∙ c.if-begins.true in
    ap (λ (l : List (Option ObservedJob)). Some l) (c.jobs_in.ensures ∙ ap states_in (seats_now c.args.machine.now c.erasable.result.now c.erasable.ensures))
    ∙ ap (λ (b : Bool). if b then Some jobs else None) (sym begun)
