use Rattle.std.proofs.Common.{◌≡◌, [], ap, ◌∙◌}
use Rattle.agc_machine.specs.Machines.{Machined}
use Rattle.agc_run.specs.Events.{scene_now}
use Rattle.agc_run.specs.Subjects.{machine_of}
use Rattle.agc_stats.specs.Followed.{begun}
use Rattle.agc_stats.specs.ObservedJobs.{states_in}
use Rattle.agc_stats.proofs.JobRuns.{of_subject}
use Rattle.agc_stats.proofs.Occupancies.{seats_now}
use Rattle.agc_stats.proofs.jobs.job_statistics_of.Goals as goal

pub returns : goal.returns
returns c =
    let run = c.in_ok-run.run' in
    let jobs : c.jobs_in-jobs.result ≡ states_in (scene_now (machine_of c.args.subject)).seats =
    c.jobs_in-jobs.ensures
    ∙ ap states_in (seats_now c.machine.result.now c.erasable.result.now c.erasable.ensures)
    ∙ ap (λ (x : Machined). states_in (scene_now x).seats) (c.machine.ensures ∙ c.in_ok-run.ensures.machine) in
    of_subject c.args.subject run.machine run.pending c.jobs_in-jobs.result c.timing.result c.in_ok-job_statistics.job_statistics c.jobs_to_end.new.job_statistics c.sort.new.self
    c.in_ok-run.ensures.machine c.in_ok-run.ensures.pending c.timing.ensures c.in_ok-job_statistics.ensures.timing c.jobs_to_end.ensures.timing c.sort.ensures.timing jobs
    (c.in_ok-jobs_to_end.ensures.followed (begun c.jobs_in-jobs.result []) c.in_ok-job_statistics.ensures.followed c.in_ok-job_statistics.ensures.eras.0 c.in_ok-job_statistics.ensures.eras.1)
    c.in_ok-sort.ensures.followed c.sort.ensures.eras c.in_ok-sort.ensures.sorted
