-- The statistics of the jobs of a run: its requests, with the time that passed before each, give
-- the snapshots.
use Rattle.std.specs.Prelude.{◌≡◌, ◌&&◌, Bool, false, not, List, [], ◌∷◌, ◌++◌, Some, None}
use Rattle.std.specs.Prelude.{replicate, map, option_map, is_some}
use Rattle.std.specs.Prelude.{if◌then◌else◌}
use Rattle.std.specs.List.{All, fold}
use Rattle.std.specs.List.Sorted.{IsNonDecreasing}
use Rattle.std.specs.Result.{is_ok}
use Rattle.agc_clock.specs.declared.elapsed.Elapsed.{Elapsed}
use Rattle.agc_clock.specs.Elapsing.{Elapses}
use Rattle.agc_machine.specs.Machines.{Machined, after, answer_of, begins_with, plain_of}
use Rattle.agc_plan.specs.declared.request.Request.{Request}
use Rattle.agc_plan.specs.Steps.{is_tick}
use Rattle.agc_session.specs.declared.source.PendingRequest.{PendingRequest}
use Rattle.agc_run.specs.Events.{scene_at, scene_now}
use Rattle.agc_run.specs.Runs.{Pending, Pulls, asks_after, elapsed_in}
use Rattle.agc_run.specs.Subjects.{IsOf, machine_of, timing_of}
use Rattle.agc_run.specs.declared.subject.Subject.{Subject}
use Rattle.agc_stats.specs.Eras.{all_used, used_in}
use Rattle.agc_stats.specs.Followed.{AreFollowed, begun, next_snapshot, noted_by, passed_by}
use Rattle.agc_stats.specs.ObservedJobs.{states_in}
use Rattle.agc_stats.specs.declared.job_statistics.JobStatistics.{JobStatistics}
use Rattle.agc_stats.specs.declared.live_jobs.LifeEnd.TheVariants.{Alive}
use Rattle.agc_stats.specs.declared.live_jobs.Snapshot.{Snapshot}

-- a request of a run, the machine that was asked for it, and the time that passed before it
pub record Step : Type 0 where
  pub machine : Machined
  pub request : Request
  pub elapsed : Elapsed

-- whether it is a tick that was served
abbrev pub is_passing : Step → Bool
is_passing step = is_tick step.request && is_ok (answer_of step.machine step.request)

-- the history of a run, after a request: the jobs as this left them, before an era begins with it,
-- and those of that era
abbrev pub noted : (timed : Bool) → List Snapshot → Step → List Snapshot
noted timed history step = noted_by
    (passed_by step.elapsed (not timed && is_passing step))
    (states_in (scene_at step.machine step.request).seats)
    (if begins_with (answer_of step.machine step.request)
    then Some (states_in (scene_now (after step.machine step.request)).seats) else None)
    history

-- the history of a run that goes on from one; at its end no job is seen any more
abbrev pub history_on : (timed : Bool) → List Snapshot → List Step → Elapsed → List Snapshot
history_on timed history steps rest =
    let before = fold (noted timed) history steps in
    next_snapshot (passed_by rest false) Alive (replicate 8 None) before ∷ before

-- these are the requests of a run, in order, each after the time that passed by its clock, and this
-- time passed after the last
abbrev pub AreSteps : Machined → Pending → List Step → Elapsed → Type 0
AreSteps m pending [] rest =
    (next : Pending) × Pulls m pending None next
    × (rest ≡ elapsed_in (plain_of m).work.jobs pending next)
    × Elapses pending.clock rest next.clock
AreSteps m pending (step ∷ steps) rest =
    (call : PendingRequest) × (next : Pending) × Pulls m pending (Some call) next
    × (step.machine ≡ m) × (step.request ≡ call.request)
    × (step.elapsed ≡ elapsed_in (plain_of m).work.jobs pending next)
    × Elapses pending.clock step.elapsed next.clock
    × AreSteps (after m call.request) (asks_after m next call) steps rest

-- what passed in each era: the steps are cut behind each with which an era begins
abbrev pub begins_era : Step → Bool
begins_era step = begins_with (answer_of step.machine step.request)

abbrev pub with_first : Elapsed → List (List Elapsed) → List (List Elapsed)
with_first elapsed [] = (elapsed ∷ []) ∷ []
with_first elapsed (era ∷ eras) = (elapsed ∷ era) ∷ eras

abbrev pub passed_by_era : List Step → (rest : Elapsed) → List (List Elapsed)
passed_by_era [] rest = (rest ∷ []) ∷ []
passed_by_era (step ∷ steps) rest = if begins_era step
    then (step.elapsed ∷ []) ∷ passed_by_era steps rest
    else with_first step.elapsed (passed_by_era steps rest)

-- these are the statistics of the jobs of a run that goes on from a history, and of how the time of
-- its eras was used
abbrev pub AreOfRun : (timed : Bool) → List Snapshot → Machined → Pending → JobStatistics → Type 0
AreOfRun timed history m pending s =
    (steps : List Step) × (rest : Elapsed) × AreSteps m pending steps rest
    × AreFollowed (history_on timed history steps rest) s
    × (map used_in s.eras.items ≡ map all_used (passed_by_era steps rest))

-- these are the statistics of the jobs of a bench or a scenario, with the response times in order
pub record AreJobsOf (subject : Subject) (s : JobStatistics) : Type 0 where
  pub timing_is : option_map (λ t. t.now) s.timing ≡ timing_of subject
  pub sorted : All (λ row. IsNonDecreasing row.responses.items) s.rows.items
  pub pending : Pending
  pub its : IsOf subject pending
  pub are : AreOfRun (is_some (timing_of subject))
      (begun (states_in (scene_now (machine_of subject)).seats) []) (machine_of subject) pending s

-- for the proofs: the first era is this longer
abbrev pub joined : List Elapsed → List (List Elapsed) → List (List Elapsed)
joined present [] = present ∷ []
joined present (era ∷ eras) = (present ++ era) ∷ eras

-- for the proofs: the same, where the run has come so far
pub record AreSoFar (timed : Bool) (history : List Snapshot) (m : Machined) (pending : Pending)
    (s : JobStatistics) (now : Machined) (left : Pending) : Type 0 where
  pub steps : List Step
  pub followed : AreFollowed (fold (noted timed) history steps) s
  pub over : List (List Elapsed)
  pub present : List Elapsed
  pub eras_are : map used_in s.eras.items ≡ map all_used over
  pub era_is : used_in s.era ≡ all_used present
  pub cut : (more : List Step) (rest : Elapsed)
      → over ++ joined present (passed_by_era more rest) ≡ passed_by_era (steps ++ more) rest
  pub leads : (more : List Step) (rest : Elapsed) → AreSteps now left more rest
      → AreSteps m pending (steps ++ more) rest
