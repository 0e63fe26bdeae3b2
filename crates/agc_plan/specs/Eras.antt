-- The beginning of an era: for each group in order the plan's job is established, and then its task
-- is listed.
use Rattle.std.specs.Prelude.{ℕ, ◌+◌, ◌==◌, if◌then◌else◌, List, [], ◌∷◌, ◌++◌, Option, None}
use Rattle.std.specs.Prelude.{option_map}
use Rattle.std.specs.Option.{option_map_or, option_to_list}
use Rattle.agc_plan.specs.declared.request.Action.{Action}
use Rattle.agc_plan.specs.declared.request.Action.TheVariants as action
use Rattle.agc_plan.specs.declared.request.JobStart.{JobStart}
use Rattle.agc_plan.specs.declared.request.JobStart.TheVariants.{Novac, Findvac}
use Rattle.agc_plan.specs.Jobs.{Jobs, no_jobs}
use Rattle.agc_plan.specs.Tasks.{Agenda}
use Rattle.agc_plan.specs.Begins.{Begins}
use Rattle.agc_plan.specs.Plans.{entry_at}

-- the part of a state that a restart throws away: the jobs, and the tasks with the time
pub record Work : Type 0 where
  pub jobs : Jobs
  pub agenda : Agenda

-- this many core sets without jobs, no tasks, and time 0
abbrev pub no_work : ℕ → Work
no_work sets = record { jobs = no_jobs sets; agenda = record { tasks = []; time = 0 } }

-- the entry of a group that has a phase other than 0
abbrev pub active : List Begins → ℕ → ℕ → Option Begins
active entries group phase = if phase == 0 then None else entry_at entries group phase

-- the job of a phase is established
abbrev pub start_of : JobStart → Action
start_of (Novac priority entry) = action.Novac priority entry
start_of (Findvac priority entry) = action.Findvac priority entry

-- the actions of an entry: to establish its job, and then to list its task, if it has them
abbrev pub actions_of : Begins → List Action
actions_of e =
    option_to_list (option_map start_of e.job)
    ++ option_to_list (option_map (λ listing. action.List listing.0 listing.1) e.task)

-- the actions of the groups from this one on, in order, with these phases
abbrev pub actions_from : List Begins → ℕ → List ℕ → List Action
actions_from entries group [] = []
actions_from entries group (phase ∷ phases) =
    option_map_or actions_of (active entries group phase) []
    ++ actions_from entries (group + 1) phases
