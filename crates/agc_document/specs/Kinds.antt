-- The job and the task that a request asks for, and names.
use Rattle.std.specs.Prelude.{ℕ, List, Bool, nat_lt, not, ◌==◌, ◌&&◌, Option, Some, None}
use Rattle.std.specs.List.{list_all}
use Rattle.agc_plan.specs.declared.request.Task.{Task}
use Rattle.agc_plan.specs.declared.request.Request.{Request}
use Rattle.agc_plan.specs.declared.request.Request.TheVariants.{Novac, Findvac, List as ListTask}
use Rattle.agc_plan.specs.declared.request.Request.TheVariants.{EndOfJob, Sleep}
use Rattle.agc_plan.specs.declared.request.JobStart.{JobStart}
use Rattle.agc_plan.specs.declared.request.JobStart.TheVariants.{Novac as WithoutArea}
use Rattle.agc_plan.specs.declared.request.JobStart.TheVariants.{Findvac as WithArea}

-- the job that a request establishes, if it does
abbrev pub job_of : Request → Option JobStart
job_of (Novac priority entry) = Some (WithoutArea priority entry)
job_of (Findvac priority entry) = Some (WithArea priority entry)
job_of _ = None

-- the task that a request lists, and its delay, if it does
abbrev pub timed_of : Request → Option (ℕ × Task)
timed_of (ListTask delay task) = Some (delay, task)
timed_of _ = None

-- the request, if a job leaves by it: it ends, or falls asleep
abbrev pub leaving_of : Request → Option Request
leaving_of EndOfJob = Some EndOfJob
leaving_of (Sleep at) = Some (Sleep at)
leaving_of _ = None

-- whether a text is a line that can be shown: no byte is that of a control character
abbrev pub is_name : List ℕ → Bool
is_name text = list_all (λ c. not (nat_lt c 32) && not (c == 127)) text
