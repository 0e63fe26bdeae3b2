-- Entries of a plan, which begin again while a group is in a phase.
use Rattle.std.specs.Prelude.{ℕ, Option}
use Rattle.agc_plan.specs.declared.request.JobStart.{JobStart}
use Rattle.agc_plan.specs.declared.request.Task.{Task}

-- a group and its phase, the job and the task with its delay
pub record Begins : Type 0 where
  pub group : ℕ
  pub phase : ℕ
  pub job : Option JobStart
  pub task : Option (ℕ × Task)
