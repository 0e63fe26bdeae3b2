-- The facts that one wants of time that passes, in the field's words.
use Rattle.std.specs.Prelude.{◌≡◌, ◌<◌, ℕ, ◌+◌, ◌-◌, ◌*◌, List, [], ◌∷◌, length, Option, Some, None}
use Rattle.std.specs.List.{count_by}
use Rattle.agc_plan.specs.Jobs.{Jobs}
use Rattle.agc_clock.specs.declared.asked.Asked.{Asked}
use Rattle.agc_clock.specs.declared.counting.JobCost.{JobCost}
use Rattle.agc_clock.specs.declared.timetable.Cost.{Cost}
use Rattle.agc_clock.specs.declared.timetable.Step.{Step}
use Rattle.agc_clock.specs.declared.timetable.Stolen.{Stolen}
use Rattle.agc_clock.specs.Counts.{Counts, begun, given_to, passed, worker_of}
use Rattle.agc_clock.specs.Instants.{Instant, Works, by_clock, is_own_tick}
use Rattle.agc_clock.specs.Runs.{Serving, Standing, lived}
use Rattle.agc_clock.specs.Timetables.{asked_then, needs, spared}

-- when a row of stolen time comes, after so many times
abbrev pub comes_at : Stolen → ℕ → ℕ
comes_at row times = row.from + times * row.every

-- how many ticks of its own a clock asks for
abbrev pub own_ticks : List Asked → ℕ
own_ticks asked = count_by is_own_tick asked

-- a hundredth, at which a job with a cost runs, or none does
abbrev pub works_for : Instant → Option JobCost → ℕ
works_for Works (Some worker) = 1
works_for instant worker = 0

abbrev pub works_for_nobody : Instant → Option JobCost → ℕ
works_for_nobody Works None = 1
works_for_nobody instant worker = 0

-- how many hundredths of these instants a job with a cost was given, and how many nobody was
abbrev pub hundredths_given : {S : Type 0} → Serving S → List Cost → Standing S → List Instant
    → ℕ
hundredths_given by costs at [] = 0
hundredths_given by costs at (instant ∷ instants) =
    works_for instant (worker_of costs (by.jobs at.state))
    + hundredths_given by costs (lived by costs at instant) instants

abbrev pub hundredths_left : {S : Type 0} → Serving S → List Cost → Standing S → List Instant
    → ℕ
hundredths_left by costs at [] = 0
hundredths_left by costs at (instant ∷ instants) =
    works_for_nobody instant (worker_of costs (by.jobs at.state))
    + hundredths_left by costs (lived by costs at instant) instants

-- how many steps a job goes through before it leaves
abbrev pub steps_in : List (Option Step) → ℕ
steps_in [] = 0
steps_in (None ∷ steps) = 0
steps_in (Some step ∷ steps) = 1 + steps_in steps

-- the need of a job that draws this lot
abbrev pub drawn : Cost → ℕ → ℕ
drawn cost lot = needs cost - spared cost lot

-- this job works, and was given nothing yet
pub record Begins (costs : List Cost) (jobs : Jobs) (worker : JobCost) (counts : Counts)
    : Type 0 where
  pub works : worker_of costs jobs ≡ Some worker
  pub counted : worker.number - 1 < length counts.given
  pub nothing : given_to worker.number counts ≡ 0

-- where a job is asked to end or to sleep by a hundredth, it was given with it, or spared, what it
-- needs, one more for each step, and no more
abbrev pub LeavesByItsCost : List Cost → Jobs → Counts → Type 0
LeavesByItsCost costs jobs counts = (worker : JobCost) → worker_of costs jobs ≡ Some worker
    → (passed costs jobs Works counts).asked ≡ Some (by_clock (asked_then worker.cost.then))
    → given_to worker.number (begun worker counts) + 1
    ≡ needs worker.cost + steps_in worker.cost.steps
