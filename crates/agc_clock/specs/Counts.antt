-- The computing time that each job was given, the lots drawn, and what an instant asks for.
use Rattle.std.specs.Prelude.{ℕ, ◌+◌, ◌-◌, ◌==◌, ◌&&◌, nat_le, nat_lt, Bool, false, not}
use Rattle.std.specs.Prelude.{if◌then◌else◌, List}
use Rattle.std.specs.Prelude.{map, replicate, Option, Some, None, option_map, is_some}
use Rattle.std.specs.Prelude.{slice_index, slice_set}
use Rattle.std.specs.List.{range_with_len}
use Rattle.std.specs.Option.{option_and_then, option_map_or}
use Rattle.agc_plan.specs.Jobs.{Jobs, job_in}
use Rattle.agc_plan.specs.declared.request.Request.TheVariants.{Change}
use Rattle.agc_exec.specs.Seats.{named_of}
use Rattle.agc_clock.specs.declared.asked.Asked.{Asked}
use Rattle.agc_clock.specs.declared.counting.JobAt.{JobAt}
use Rattle.agc_clock.specs.declared.counting.JobCost.{JobCost}
use Rattle.agc_clock.specs.declared.timetable.Cost.{Cost}
use Rattle.agc_clock.specs.declared.timetable.Step.{Step}
use Rattle.agc_clock.specs.Instants.{Instant, Asks, Looks, Works, by_clock}
use Rattle.agc_clock.specs.Timetables.{asked_of, cost_at, needs, next_lot, spared, spread_of}
use Rattle.agc_clock.specs.Timetables.{step_at}

-- the counts of a clock: the hundredths that each job was given, and the lot that was drawn last
pub record Counts : Type 0 where
  pub given : List ℕ
  pub lot : ℕ

-- the hundredths that a job was given, by its number, from 1; and the counts with other ones
abbrev pub given_to : ℕ → Counts → ℕ
given_to number counts = slice_index counts.given (number - 1)

abbrev pub with_given : ℕ → ℕ → Counts → Counts
with_given number hundredths counts =
    record counts { given = slice_set counts.given (number - 1) hundredths }

-- nobody was given any, and lots are drawn from this seed on
abbrev pub none_given : ℕ → Counts
none_given seed = record { given = replicate 8 0; lot = seed }

-- the running job
abbrev pub runner_of : Jobs → Option JobAt
runner_of jobs = option_and_then
    (λ number. option_map (λ job. record { number = number; at = job.at })
    (job_in jobs.slots number))
    jobs.running

-- who is given computing time: the running job, if its address has a cost
abbrev pub worker_of : List Cost → Jobs → Option JobCost
worker_of costs jobs = option_and_then
    (λ runner. option_map (λ cost. record { number = runner.number; cost = cost })
    (cost_at costs runner.at))
    (runner_of jobs)

-- the request of an instant, if it has one, and the counts after it
pub record Passed : Type 0 where
  pub asked : Option Asked
  pub counts : Counts

-- a worker draws a lot where it begins, and its cost is by lot
abbrev pub draws : JobCost → Counts → Bool
draws worker counts =
    (given_to worker.number counts == 0) && nat_lt 0 (spread_of worker.cost)

-- then what it is spared counts as if it had been given
abbrev pub begun : JobCost → Counts → Counts
begun worker counts =
    let lot = next_lot counts.lot in
    if draws worker counts
    then with_given worker.number (spared worker.cost lot) (record counts { lot = lot })
    else counts

-- a job counts on at a step, and anew where it leaves
abbrev pub counted_on : Option Step → ℕ → ℕ
counted_on None got = 0
counted_on (Some step) got = got

-- a hundredth goes to a job that has begun: with the one that uses up its cost, it is asked for
-- its first step, with each further one for the next, and then to end or to sleep
abbrev pub worked_on : JobCost → Counts → Passed
worked_on worker counts =
    let got = given_to worker.number counts + 1 in
    let step = step_at worker.cost (got - needs worker.cost) in
    if nat_le (needs worker.cost) got
    then record {
      asked = Some (by_clock (asked_of step worker.cost.then));
      counts = with_given worker.number (counted_on step got) counts;
    }
    else record { asked = None; counts = with_given worker.number got counts }

-- a hundredth goes to a job with a cost
abbrev pub worked : Option JobCost → Counts → Passed
worked None counts = record { asked = None; counts = counts }
worked (Some worker) counts = worked_on worker (begun worker counts)

-- who runs looks at NEWJOB: where it names a set, a change of job is asked for
abbrev pub looked : Jobs → Option Asked
looked jobs = if is_some (named_of jobs) then Some (by_clock Change) else None

-- an instant, with these jobs
abbrev pub passed : List Cost → Jobs → Instant → Counts → Passed
passed costs jobs (Asks asked) counts = record { asked = Some asked; counts = counts }
passed costs jobs Looks counts = record { asked = looked jobs; counts = counts }
passed costs jobs Works counts = worked (worker_of costs jobs) counts

-- whether the job of this number lives and is awake
abbrev pub is_awake : Jobs → ℕ → Bool
is_awake jobs number = option_map_or (λ job. not job.asleep) (job_in jobs.slots number) false

-- after a request who is awake keeps what it was given, unless an era began; all others, those that
-- ended and those that sleep, begin anew
abbrev pub kept_by : (began : Bool) → Jobs → List ℕ → ℕ → ℕ
kept_by began jobs given number =
    if began then 0 else if is_awake jobs number then slice_index given (number - 1) else 0

abbrev pub kept : (began : Bool) → Jobs → Counts → Counts
kept began jobs counts =
    record counts { given = map (kept_by began jobs counts.given) (range_with_len 1 8) }
