-- Who holds which core set, as it is shown, and whom NEWJOB names.
use Rattle.std.specs.Prelude.{ℕ, nat_lt, if◌then◌else◌, List, map, Option, Some, None, option_map}
use Rattle.agc_plan.specs.Jobs.{Job, Jobs, Ready, best_from, job_in}
use Rattle.agc_exec.specs.HeldJob.{HeldJob}
use Rattle.agc_exec.specs.Image.{sets_of}
use Rattle.agc_exec.specs.declared.seats.Seat.{Seat}

-- a core set's job, without its bank and its work words
abbrev pub seen : HeldJob → Seat
seen r = record {
  number = r.number;
  at = r.at;
  priority = r.priority;
  asleep = r.asleep;
  area = r.area;
}

-- the job in each core set
unfoldable pub seats_in : List ℕ → List (Option Seat)
seats_in words = map (option_map seen) (sets_of words)

-- the best job, where it is strictly more urgent than this one, which runs
abbrev pub named_before : Option Ready → Option Job → Option ℕ
named_before None job = None
named_before (Some first) None = None
named_before (Some first) (Some job) =
    if nat_lt job.priority first.priority then Some first.number else None

abbrev pub named_by : Option ℕ → List (Option Job) → Option ℕ
named_by None slots = None
named_by (Some number) slots = named_before (best_from 1 slots) (job_in slots number)

-- whom NEWJOB names: the job that a change of job would let run in place of the one that runs
unfoldable pub named_of : Jobs → Option ℕ
named_of jobs = named_by jobs.running jobs.slots
