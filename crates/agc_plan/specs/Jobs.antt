-- The plain list of jobs, without core sets: what each request does to it and answers.
use Rattle.std.specs.Prelude.{ℕ, zero, suc, ◌+◌, ◌-◌, ◌==◌, ◌&&◌, nat_lt, Bool, true, false}
use Rattle.std.specs.Prelude.{if◌then◌else◌, List, [], ◌∷◌, Option, Some, None, option_map}
use Rattle.std.specs.Prelude.{slice_set, slice_index_or, replicate}
use Rattle.std.specs.Option.{option_map_or}
use Rattle.agc_plan.specs.declared.reply.Alarm.TheVariants.{A1201, A1202}
use Rattle.agc_plan.specs.declared.reply.Reply.{Reply}
use Rattle.agc_plan.specs.declared.reply.Reply.TheVariants.{Established, Left, Roused, NoSleeper}
use Rattle.agc_plan.specs.declared.reply.Reply.TheVariants.{NoJob, Runs, Stored, Alarmed}
use Rattle.agc_plan.specs.declared.request.Entry.{Entry}

-- a job: where it begins or sleeps, its bank, its urgency, whether it sleeps, its area (0 for none)
-- and its work words
pub record Job : Type 0 where
  pub at : ℕ
  pub bank : ℕ
  pub priority : ℕ
  pub asleep : Bool
  pub area : ℕ
  pub work : List ℕ

-- the jobs by number, the first slot for job 1, and the number of the one that runs
pub record Jobs : Type 0 where
  pub slots : List (Option Job)
  pub running : Option ℕ

-- the jobs after a request, and the reply
pub record Outcome : Type 0 where
  pub jobs : Jobs
  pub reply : Reply

-- nobody lives, with room for so many
abbrev pub no_jobs : ℕ → Jobs
no_jobs room = record { slots = replicate room None; running = None }

-- the job of this number
abbrev pub job_in : List (Option Job) → ℕ → Option Job
job_in slots number = slice_index_or slots (number - 1) None

-- the slots, with this in the slot of this number
abbrev pub with_job : List (Option Job) → ℕ → Option Job → List (Option Job)
with_job slots number job = slice_set slots (number - 1) job

-- the least number, from this one on, whose slot is empty
abbrev pub least_unused : ℕ → List (Option Job) → Option ℕ
least_unused number [] = None
least_unused number (None ∷ slots) = Some number
least_unused number (Some job ∷ slots) = least_unused (number + 1) slots

-- an awake job's number and priority
pub record Ready : Type 0 where
  pub number : ℕ
  pub priority : ℕ

-- the more urgent of two, the first where they are alike
abbrev pub more_urgent : Ready → Option Ready → Option Ready
more_urgent first None = Some first
more_urgent first (Some second) = if nat_lt first.priority second.priority then Some second else Some first

-- the awake job of greatest priority, of those the one of least number; the slots are numbered from
-- this number on
abbrev pub best_from : ℕ → List (Option Job) → Option Ready
best_from number [] = None
best_from number (None ∷ slots) = best_from (number + 1) slots
best_from number (Some job ∷ slots) =
    if job.asleep then best_from (number + 1) slots
    else more_urgent (record { number = number; priority = job.priority }) (best_from (number + 1) slots)

-- the number of the best job
abbrev pub best : List (Option Job) → Option ℕ
best slots = option_map (λ r. r.number) (best_from 1 slots)

-- taking over: where nobody runs, the best runs
abbrev pub runner_after : Option ℕ → List (Option Job) → Option ℕ
runner_after None slots = best slots
runner_after (Some number) slots = Some number

-- whether a job owns this area
abbrev pub is_owned : ℕ → List (Option Job) → Bool
is_owned area [] = false
is_owned area (None ∷ slots) = is_owned area slots
is_owned area (Some job ∷ slots) = if job.area == area then true else is_owned area slots

-- the least area that nobody owns, of so many from this one on
abbrev pub least_unowned : ℕ → ℕ → List (Option Job) → Option ℕ
least_unowned zero area slots = None
least_unowned (suc more) area slots = if is_owned area slots then least_unowned more (area + 1) slots else Some area

-- a new job: awake, with work words 00000
abbrev pub new_job : ℕ → Entry → ℕ → Job
new_job priority entry area =
    record { at = entry.at; bank = entry.bank; priority = priority; asleep = false; area = area; work = 0 ∷ 0 ∷ 0 ∷ 0 ∷ 0 ∷ 0 ∷ [] }

-- one more job, of this number, which is the least unused one, and then taking over; 1202 where
-- none is unused
abbrev pub establish_at : Option ℕ → Job → Jobs → Outcome
establish_at None job jobs = record { jobs = jobs; reply = Alarmed A1202 }
establish_at (Some number) job jobs =
    let slots = with_job jobs.slots number (Some job) in
    record { jobs = record { slots = slots; running = runner_after jobs.running slots }; reply = Established number }

-- a new job without an area: 1202 where all numbers are used
abbrev pub novac : ℕ → Entry → Jobs → Outcome
novac priority entry jobs = establish_at (least_unused 1 jobs.slots) (new_job priority entry 0) jobs

-- a new job with this area, which is the least unowned one; 1201 where none is
abbrev pub findvac_at : Option ℕ → ℕ → Entry → Jobs → Outcome
findvac_at None priority entry jobs = record { jobs = jobs; reply = Alarmed A1201 }
findvac_at (Some area) priority entry jobs = establish_at (least_unused 1 jobs.slots) (new_job priority entry area) jobs

-- a new job with an area: 1201 where all five are owned, before any number is asked for
abbrev pub findvac : ℕ → Entry → Jobs → Outcome
findvac priority entry jobs = findvac_at (least_unowned 5 1 jobs.slots) priority entry jobs

-- the job of this number becomes what is made of it, or is removed; then the best runs
abbrev pub left_by : ℕ → Option Job → Jobs → Outcome
left_by number made jobs =
    let slots = with_job jobs.slots number made in
    record { jobs = record { slots = slots; running = best slots }; reply = Left (best slots) }

-- a call on the running job; if no job is running, nothing changes
abbrev pub if_running : (ℕ → Outcome) → Jobs → Outcome
if_running done jobs = option_map_or done jobs.running (record { jobs = jobs; reply = NoJob })

-- end of job: the running job is removed, and then the best runs
abbrev pub end_of_job : Jobs → Outcome
end_of_job jobs = if_running (λ number. left_by number None jobs) jobs

-- a job asleep, to be awakened at this address
abbrev pub sleeping_at : ℕ → Job → Job
sleeping_at at job = record job { asleep = true; at = at }

-- the running job falls asleep, to be awakened at this address, and then the best runs
abbrev pub sleep : ℕ → Jobs → Outcome
sleep at jobs =
    let slept : ℕ → Option Job = λ number. option_map (sleeping_at at) (job_in jobs.slots number) in
    if_running (λ number. left_by number (slept number) jobs) jobs

-- who runs, of the best and of the job of this number, which stays unless the best is strictly more
-- urgent
abbrev pub outrun_by : Option Ready → Option Job → ℕ → ℕ
outrun_by None job number = number
outrun_by (Some first) None number = number
outrun_by (Some first) (Some job) number = if nat_lt job.priority first.priority then first.number else number

-- the job of this number ran until now: who runs on
abbrev pub run_on : ℕ → List (Option Job) → Outcome
run_on number slots =
    let now = outrun_by (best_from 1 slots) (job_in slots number) number in
    record { jobs = record { slots = slots; running = Some now }; reply = Runs now }

-- change of job: where the best is strictly more urgent, it runs
abbrev pub change : Jobs → Outcome
change jobs = if_running (λ number. run_on number jobs.slots) jobs

-- the slots, in which the job of this number becomes what is made of it
abbrev pub with_changed : (Job → Job) → List (Option Job) → ℕ → List (Option Job)
with_changed made slots number = with_job slots number (option_map made (job_in slots number))

-- a job with this priority
abbrev pub with_priority : ℕ → Job → Job
with_priority priority job = record job { priority = priority }

-- change of priority: the running job gets this priority; where the best is then strictly more
-- urgent, it runs
abbrev pub prio : ℕ → Jobs → Outcome
prio priority jobs =
    if_running (λ number. run_on number (with_changed (with_priority priority) jobs.slots number)) jobs

-- a job with this word in one of its six places
abbrev pub with_word : ℕ → ℕ → Job → Job
with_word place word job = record job { work = slice_set job.work (place - 1) word }

-- store: one work word of the running job is set
abbrev pub store : ℕ → ℕ → Jobs → Outcome
store place word jobs =
    let slots : ℕ → List (Option Job) = with_changed (with_word place word) jobs.slots in
    if_running (λ number. record { jobs = record jobs { slots = slots number }; reply = Stored }) jobs

-- whether a job sleeps until this address is called
abbrev pub is_sleeper : ℕ → Job → Bool
is_sleeper at job = job.asleep && (job.at == at)

-- the least number, from this one on, of such a job
abbrev pub sleeper_from : ℕ → ℕ → List (Option Job) → Option ℕ
sleeper_from number at [] = None
sleeper_from number at (None ∷ slots) = sleeper_from (number + 1) at slots
sleeper_from number at (Some job ∷ slots) = if is_sleeper at job then Some number else sleeper_from (number + 1) at slots

-- a job awake
abbrev pub woken : Job → Job
woken job = record job { asleep = false }

-- rouse: the least-numbered sleeper of this address wakes, and then taking over
abbrev pub rouse : ℕ → Jobs → Outcome
rouse at jobs = rouse_of (sleeper_from 1 at jobs.slots) jobs where
  rouse_of : Option ℕ → Jobs → Outcome
  rouse_of None jobs = record { jobs = jobs; reply = NoSleeper }
  rouse_of (Some number) jobs =
      let slots = with_changed woken jobs.slots number in
      record { jobs = record { slots = slots; running = runner_after jobs.running slots }; reply = Roused number }

-- the new job's number, if the reply tells one
abbrev pub established : Reply → Option ℕ
established (Established number) = Some number
established reply = None
