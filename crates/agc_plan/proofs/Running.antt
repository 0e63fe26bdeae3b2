-- A request that changes the running job, as a change of the jobs and what comes after it.
use Rattle.std.proofs.Common.{◌≡◌, ℕ, List, Option, Some, None, refl}
use Rattle.agc_plan.specs.declared.reply.Reply.{Reply}
use Rattle.agc_plan.specs.declared.reply.Reply.TheVariants.{NoJob, Stored}
use Rattle.agc_plan.specs.Jobs.{Job, Jobs, with_changed, change, prio, with_priority, store, with_word}

-- the running job, if there is one, becomes what is made of it
abbrev pub made_in : Option ℕ → (Job → Job) → List (Option Job) → List (Option Job)
made_in None made slots = slots
made_in (Some number) made slots = with_changed made slots number

abbrev pub with_running : (Job → Job) → Jobs → Jobs
with_running made jobs = record jobs { slots = made_in jobs.running made jobs.slots }

-- whether a word was stored
abbrev pub stored : Option ℕ → Reply
stored None = NoJob
stored (Some number) = Stored

prio_by : (priority : ℕ) (slots : List (Option Job)) (running : Option ℕ) → prio priority (record { slots = slots; running = running }) ≡ change (with_running (with_priority priority) (record { slots = slots; running = running }))
prio_by priority slots None = refl
prio_by priority slots (Some number) = refl

pub prio_is : (priority : ℕ) (jobs : Jobs) → prio priority jobs ≡ change (with_running (with_priority priority) jobs)
prio_is priority jobs = prio_by priority jobs.slots jobs.running

store_by : (place word : ℕ) (slots : List (Option Job)) (running : Option ℕ) → store place word (record { slots = slots; running = running }) ≡ record { jobs = with_running (with_word place word) (record { slots = slots; running = running }); reply = stored running }
store_by place word slots None = refl
store_by place word slots (Some number) = refl

pub store_is : (place word : ℕ) (jobs : Jobs) → store place word jobs ≡ record { jobs = with_running (with_word place word) jobs; reply = stored jobs.running }
store_is place word jobs = store_by place word jobs.slots jobs.running
