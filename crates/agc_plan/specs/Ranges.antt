-- The ranges of the number types, and of what is asked for: a request's numbers as the types of
-- `src/` keep them.
use Rattle.std.specs.Prelude.{ℕ, ◌<◌, ◌≤◌}
use Rattle.agc_plan.specs.declared.request.Entry.{Entry}
use Rattle.agc_plan.specs.declared.request.Task.{Task}
use Rattle.agc_plan.specs.declared.request.Request.{Request}
use Rattle.agc_plan.specs.declared.request.Request.TheVariants as request
use Rattle.agc_plan.specs.declared.request.Action.{Action}
use Rattle.agc_plan.specs.declared.request.Action.TheVariants as action

-- a number of a range, low and high among it
abbrev pub IsBetween : ℕ → ℕ → ℕ → Type 0
IsBetween low high n = (low ≤ n) × (n ≤ high)

-- a priority
abbrev pub IsPriority : ℕ → Type 0
IsPriority n = IsBetween 1 31 n

-- an address
abbrev pub IsAddress : ℕ → Type 0
IsAddress n = IsBetween 1 16383 n

-- a delay of the Waitlist
abbrev pub IsDelay : ℕ → Type 0
IsDelay n = IsBetween 1 16250 n

-- a restart group, or the place of a work word
abbrev pub IsSix : ℕ → Type 0
IsSix n = IsBetween 1 6 n

-- an entry's numbers are in their ranges
abbrev pub IsEntry : Entry → Type 0
IsEntry entry = IsAddress entry.at × (entry.bank < 32768)

-- a task's numbers are in their ranges
abbrev pub IsTask : Task → Type 0
IsTask task = IsAddress task.at × (task.bank < 32768)

-- the numbers of a request are in their ranges
abbrev pub IsRequest : Request → Type 0
IsRequest (request.Novac priority entry) = IsPriority priority × IsEntry entry
IsRequest (request.Findvac priority entry) = IsPriority priority × IsEntry entry
IsRequest request.EndOfJob = Unit {0}
IsRequest (request.Sleep at) = IsAddress at
IsRequest (request.Rouse at) = IsAddress at
IsRequest (request.Prio priority) = IsPriority priority
IsRequest request.Change = Unit {0}
IsRequest (request.Store place word) = IsSix place × (word < 32768)
IsRequest (request.List delay task) = IsDelay delay × IsTask task
IsRequest request.Tick = Unit {0}
IsRequest (request.SetPhase group phase) = IsSix group × (phase ≤ 127)
IsRequest request.Restart = Unit {0}
IsRequest request.Fresh = Unit {0}

-- the numbers of an action are in their ranges
abbrev pub IsAction : Action → Type 0
IsAction action.Nothing = Unit {0}
IsAction (action.Novac priority entry) = IsRequest (request.Novac priority entry)
IsAction (action.Findvac priority entry) = IsRequest (request.Findvac priority entry)
IsAction (action.Rouse at) = IsRequest (request.Rouse at)
IsAction (action.List delay task) = IsRequest (request.List delay task)
