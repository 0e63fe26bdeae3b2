-- The schedule of a scenario: how long it lasts, which time is stolen, how much each job costs, and
-- when each event comes.
use Rattle.std.specs.Prelude.{ℕ, ◌+◌, ◌-◌, ◌*◌, ◌%◌, ◌==◌, ◌&&◌, nat_le, nat_lt, min, max, Bool}
use Rattle.std.specs.Prelude.{if◌then◌else◌, List, [], ◌∷◌, Option, Some, None, slice_get}
use Rattle.std.specs.Option.{option_and_then, option_map_or}
use Rattle.agc_plan.specs.declared.request.Request.{Request}
use Rattle.agc_plan.specs.declared.request.Request.TheVariants.{EndOfJob, List as Lists, Prio}
use Rattle.agc_plan.specs.declared.request.Request.TheVariants.{Findvac, Novac, SetPhase, Sleep}
use Rattle.agc_plan.specs.declared.request.Request.TheVariants.{Store}
use Rattle.agc_clock.specs.declared.timetable.Cost.{Cost}
use Rattle.agc_clock.specs.declared.timetable.Step.{Step}
use Rattle.agc_clock.specs.declared.timetable.Step.TheVariants as step
use Rattle.agc_clock.specs.declared.timetable.Stolen.{Stolen}
use Rattle.agc_clock.specs.declared.timetable.Then.{Then}
use Rattle.agc_clock.specs.declared.timetable.Then.TheVariants as then
use Rattle.agc_clock.specs.Events.{Event}

-- how many centiseconds it lasts, the rows of stolen time, what jobs cost, and the events
pub record Schedule : Type 0 where
  pub lasts : ℕ
  pub stolen : List Stolen
  pub costs : List Cost
  pub events : List Event

-- whether a row of stolen time doesn't repeat
abbrev pub comes_once : Stolen → Bool
comes_once row = row.every == 0

-- whether two rows of stolen time that don't repeat hold at the same time
abbrev pub overlap : Stolen → Stolen → Bool
overlap a b =
    (comes_once a && comes_once b) && (nat_lt a.from b.to && nat_lt b.from a.to)

-- a row of stolen time that comes again holds so long after it began as at first, if it began at
-- its last time or before
abbrev pub holds_again : Stolen → ℕ → ℕ → Bool
holds_again row time after = nat_lt after (row.to - row.from) && nat_le (time - after) row.until

-- a row of stolen time holds from its first centisecond on, before its last, and again each so many
-- centiseconds
abbrev pub holds : Stolen → ℕ → Bool
holds row time =
    nat_le row.from time && (if row.every == 0 then nat_lt time row.to
    else holds_again row time ((time - row.from) % row.every))

-- the percent that is stolen of a centisecond: that of the first row that holds
abbrev pub stolen_at : List Stolen → ℕ → ℕ
stolen_at [] time = 0
stolen_at (row ∷ rows) time = if holds row time then row.percent else stolen_at rows time

-- the computing time of a centisecond, in hundredths of it
abbrev pub share_at : Schedule → ℕ → ℕ
share_at table time = 100 - stolen_at table.stolen time

-- the cost of a job at this address
abbrev pub cost_at : List Cost → ℕ → Option Cost
cost_at [] at = None
cost_at (cost ∷ costs) at = if cost.at == at then Some cost else cost_at costs at

-- the hundredths of a centisecond that a job needs before it is asked anything: its cost, but at
-- least one, and at most so many that a few more can be counted
abbrev pub needs : Cost → ℕ
needs cost = max 1 (min cost.hundredths 4000000000)

-- how much less a job may need, by lot: never so much that it would need nothing
abbrev pub spread_of : Cost → ℕ
spread_of cost = min cost.spread (needs cost - 1)

-- how much less it needs that draws this lot
abbrev pub spared : Cost → ℕ → ℕ
spared cost lot = spread_of cost - lot % (spread_of cost + 1)

-- the lot after this one: 0 stays 0, and from any other below the last number all lots come in turn
abbrev pub next_lot : ℕ → ℕ
next_lot lot = (48271 * lot) % 2147483647

-- the step of this number, from 0, that a job goes through before it leaves, if there is one
abbrev pub step_at : Cost → ℕ → Option Step
step_at cost number = option_and_then (λ step. step) (slice_get cost.steps number)

-- the request that is a step
abbrev pub asked_step : Step → Request
asked_step (step.Novac priority entry) = Novac priority entry
asked_step (step.Findvac priority entry) = Findvac priority entry
asked_step (step.Prio priority) = Prio priority
asked_step (step.Store place word) = Store place word
asked_step (step.List delay task) = Lists delay task
asked_step (step.SetPhase group phase) = SetPhase group phase

-- the step that a request is, if it is one
abbrev pub step_of : Request → Option Step
step_of (Novac priority entry) = Some (step.Novac priority entry)
step_of (Findvac priority entry) = Some (step.Findvac priority entry)
step_of (Prio priority) = Some (step.Prio priority)
step_of (Store place word) = Some (step.Store place word)
step_of (Lists delay task) = Some (step.List delay task)
step_of (SetPhase group phase) = Some (step.SetPhase group phase)
step_of request = None

-- the request by which a job leaves
abbrev pub asked_then : Then → Request
asked_then then.End = EndOfJob
asked_then (then.Sleep at) = Sleep at

-- the request of a job that has used up its cost: its step, or to leave if there is none
abbrev pub asked_of : Option Step → Then → Request
asked_of None leaves = asked_then leaves
asked_of (Some step) leaves = asked_step step

-- the requests of an event, in order
abbrev pub requests_of : Option Event → List Request
requests_of event = option_map_or (λ e. e.requests) event []
