-- The keys of a scenario, which is what a reader of the other definitions has to believe of them:
-- for each, whether its table must have it, what it is called, and what its value is. Times are in
-- centiseconds, up to a day.
use Rattle.std.specs.Prelude.{◌≡◌, ℕ, List, [], ◌∷◌}
use Rattle.agc_document.specs.declared.key.KeyName.TheVariants as name
use Rattle.agc_document.specs.declared.key.TimeName.TheVariants as time
use Rattle.agc_document.specs.declared.key.TextForm.TheVariants as form
use Rattle.agc_document.specs.declared.key.Kind.{Kind}
use Rattle.agc_document.specs.declared.key.Kind.TheVariants as kind
use Rattle.agc_document.specs.declared.key.Key.{Key as AnyKey}
use Rattle.agc_document.specs.declared.key.Key.TheVariants.{Required, Optional}
use Rattle.agc_document.specs.KeyTable.{any}
use Rattle.agc_document.specs.declared.rows.TheConstants as bench
use Rattle.agc_scenario.specs.declared.rows.TheConstants as key

-- a centisecond of a day, and so many centiseconds, at least one
abbrev pub instant : Kind
instant = kind.Integer 0 8640000

abbrev pub duration : Kind
duration = kind.Integer 1 8640000

abbrev pub scenario_keys : List AnyKey
scenario_keys =
    Required (name.Time time.Seconds) (kind.Integer 1 86400)
    ∷ Optional (name.Time time.Title) (kind.Text form.Name)
    ∷ Optional (name.Time time.Seed) (kind.Integer 1 2147483646)
    ∷ Optional name.Sets (kind.Integer 7 8)
    ∷ Optional name.Limit (kind.Integer 1 1000000)
    ∷ Optional name.Allowance (kind.Integer 0 9223372036854775807)
    ∷ Optional name.Key (kind.OneOrMore form.Action 1 4)
    ∷ Optional name.Radar (kind.OneOrMore form.Action 1 4)
    ∷ Optional name.Power (kind.Texts form.Word 12 12)
    ∷ Optional (name.Time time.Steal) (kind.Integer 0 100)
    ∷ Optional name.Task (kind.OtherTables 0 any)
    ∷ Optional name.Phase (kind.OtherTables 0 any)
    ∷ Optional name.Job (kind.Tables 0 100)
    ∷ Optional (name.Time time.Event) (kind.Tables 0 1000)
    ∷ []

-- a name that is shown, of a task, a phase entry, a job or an event
abbrev pub name_key : AnyKey
name_key = Optional (name.Time time.Name) (kind.Text form.Name)

-- of a row of stolen time
abbrev pub steal_keys : List AnyKey
steal_keys =
    Required (name.Time time.From) instant
    ∷ Required (name.Time time.To) instant
    ∷ Required (name.Time time.Percent) (kind.Integer 0 100)
    ∷ Optional (name.Time time.Every) duration
    ∷ Optional (name.Time time.Until) instant
    ∷ []

-- of a cost that is drawn by lot
abbrev pub cost_keys : List AnyKey
cost_keys =
    Required (name.Time time.From) (kind.Integer 1 1000000)
    ∷ Required (name.Time time.To) (kind.Integer 1 1000000)
    ∷ []

-- of what a job costs
abbrev pub job_keys : List AnyKey
job_keys =
    Required name.At (kind.Text form.Address)
    ∷ Required (name.Time time.Cost) (kind.Integer 1 1000000)
    ∷ Optional (name.Time time.Deadline) duration
    ∷ Optional (name.Time time.Then) (kind.OneOrMore form.Request 1 8)
    ∷ name_key
    ∷ []

-- of an event
abbrev pub event_keys : List AnyKey
event_keys =
    Required name.At instant
    ∷ Optional (name.Time time.After) (kind.Text form.Name)
    ∷ Required (name.Time time.Do) (kind.OneOrMore form.Request 1 16)
    ∷ Optional (name.Time time.Every) duration
    ∷ Optional (name.Time time.Until) instant
    ∷ name_key
    ∷ []

-- the keys that definitions name, table by table; those of tasks and phase entries are a bench's
-- and a name
pub record AreTheKeys : Type 0 where
  pub scenario : key.SCENARIO_KEYS ≡ scenario_keys
  pub steal : key.STEAL_KEYS ≡ steal_keys
  pub cost : key.COST_KEYS ≡ cost_keys
  pub job : key.JOB_KEYS ≡ job_keys
  pub event : key.EVENT_KEYS ≡ event_keys
  pub each_of_job : (key.COST ∷ key.DEADLINE ∷ key.THEN ∷ bench.NAME ∷ [])
      ≡ (Required (name.Time time.Cost) (kind.Integer 1 1000000)
      ∷ Optional (name.Time time.Deadline) duration
      ∷ Optional (name.Time time.Then) (kind.OneOrMore form.Request 1 8) ∷ name_key ∷ [])
  pub each_of_cost : (key.LEAST ∷ key.MOST ∷ []) ≡ cost_keys
  pub each_of_event : (key.MOMENT ∷ key.AFTER ∷ key.DO ∷ key.EVERY ∷ key.UNTIL ∷ bench.NAME ∷ [])
      ≡ event_keys
  pub each_of_steal : (key.FROM ∷ key.TO ∷ key.PERCENT ∷ key.EVERY ∷ key.UNTIL ∷ []) ≡ steal_keys
