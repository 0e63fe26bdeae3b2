-- The keys of a bench, which is what a reader of the other definitions has to believe of them: for
-- each, whether its table must have it, what it is called, and what its value is. Numbers have a
-- least and a most; so has the length of an array.
use Rattle.std.specs.Prelude.{◌≡◌, ℕ, List, [], ◌∷◌}
use Rattle.agc_document.specs.declared.key.KeyName.TheVariants as name
use Rattle.agc_document.specs.declared.key.TextForm.TheVariants as form
use Rattle.agc_document.specs.declared.key.Kind.TheVariants as kind
use Rattle.agc_document.specs.declared.key.Key.{Key as AnyKey}
use Rattle.agc_document.specs.declared.key.Key.TheVariants.{Required, Optional}
use Rattle.agc_document.specs.declared.rows.TheConstants as key

-- as many as there may be
abbrev pub any : ℕ
any = 18446744073709551615

abbrev pub bench_keys : List AnyKey
bench_keys =
    Optional name.Sets (kind.Integer 7 8)
    ∷ Optional name.Limit (kind.Integer 1 1000000)
    ∷ Optional name.Allowance (kind.Integer 0 9223372036854775807)
    ∷ Optional name.Attends (kind.Integer 0 1000)
    ∷ Optional name.Key (kind.OneOrMore form.Action 1 4)
    ∷ Optional name.Radar (kind.OneOrMore form.Action 1 4)
    ∷ Optional name.Power (kind.Texts form.Word 12 12)
    ∷ Optional name.Script (kind.Texts form.Request 0 any)
    ∷ Optional name.Task (kind.Tables 0 any)
    ∷ Optional name.Phase (kind.Tables 0 any)
    ∷ Optional name.Worker (kind.Tables 0 32)
    ∷ Optional name.Device (kind.Tables 0 32)
    ∷ []

-- of a task's row
abbrev pub task_keys : List AnyKey
task_keys =
    Required name.At (kind.Text form.Address)
    ∷ Required name.Bank (kind.Text form.Word)
    ∷ Required name.Action (kind.OneOrMore form.Action 1 4)
    ∷ []

-- of a phase entry
abbrev pub phase_keys : List AnyKey
phase_keys =
    Required name.Group (kind.Integer 1 6)
    ∷ Required name.Phase (kind.Integer 1 127)
    ∷ Optional name.Job (kind.Text form.Job)
    ∷ Optional name.Task (kind.Text form.Listing)
    ∷ []

-- of a worker
abbrev pub worker_keys : List AnyKey
worker_keys = Required name.Script (kind.Texts form.Request 0 any) ∷ []

-- of a device
abbrev pub device_keys : List AnyKey
device_keys =
    Required name.Line (kind.Text form.Device)
    ∷ Required name.Pulses (kind.Integer 0 1000000)
    ∷ []

-- a bench that is explored says besides which workers repeat
abbrev pub explored_worker_keys : List AnyKey
explored_worker_keys =
    Required name.Script (kind.Texts form.Request 0 any) ∷ Optional name.Repeat kind.Flag ∷ []

-- the keys that definitions name, table by table
pub record AreTheKeys : Type 0 where
  pub bench : key.BENCH_KEYS ≡ bench_keys
  pub each_of_bench : (key.SETS ∷ key.LIMIT ∷ key.ALLOWANCE ∷ key.ATTENDS ∷ key.KEY ∷ key.RADAR
      ∷ key.POWER ∷ key.SCRIPT ∷ key.TASKS ∷ key.PHASES ∷ key.WORKERS ∷ key.DEVICES ∷ [])
      ≡ bench_keys
  pub task : key.TASK_KEYS ≡ task_keys
  pub each_of_task : (key.AT ∷ key.BANK ∷ key.ACTION ∷ []) ≡ task_keys
  pub phase : key.PHASE_KEYS ≡ phase_keys
  pub each_of_phase : (key.GROUP ∷ key.PHASE ∷ key.JOB ∷ key.LISTING ∷ []) ≡ phase_keys
  pub worker : key.WORKER_KEYS ≡ worker_keys
  pub each_of_worker : (key.REQUESTS ∷ []) ≡ worker_keys
  pub device : key.DEVICE_KEYS ≡ device_keys
  pub each_of_device : (key.LINE ∷ key.PULSES ∷ []) ≡ device_keys
  pub explored_worker : key.EXPLORED_WORKER_KEYS ≡ explored_worker_keys
  pub each_of_explored : (key.REQUESTS ∷ key.REPEAT ∷ []) ≡ explored_worker_keys
  pub explored : (key.EXPLORED ∷ key.EXPLORED_DEVICES ∷ [])
      ≡ (Optional name.Worker (kind.OtherTables 0 32)
      ∷ Optional name.Device (kind.OtherTables 0 32) ∷ [])
