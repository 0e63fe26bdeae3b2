-- A bench: its values, their ranges and their texts.
use Rattle.std.specs.Prelude.{◌≡◌, ◌≤◌, ℕ, List, codes, map, length, Option, None, IfSome}
use Rattle.std.specs.Option.{option_map}
use Rattle.std.specs.List.{AllByRecursion}
use Rattle.agc_plan.specs.declared.request.Task.{Task}
use Rattle.agc_plan.specs.declared.request.Action.{Action}
use Rattle.agc_plan.specs.declared.request.JobStart.{JobStart}
use Rattle.agc_plan.specs.declared.request.JobStart.TheVariants.{Novac as WithoutArea}
use Rattle.agc_plan.specs.declared.request.JobStart.TheVariants.{Findvac as WithArea}
use Rattle.agc_plan.specs.declared.request.Request.{Request}
use Rattle.agc_plan.specs.declared.request.Request.TheVariants.{Novac, Findvac, List as ListTask}
use Rattle.agc_plan.specs.Begins.{Begins}
use Rattle.agc_plan.specs.Plans.{Rows, fault_of}
use Rattle.agc_plan.specs.Ranges.{IsBetween, IsSix, IsRequest, IsAction, IsTask}
use Rattle.agc_plan.specs.declared.line.Line.{Line}
use Rattle.agc_plan.specs.declared.line.Line.TheVariants.{Timer, Key, Radar}
use Rattle.agc_text.specs.Numbers.{octal, IsWord}
use Rattle.agc_text.specs.Lines.{line_of, action_line_of}
use Rattle.agc_document.specs.Texts.{RowTexts, EntryTexts, DeviceTexts, Settings, Lists, Texts}

-- the values of a bench
pub record Benched : Type 0 where
  pub sets : ℕ
  pub limit : ℕ
  pub allowance : ℕ
  pub attends : ℕ
  pub key : List Action
  pub radar : List Action
  pub power : Option (List ℕ)
  pub script : List Request
  pub rows : Rows
  pub entries : List Begins
  pub workers : List (List Request)
  pub devices : List (Line × ℕ)

-- the request that establishes the same job
abbrev pub job_request : JobStart → Request
job_request (WithoutArea priority entry) = Novac priority entry
job_request (WithArea priority entry) = Findvac priority entry

-- the request that lists the same task
abbrev pub timed_request : ℕ × Task → Request
timed_request t = ListTask t.0 t.1

-- the text of a device's line
abbrev pub kind_text : Line → List ℕ
kind_text Timer = codes "timer"
kind_text Key = codes "key"
kind_text Radar = codes "radar"

-- the texts of a row
abbrev pub row_texts : Task × List Action → RowTexts
row_texts r =
    record { at = octal 5 r.0.at; bank = octal 5 r.0.bank; actions = map action_line_of r.1 }

-- the numbers and texts of a phase entry
abbrev pub entry_texts : Begins → EntryTexts
entry_texts b =
    record {
      group = b.group;
      phase = b.phase;
      job = option_map (λ j. line_of (job_request j)) b.job;
      task = option_map (λ t. line_of (timed_request t)) b.task;
    }

-- the text and number of a device
abbrev pub device_texts : Line × ℕ → DeviceTexts
device_texts d = record { line = kind_text d.0; pulses = d.1 }

-- the numbers and texts of what a bench has once
abbrev pub settings_texts : Benched → Settings
settings_texts b =
    record {
      sets = b.sets;
      limit = b.limit;
      allowance = b.allowance;
      attends = b.attends;
      key = map action_line_of b.key;
      radar = map action_line_of b.radar;
      power = option_map (map (octal 5)) b.power;
    }

-- the texts of what a bench has many of
abbrev pub lists_texts : Benched → Lists
lists_texts b =
    record {
      script = map line_of b.script;
      rows = map row_texts b.rows;
      entries = map entry_texts b.entries;
      workers = map (map line_of) b.workers;
      devices = map device_texts b.devices;
    }

-- the numbers and texts of a bench
abbrev pub bench_texts : Benched → Texts
bench_texts b = record { settings = settings_texts b; lists = lists_texts b }

-- one to four actions, whose numbers are in their ranges
abbrev pub AreActions : List Action → Type 0
AreActions actions = AllByRecursion IsAction actions × IsBetween 1 4 (length actions)

-- a row's numbers are in their ranges
abbrev pub IsRow : Task × List Action → Type 0
IsRow r = IsTask r.0 × AreActions r.1

-- a phase entry's numbers are in their ranges
pub record IsEntry (b : Begins) : Type 0 where
  pub group : IsSix b.group
  pub phase : IsBetween 1 127 b.phase
  pub job : IfSome b.job (λ j. IsRequest (job_request j))
  pub task : IfSome b.task (λ t. IsRequest (timed_request t))

-- a device's pulses are in their range
abbrev pub IsDevice : Line × ℕ → Type 0
IsDevice d = d.1 ≤ 1000000

-- twelve words
abbrev pub IsPower : List ℕ → Type 0
IsPower words = (length words ≡ 12) × AllByRecursion IsWord words

-- the ranges of a bench
pub record IsInRange (b : Benched) : Type 0 where
  pub sets : IsBetween 7 8 b.sets
  pub limit : IsBetween 1 1000000 b.limit
  pub allowance : b.allowance ≤ 9223372036854775807
  pub attends : b.attends ≤ 1000
  pub key : AreActions b.key
  pub radar : AreActions b.radar
  pub power : IfSome b.power IsPower
  pub script : AllByRecursion IsRequest b.script
  pub rows : AllByRecursion IsRow b.rows
  pub entries : AllByRecursion IsEntry b.entries
  pub workers : AllByRecursion (AllByRecursion IsRequest) b.workers
  pub few_workers : length b.workers ≤ 32
  pub devices : AllByRecursion IsDevice b.devices
  pub few_devices : length b.devices ≤ 32

-- a bench: in its ranges, and with rows and entries that make a plan
pub record IsBench (b : Benched) : Type 0 where
  pub in_range : IsInRange b
  pub planned : fault_of b.rows b.entries ≡ None
