-- The keys of a document: what each is called, and what its value is.
use Rattle.std.specs.Prelude.{ℕ, List, codes, Bool, true, false}
use Rattle.agc_document.specs.declared.key.KeyName.{KeyName}
use Rattle.agc_document.specs.declared.key.KeyName.TheVariants as name
use Rattle.agc_document.specs.declared.key.TimeName.TheVariants as time
use Rattle.agc_document.specs.declared.key.Kind.{Kind}
use Rattle.agc_document.specs.declared.key.Kind.TheVariants as kind
use Rattle.agc_document.specs.declared.key.Key.{Key as AnyKey}
use Rattle.agc_document.specs.declared.key.Key.TheVariants.{Required, Optional}

-- the spelling of a key's name; only scenarios have the last ones
abbrev pub name_text : KeyName → List ℕ
name_text name.Action = codes "action"
name_text name.Allowance = codes "allowance"
name_text name.At = codes "at"
name_text name.Attends = codes "attends"
name_text name.Bank = codes "bank"
name_text name.Device = codes "device"
name_text name.Group = codes "group"
name_text name.Job = codes "job"
name_text name.Key = codes "key"
name_text name.Limit = codes "limit"
name_text name.Line = codes "line"
name_text name.Phase = codes "phase"
name_text name.Power = codes "power"
name_text name.Pulses = codes "pulses"
name_text name.Radar = codes "radar"
name_text name.Repeat = codes "repeat"
name_text name.Script = codes "script"
name_text name.Sets = codes "sets"
name_text name.Task = codes "task"
name_text name.Worker = codes "worker"
name_text (name.Time time.After) = codes "after"
name_text (name.Time time.Cost) = codes "cost"
name_text (name.Time time.Deadline) = codes "deadline"
name_text (name.Time time.Do) = codes "do"
name_text (name.Time time.Event) = codes "event"
name_text (name.Time time.Every) = codes "every"
name_text (name.Time time.From) = codes "from"
name_text (name.Time time.Name) = codes "name"
name_text (name.Time time.Percent) = codes "percent"
name_text (name.Time time.Seconds) = codes "seconds"
name_text (name.Time time.Seed) = codes "seed"
name_text (name.Time time.Steal) = codes "steal"
name_text (name.Time time.Then) = codes "then"
name_text (name.Time time.Title) = codes "title"
name_text (name.Time time.To) = codes "to"
name_text (name.Time time.Until) = codes "until"

abbrev pub name_of : AnyKey → List ℕ
name_of (Required n kind) = name_text n
name_of (Optional n kind) = name_text n

-- the kind of a key's value
abbrev pub kind_of : AnyKey → Kind
kind_of (Required n kind) = kind
kind_of (Optional n kind) = kind

-- between which bounds an integer is, or how many items an array has
abbrev pub bounds_of : Kind → ℕ × ℕ
bounds_of (kind.Integer low high) = (low, high)
bounds_of (kind.OneOrMore f low high) = (low, high)
bounds_of (kind.Texts f low high) = (low, high)
bounds_of (kind.Tables low high) = (low, high)
bounds_of (kind.OtherTables low high) = (low, high)
bounds_of _ = (0, 18446744073709551615)

-- for proofs: whether its table must have it
abbrev pub is_required : AnyKey → Bool
is_required (Required n kind) = true
is_required (Optional n kind) = false
