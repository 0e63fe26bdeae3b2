-- The numbers and texts of a scenario, before any text is read.
use Rattle.std.specs.Prelude.{ℕ, List, Option, Some, None, Bool, false, if◌then◌else◌, codes}
use Rattle.std.specs.Str.{bytes_eq}
use Rattle.agc_plan.specs.declared.reply.Alarm.{Alarm}
use Rattle.agc_plan.specs.declared.reply.Alarm.TheVariants.{A1201, A1202, A1203}
use Rattle.agc_document.specs.Texts.{Texts, RowTexts, EntryTexts}
use Rattle.agc_clock.specs.declared.timetable.Stolen.{Stolen}
use Rattle.agc_scenario.specs.declared.timing.CostRange.{CostRange}

-- whether a name is there, and is this text
abbrev pub is_named : List ℕ → Option (List ℕ) → Bool
is_named called None = false
is_named called (Some name) = bytes_eq name called

-- the alarm that a name calls, if it is one
abbrev pub alarm_called : List ℕ → Option Alarm
alarm_called name =
    if bytes_eq name (codes "1201") then Some A1201
    else if bytes_eq name (codes "1202") then Some A1202
    else if bytes_eq name (codes "1203") then Some A1203
    else None

-- a task's row or a phase entry, and its name
pub record Named (X : Type 0) : Type 0 where
  pub item : X
  pub name : Option (List ℕ)

-- the tasks and phases of a scenario
pub record NamedTexts : Type 0 where
  pub rows : List (Named RowTexts)
  pub entries : List (Named EntryTexts)

-- a job: the text of its address, its costs and its deadline in centiseconds, a text for each
-- request for which it asks, and its name
pub record JobTexts : Type 0 where
  pub at : List ℕ
  pub cost : CostRange
  pub deadline : Option ℕ
  pub requests : List (List ℕ)
  pub name : Option (List ℕ)

-- an event: its first centisecond, the name of the event or the alarm from whose first it counts, a
-- text for each request, after how many centiseconds it comes again, the last centisecond at which
-- it may, and its name
pub record EventTexts : Type 0 where
  pub at : ℕ
  pub after : Option (List ℕ)
  pub requests : List (List ℕ)
  pub every : Option ℕ
  pub until : Option ℕ
  pub name : Option (List ℕ)

-- how time passes: the seconds that a scenario lasts, its title, the seed of its lots, the rows of
-- stolen time, what jobs cost, and the events
pub record TimingTexts : Type 0 where
  pub seconds : ℕ
  pub title : Option (List ℕ)
  pub seed : Option ℕ
  pub stolen : List Stolen
  pub jobs : List JobTexts
  pub events : List EventTexts

-- all of a scenario: the texts of a bench, the names of its rows and entries, and how time passes
pub record ScenarioTexts : Type 0 where
  pub bench : Texts
  pub row_names : List (Option (List ℕ))
  pub entry_names : List (Option (List ℕ))
  pub timing : TimingTexts
