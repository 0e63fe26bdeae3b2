-- The numbers and texts of a bench, before any text is read.
use Rattle.std.specs.Prelude.{ℕ, List, Option}

-- the texts of a task's row: its address, its bank, and one for each action
pub record RowTexts : Type 0 where
  pub at : List ℕ
  pub bank : List ℕ
  pub actions : List (List ℕ)

-- a phase entry: its numbers, and the texts of its job and its task
pub record EntryTexts : Type 0 where
  pub group : ℕ
  pub phase : ℕ
  pub job : Option (List ℕ)
  pub task : Option (List ℕ)

-- a device: the text of its line, and its pulses
pub record DeviceTexts : Type 0 where
  pub line : List ℕ
  pub pulses : ℕ

-- the single values of a bench; each of the two pulses has a text per action
pub record Settings : Type 0 where
  pub sets : ℕ
  pub limit : ℕ
  pub allowance : ℕ
  pub attends : ℕ
  pub key : List (List ℕ)
  pub radar : List (List ℕ)
  pub power : Option (List (List ℕ))

-- the lists of a bench
pub record Lists : Type 0 where
  pub script : List (List ℕ)
  pub rows : List RowTexts
  pub entries : List EntryTexts
  pub workers : List (List (List ℕ))
  pub devices : List DeviceTexts

-- all of a bench
pub record Texts : Type 0 where
  pub settings : Settings
  pub lists : Lists
