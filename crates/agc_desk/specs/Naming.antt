-- The names of the five ledgers and of the history of a desk.
use Rattle.std.specs.Prelude.{ℕ}
use Rattle.atomic_table.specs.Seated.{TableId}

-- a name for the ledger of each number of the totals, and one for the history
pub record DeskNames : Type 0 where
  pub served : ℕ
  pub a1201 : ℕ
  pub a1202 : ℕ
  pub a1203 : ℕ
  pub restarts : ℕ
  pub history : TableId
