-- The part of a desk's accounts of lines that stays while the desk is under a lock.
use Rattle.std.specs.Prelude.{ℕ, List, Option}
use Rattle.atomic_table.specs.Seated.{TableId}

-- of which latch there is a taker, if there is one; how many devices were given out under it; and
-- the pulses of the latches that were settled
pub record Lent : Type 0 where
  pub latch : Option TableId
  pub given : ℕ
  pub settled : List ℕ
