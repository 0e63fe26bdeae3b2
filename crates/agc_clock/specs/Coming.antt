-- When an event comes.
use Rattle.std.specs.Prelude.{ℕ, ◌-◌, ◌%◌, ◌==◌, ◌&&◌, nat_le, Bool}

-- at a time, and again each so many centiseconds, up to a last time
pub record Coming : Type 0 where
  pub at : ℕ
  pub every : ℕ
  pub until : ℕ

-- whether it comes at this time; at the last it still does
abbrev pub comes : Coming → ℕ → Bool
comes times time =
    nat_le times.at time && (nat_le time times.until && ((time - times.at) % times.every == 0))
