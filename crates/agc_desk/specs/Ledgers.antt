-- Helpers of proofs: a ledger, and totals that don't fall.
use Rattle.std.specs.Prelude.{ℕ, ◌≤◌}
use Rattle.agc_machine.specs.declared.totals.Totals.{Totals}

-- a ledger: what was booked, how many of its parts were not given out, and what came back with the
-- others
pub record Columned : Type 0 where
  pub total : ℕ
  pub left : ℕ
  pub back : ℕ

-- no number of the totals fell
pub record NoneFell (old new : Totals) : Type 0 where
  pub served : old.served ≤ new.served
  pub a1201 : old.a1201 ≤ new.a1201
  pub a1202 : old.a1202 ≤ new.a1202
  pub a1203 : old.a1203 ≤ new.a1203
  pub restarts : old.restarts ≤ new.restarts
