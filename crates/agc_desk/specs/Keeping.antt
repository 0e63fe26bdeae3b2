-- Helpers of proofs: what a locked desk's accounts of lines keep.
use Rattle.std.specs.Prelude.{◌≡◌, Option, IfSome}
use Rattle.agc_latch.specs.Accounts.{LineAccounts, given_of, latch_of}
use Rattle.agc_desk.specs.Lending.{Lent}

abbrev pub lent_of : LineAccounts → Lent
lent_of a = record { latch = latch_of a.taker; given = given_of a.taker; settled = a.settled }

-- the accounts stay as it is said, where anything is said of them
abbrev pub IsLent : Option Lent → LineAccounts → Type 0
IsLent said lines = IfSome said (λ lent. lent_of lines ≡ lent)
