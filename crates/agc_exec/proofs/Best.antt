-- Helpers of proofs: the search for the best job, one set at a time.
use Rattle.std.specs.Prelude.{ℕ, nat_lt, ◌==◌, ◌&&◌, ◌||◌, Bool, if◌then◌else◌, Option, Some, None}
use Rattle.agc_exec.specs.HeldJob.{HeldJob}

-- more urgent, or as urgent and of a lower number
abbrev pub precedes : HeldJob → HeldJob → Bool
precedes r s =
    nat_lt s.priority r.priority || ((r.priority == s.priority) && nat_lt r.number s.number)

-- the better of the best so far and what set k holds
abbrev pub better_of : Option (ℕ × HeldJob) → ℕ → Option HeldJob → Option (ℕ × HeldJob)
better_of best k None = best
better_of None k (Some r) = if r.asleep then None else Some (k, r)
better_of (Some best) k (Some r) =
    if r.asleep then Some best else if precedes best.1 r then Some best else Some (k, r)
