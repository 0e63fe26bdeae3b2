-- For proofs: what a step of reading a bench returns.
use Rattle.std.specs.Prelude.{◌≡◌, Option, Some, None, Result, Ok, Err}
use Rattle.agc_document.specs.declared.fault.BenchFault.{BenchFault}
use Rattle.agc_document.specs.declared.fault.BenchFault.TheVariants.{NoMemory, Key, Line}

-- a call's result, seen by view, is this one; None is a fault of a key; memory may run out instead
abbrev pub GivesOrKey : {X Y : Type 0} → (X → Y) → Result X BenchFault → Option Y → Type 0
GivesOrKey view (Ok x) o = o ≡ Some (view x)
GivesOrKey view (Err NoMemory) o = Unit {0}
GivesOrKey view (Err Key) o = o ≡ None
GivesOrKey view (Err _) o = ⊥

-- the fault is Line for this reason, unless memory runs out
abbrev pub RefusedLine : Type 0 → BenchFault → Type 0
RefusedLine why NoMemory = Unit {0}
RefusedLine why Line = why
RefusedLine why _ = ⊥
