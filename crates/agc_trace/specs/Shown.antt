-- How the showing of a run ends.
use Rattle.std.specs.Prelude.{◌≡◌, ℕ, List, Option, Result, Ok, Err}
use Rattle.agc_run.specs.Events.{Watching}
use Rattle.agc_run.specs.Runs.{WatchingRun}
use Rattle.agc_session.specs.declared.run_fault.RunFault.{RunFault}
use Rattle.agc_session.specs.declared.run_fault.RunFault.TheVariants.{NoMemory, Output}

-- all that was to be asked was asked, in order; or a write failed, or there was no memory, and then
-- nothing was written; no other fault comes
abbrev pub EndsIn : (end : Watching) → Option (List ℕ) → Option (List ℕ)
    → Result WatchingRun RunFault → Type 0
EndsIn end old new (Ok run) = run.watching ≡ end
EndsIn end old new (Err Output) = Unit {0}
EndsIn end old new (Err NoMemory) = new ≡ old
EndsIn end old new (Err other) = ⊥
