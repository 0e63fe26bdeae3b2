-- The exit statuses.
use Rattle.std.specs.Prelude.{ℕ, Result, Ok, Err}
use Rattle.agc.specs.declared.fault.ProgramFault.{ProgramFault}
use Rattle.agc.specs.declared.fault.ProgramFault.TheVariants as fault
use Rattle.agc_text.specs.declared.fault.ReadFault.TheVariants as read
use Rattle.agc_text.specs.declared.fault.ScriptFault.TheVariants as script
use Rattle.agc_document.specs.declared.fault.BenchFault.TheVariants as bench
use Rattle.agc_session.specs.declared.run_fault.RunFault.TheVariants as run

-- 1: input that is refused; 2: the words; 3: want of memory or of a thread; 4: a read or write that
-- failed; 5: lost shares
abbrev pub status_of : ProgramFault → ℕ
status_of fault.Words = 2
status_of fault.NoMemory = 3
status_of fault.Output = 4
status_of (fault.Read read.NoMemory) = 3
status_of (fault.Read read.Input) = 4
status_of (fault.Read why) = 1
status_of (fault.Script script.NoMemory) = 3
status_of (fault.Script why) = 1
status_of (fault.Bench bench.NoMemory) = 3
status_of (fault.Bench why) = 1
status_of (fault.Run run.NoMemory) = 3
status_of (fault.Run run.NoThread) = 3
status_of (fault.Run run.Output) = 4
status_of (fault.Run run.Lost) = 5

-- 0 if there was no fault
abbrev pub status_after : Result Unit ProgramFault → ℕ
status_after (Ok done) = 0
status_after (Err why) = status_of why
