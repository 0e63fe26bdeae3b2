-- The texts of faults.
use Rattle.std.specs.Prelude.{ℕ, List, codes}
use Rattle.agc_session.specs.declared.run_fault.RunFault.{RunFault}
use Rattle.agc_session.specs.declared.run_fault.RunFault.TheVariants as run

-- why a run did not come to its end
abbrev pub run_fault_text : RunFault → List ℕ
run_fault_text run.NoMemory = codes "no memory"
run_fault_text run.Output = codes "output"
run_fault_text run.NoThread = codes "no thread"
run_fault_text run.Lost = codes "lost"
