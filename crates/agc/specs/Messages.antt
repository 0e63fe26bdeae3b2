-- The messages about the program's faults.
use Rattle.std.specs.Prelude.{ℕ, List, ◌++◌, codes}
use Rattle.agc.specs.declared.fault.ProgramFault.{ProgramFault}
use Rattle.agc.specs.declared.fault.ProgramFault.TheVariants as fault
use Rattle.agc_text.specs.Messages.{read_fault_text, script_fault_text}
use Rattle.agc_document.specs.Messages.{bench_fault_text}
use Rattle.agc_session.specs.Messages.{run_fault_text}

-- a fault's text; of wrong words it is what the program takes
abbrev pub fault_text : ProgramFault → List ℕ
fault_text fault.Words = codes "use script, serial or threads"
fault_text fault.NoMemory = codes "no memory"
fault_text fault.Output = codes "output"
fault_text (fault.Read why) = read_fault_text why
fault_text (fault.Script why) = script_fault_text why
fault_text (fault.Bench why) = bench_fault_text why
fault_text (fault.Run why) = run_fault_text why

-- the line on standard error, without its end
abbrev pub error_line : ProgramFault → List ℕ
error_line why = codes "agc: " ++ fault_text why
