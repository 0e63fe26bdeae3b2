-- The texts of faults.
use Rattle.std.specs.Prelude.{ℕ, List, ◌++◌, codes}
use Rattle.std.specs.Fmt.{decimal}
use Rattle.agc_text.specs.declared.fault.ScriptFault.{ScriptFault}
use Rattle.agc_text.specs.declared.fault.ScriptFault.TheVariants as script
use Rattle.agc_text.specs.declared.fault.ReadFault.{ReadFault}
use Rattle.agc_text.specs.declared.fault.ReadFault.TheVariants as read

-- why a script is refused
abbrev pub script_fault_text : ScriptFault → List ℕ
script_fault_text script.NoMemory = codes "no memory"
script_fault_text (script.Line number) = codes "line " ++ decimal number

-- why an input could not be read
abbrev pub read_fault_text : ReadFault → List ℕ
read_fault_text read.NoMemory = codes "no memory"
read_fault_text read.Input = codes "input"
read_fault_text read.TooLong = codes "too long"
read_fault_text read.NotText = codes "not text"
