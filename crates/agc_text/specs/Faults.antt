-- When each fault of reading comes.
use Rattle.std.specs.Prelude.{◌≤◌, ◌<◌, ℕ, ◌+◌, List, Option, length}
use Rattle.std.specs.Str.{IsUtf8}
use Rattle.std.specs.Io.KnownBytes.{Consumes}
use Rattle.agc_text.specs.declared.fault.ScriptFault.{ScriptFault}
use Rattle.agc_text.specs.declared.fault.ScriptFault.TheVariants.{NoMemory, Line}
use Rattle.agc_text.specs.declared.fault.ReadFault.{ReadFault}
use Rattle.agc_text.specs.declared.fault.ReadFault.TheVariants.{NoMemory as NoMemoryToRead, Input}
use Rattle.agc_text.specs.declared.fault.ReadFault.TheVariants.{TooLong, NotText}
use Rattle.agc_text.specs.declared.input.TheConstants.{MOST_BYTES}
use Rattle.agc_text.specs.Input.{ReadsAll, most_at_once}
use Rattle.agc_text.specs.Script.{IsFirstRefused}

-- why these lines are no script, unless memory runs out
abbrev pub RefusesScript : List (List ℕ) → ScriptFault → Type 0
RefusesScript ls NoMemory = Unit {0}
RefusesScript ls (Line n) = IsFirstRefused ls n

-- why an input could not be read: at TooLong more bytes than may be were read, by what one read
-- brought, at NotText all were read and are no text
abbrev pub RefusesInput : Option (List ℕ) → Option (List ℕ) → ReadFault → Type 0
RefusesInput old new NoMemoryToRead =
    (bytes : List ℕ) × Consumes old new bytes × (length bytes ≤ MOST_BYTES)
RefusesInput old new Input = (bytes : List ℕ) × Consumes old new bytes × (length bytes ≤ MOST_BYTES)
RefusesInput old new TooLong = (bytes : List ℕ) × Consumes old new bytes
    × (MOST_BYTES < length bytes) × (length bytes ≤ MOST_BYTES + most_at_once)
RefusesInput old new NotText = (bytes : List ℕ) × ReadsAll old new bytes × (IsUtf8 bytes → ⊥)
