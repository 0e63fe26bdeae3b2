-- Reading an input to its end.
use Rattle.std.specs.Prelude.{◌≤◌, List, ℕ, Option, length}
use Rattle.std.specs.Io.KnownBytes.{Consumes, IsAtEnd}
use Rattle.agc_text.specs.declared.input.TheConstants.{MOST_BYTES}

-- how many bytes one read may bring
abbrev pub most_at_once : ℕ
most_at_once = 4096

-- all that was left was read, and these bytes are all of it
pub record ReadsAll (old new : Option (List ℕ)) (bytes : List ℕ) : Type 0 where
  pub read : Consumes old new bytes
  pub end : IsAtEnd new
  pub fits : length bytes ≤ MOST_BYTES
