-- The findings of a script.
use Rattle.std.specs.Prelude.{ℕ, List, [], ◌∷◌}
use Rattle.std.specs.List.{AllByRecursion}
use Rattle.agc_text.specs.Script.{IsLine, IsFirstRefused}

-- by the numbers of the lines that are found: none where each line is a request; else the first is
-- the first line that is none
abbrev pub AreLineFindings : List (List ℕ) → List ℕ → Type 0
AreLineFindings lines [] = AllByRecursion IsLine lines
AreLineFindings lines (n ∷ ns) = IsFirstRefused lines n
