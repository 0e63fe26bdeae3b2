-- The lines of what became of pulses.
use Rattle.std.specs.Prelude.{ℕ, List, [], ◌∷◌, ◌++◌, codes, slice_index}
use Rattle.agc_text.specs.Report.{count_text}

-- a line of three counts: the timer's, the keyboard's and the radar's
unfoldable pub counts_line : List ℕ → List ℕ → List ℕ
counts_line name counts =
    name ++ count_text (slice_index counts 0) ++ count_text (slice_index counts 1)
    ++ count_text (slice_index counts 2) ++ 10 ∷ []

-- how many pulses were posted, how many of these were applied, and how many are owed
abbrev pub pulses_text : List ℕ → List ℕ → List ℕ → List ℕ
pulses_text posted applied owed =
    counts_line (codes "POSTED") posted
    ++ (counts_line (codes "APPLIED") applied ++ counts_line (codes "OWED") owed)
