-- Helpers of proofs: where a code is recorded.
use Rattle.std.specs.Prelude.{ℕ, ◌+◌, ◌==◌, if◌then◌else◌, List}
use Rattle.agc_word.specs.Layout.{failreg}
use Rattle.agc_phase.specs.Image.{failreg_word}

-- the first of the first two places of FAILREG that is 00000, else the third
abbrev pub free_place : List ℕ → ℕ
free_place words =
    if failreg_word words 0 == 0 then failreg
    else if failreg_word words 1 == 0 then failreg + 1 else failreg + 2
