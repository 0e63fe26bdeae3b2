-- Helpers of proofs: the places that the steps of a call leave as they were.
use Rattle.std.specs.Prelude.{◌⊎◌, ℕ, ◌<◌, ◌≤◌}
use Rattle.agc_word.specs.Layout.{use_words, time3, last_set}

-- a place of no core set
abbrev pub OutsideSets : ℕ → Type 0
OutsideSets place = (use_words ≤ place) × (place < last_set)

-- a place of a core set, a use word or NEWJOB
abbrev pub InsideCores : ℕ → Type 0
InsideCores place = (place < time3) ⊎ (last_set ≤ place)
