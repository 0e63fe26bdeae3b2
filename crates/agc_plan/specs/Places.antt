-- Placement, which core set holds which job: an entry for each set, a job's number or 0.
use Rattle.std.specs.Prelude.{ℕ, suc, ◌==◌, if◌then◌else◌, List, [], ◌∷◌, Option, Some, None}
use Rattle.std.specs.Prelude.{slice_set, swap}

-- the first entry of this number
abbrev pub place_of : ℕ → List ℕ → ℕ
place_of number [] = 0
place_of number (entry ∷ entries) = if entry == number then 0 else suc (place_of number entries)

-- a new job's number goes to the first entry 0
abbrev pub with_new : ℕ → List ℕ → List ℕ
with_new number entries = slice_set entries (place_of 0 entries) number

-- a removed job's entry becomes 0
abbrev pub without : ℕ → List ℕ → List ℕ
without number entries = slice_set entries (place_of number entries) 0

-- the running job's entry is exchanged with the first
abbrev pub fronted : Option ℕ → List ℕ → List ℕ
fronted None entries = entries
fronted (Some number) entries = swap entries 0 (place_of number entries)

-- after a new job, if there is one, and with this one running
abbrev pub placed_new : Option ℕ → Option ℕ → List ℕ → List ℕ
placed_new None running entries = entries
placed_new (Some number) running entries = fronted running (with_new number entries)

-- after the job that ran, if one did, was removed, and with this one running
abbrev pub placed_end : Option ℕ → Option ℕ → List ℕ → List ℕ
placed_end None running entries = entries
placed_end (Some number) running entries = fronted running (without number entries)
