-- Numbers that stand one for each line.
use Rattle.std.specs.Prelude.{ℕ, ◌+◌, List, [], ◌∷◌, slice_index, slice_set}
use Rattle.agc_plan.specs.declared.line.Line.{Line}
use Rattle.agc_plan.specs.Pulses.{word_of}

-- the number of a line
abbrev pub on : Line → List ℕ → ℕ
on line counts = slice_index counts (word_of line)

abbrev pub zeros : List ℕ
zeros = 0 ∷ 0 ∷ 0 ∷ []

-- the number at place i is greater by n
abbrev pub raised : ℕ → ℕ → List ℕ → List ℕ
raised i n counts = slice_set counts i (slice_index counts i + n)

-- the sums, place by place
abbrev pub added : List ℕ → List ℕ → List ℕ
added [] ys = ys
added (x ∷ xs) [] = x ∷ xs
added (x ∷ xs) (y ∷ ys) = (x + y) ∷ added xs ys
