-- A script, which is a text of lines.
use Rattle.std.specs.Prelude.{◌≡◌, ℕ, zero, suc, List, [], ◌∷◌, ◌==◌, if◌then◌else◌}
use Rattle.agc_plan.specs.declared.request.Request.{Request}
use Rattle.agc_plan.specs.Ranges.{IsRequest}
use Rattle.agc_text.specs.Lines.{line_of}

-- the byte, at the front of the first line
abbrev pub put : ℕ → List (List ℕ) → List (List ℕ)
put c [] = (c ∷ []) ∷ []
put c (l ∷ ls) = (c ∷ l) ∷ ls

-- the lines of a text, each ended by LF, which the last may lack
abbrev pub lines_of : List ℕ → List (List ℕ)
lines_of [] = []
lines_of (c ∷ cs) = if c == 10 then [] ∷ lines_of cs else put c (lines_of cs)

-- some request has this line
abbrev pub IsLine : List ℕ → Type 0
IsLine l = (r : Request) × IsRequest r × (l ≡ line_of r)

-- the line with this number, from 1, is the first that is no request
abbrev pub IsFirstRefused : List (List ℕ) → ℕ → Type 0
IsFirstRefused [] n = ⊥
IsFirstRefused (l ∷ ls) zero = ⊥
IsFirstRefused (l ∷ ls) (suc zero) = IsLine l → ⊥
IsFirstRefused (l ∷ ls) (suc (suc n)) = IsLine l × IsFirstRefused ls (suc n)
