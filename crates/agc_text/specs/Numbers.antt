-- Numbers, their ranges and their digits.
use Rattle.std.specs.Prelude.{ℕ, zero, suc, ◌+◌, ◌/◌, ◌%◌, ◌<◌, List, [], ◌∷◌, ◌++◌}

-- a number in this many octal digits, with leading zeros
abbrev pub octal : ℕ → ℕ → List ℕ
octal zero n = []
octal (suc k) n = octal k (n / 8) ++ (48 + n % 8) ∷ []

-- a word
abbrev pub IsWord : ℕ → Type 0
IsWord w = w < 32768
