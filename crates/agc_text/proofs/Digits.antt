-- Digits, the last one apart.
use Rattle.std.proofs.Common.{◌≡◌, ℕ, ◌+◌, ◌/◌, ◌%◌, ◌^◌, ◌<◌, ◌≤◌, List, [], ◌∷◌, ◌++◌, length, length-append, append_assoc, sym, ap, ◌∙◌, arith}
use Rattle.std.specs.Fmt.{decimal}
use Rattle.std.proofs.lemmas.Fmt.{decimal_digit, decimal_step, length-decimal-le}

pub decimal_short : (n : ℕ) → n < 2 ^ 64 → length (decimal n) ≤ 20
decimal_short n h = length-decimal-le 20 n (omega arith) (omega arith) h

-- one digit, after none
pub decimal_one : (n : ℕ) → n < 10 → decimal n ≡ (48 + n % 10) ∷ []
decimal_one n h = let e : n % 10 ≡ n = omega arith in rw e (decimal_digit n h)

pub length_one : (n : ℕ) → n < 10 → length (decimal n) ≡ 1
length_one n h = ap length (decimal_digit n h)

pub length_more : (n : ℕ) → 10 ≤ n → n < 2 ^ 64 → length (decimal n) ≡ length (decimal (n / 10)) + 1
length_more n l h = ap length (decimal_step n l h) ∙ length-append (decimal (n / 10)) ((48 + n % 10) ∷ [])

-- the digit after those of the rest
pub after_rest : (line next last : List ℕ) (n : ℕ) → 10 ≤ n → n < 2 ^ 64 → next ≡ line ++ decimal (n / 10) → last ≡ next ++ (48 + n % 10) ∷ [] → last ≡ line ++ decimal n
after_rest line next last n l h e f =
    f ∙ ap (λ (s : List ℕ). s ++ (48 + n % 10) ∷ []) e ∙ append_assoc line (decimal (n / 10)) ((48 + n % 10) ∷ []) ∙ ap (λ (s : List ℕ). line ++ s) (sym (decimal_step n l h))

-- a line of a word and a digit
pub numbered : (word : List ℕ) (n number : ℕ) → n < 10 → n ≡ number → word ++ ((48 + n) ∷ []) ++ 10 ∷ [] ≡ word ++ decimal number ++ 10 ∷ []
numbered word n number small is = ap (λ (t : List ℕ). word ++ t ++ 10 ∷ []) (sym (decimal_digit n small) ∙ ap decimal is)
