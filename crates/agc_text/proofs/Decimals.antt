-- Decimal numbers without leading zeros.
use Rattle.std.proofs.Common.{◌≡◌, ◌≢◌, ℕ, zero, suc, ◌<◌, ◌≤◌, ◌^◌, Bool, true, false, cond, List, length, get_or, Option, Some, None, Result, Ok, Err, refl, sym, ap, subst, ◌∙◌, arith, rules, ◌&&◌}
use Rattle.std.specs.Prelude.{nat_lt}
use Rattle.std.specs.Fmt.{decimal}
use Rattle.std.specs.Str.{bytes_eq}
use Rattle.std.specs.Result.{result_ok, OkIff}
use Rattle.std.specs.Str.Parse.{AllDigits, digits_value, ParsesUnsigned}
use Rattle.std.proofs.lemmas.Slice.Eq.{bytes_eq-Decides}
use Rattle.std.proofs.lemmas.Str.Parse.{IsNumeralModel, numerals_by_value, tells_digits, parse_plain, not_in_digits}
use Rattle.std.proofs.lemmas.Fmt.{decimal_digit, first_decimal, decimal_nonempty, digits_decimal, digits_value-decimal, decimal-digits_value}
use Rattle.agc_text.specs.Numbers.{decimal_of}
use Rattle.agc_text.proofs.Cuts.{Lacks, lacks_by_index}

own : IsNumeralModel (AllDigits 10) (digits_value 10)
own = numerals_by_value (AllDigits 10) tells_digits

-- what spells a number is read as that number
pub decimal_again : (s : List ℕ) (n : ℕ) → n < 2 ^ 16 → s ≡ decimal n → decimal_of s ≡ Some n
unfolding decimal_of
decimal_again s n small e =
    let v : digits_value 10 s ≡ n = ap (digits_value 10) e ∙ digits_value-decimal own n (omega arith) in
    let same : bytes_eq s (decimal (digits_value 10 s)) ≡ true = (bytes_eq-Decides s (decimal (digits_value 10 s))).1 (e ∙ ap decimal (sym v)) in
    let less : nat_lt (digits_value 10 s) (2 ^ 16) ≡ true = rw v (search rules) in
    rw (same, less) (ap Some v)

-- what is read spells the number
pub decimal_takes : (s : List ℕ) (n : ℕ) → decimal_of s ≡ Some n → (s ≡ decimal n) × (n < 2 ^ 16)
unfolding decimal_of
decimal_takes s n e = by_tests (bytes_eq s (decimal (digits_value 10 s))) (nat_lt (digits_value 10 s) (2 ^ 16)) refl refl e where
  by_tests : (b d : Bool) → bytes_eq s (decimal (digits_value 10 s)) ≡ b → nat_lt (digits_value 10 s) (2 ^ 16) ≡ d → cond (b && d) (Some (digits_value 10 s)) None ≡ Some n → (s ≡ decimal n) × (n < 2 ^ 16)
  by_tests true true p q e = let v : digits_value 10 s ≡ n = cc in let l : digits_value 10 s < 2 ^ 16 = search rules in ((bytes_eq-Decides s (decimal (digits_value 10 s))).0 p ∙ ap decimal v, omega arith)
  by_tests true false p q e = absurd cc
  by_tests false d p q e = absurd cc

-- what spells no number is not read
decimal_none : (s : List ℕ) → ((n : ℕ) → n < 2 ^ 16 → s ≡ decimal n → ⊥) → decimal_of s ≡ None
decimal_none s never = by_cases (decimal_of s) refl where
  by_cases : (r : Option ℕ) → decimal_of s ≡ r → r ≡ None
  by_cases None e = refl
  by_cases (Some n) e = let h = decimal_takes s n e in absurd (never n h.1 h.0)

pub none_at_plus : (s : List ℕ) → get_or s 0 0 ≡ 43 → None ≡ decimal_of s
none_at_plus s plus = sym (decimal_none s (λ n l e.
    let ds : AllDigits 10 s = subst (AllDigits 10) (sym e) (digits_decimal own n (omega arith)) in
    let long : 0 < length s = subst (λ (x : List ℕ). 0 < length x) (sym e) (decimal_nonempty n (omega arith)) in
    not_in_digits own s 43 ds (λ h. omega (arith, h.0)) 0 long plus))

pub none_at_zero : (s : List ℕ) → get_or s 0 0 ≡ 48 → 1 < length s → None ≡ decimal_of s
none_at_zero s first long = sym (decimal_none s (λ n l e. by_number n l e)) where
  by_number : (n : ℕ) → n < 2 ^ 16 → s ≡ decimal n → ⊥
  by_number zero l e = let k : length s ≡ 1 = ap length (e ∙ decimal_digit 0 (omega arith)) in omega arith
  by_number (suc n) l e = let k : 48 < get_or s 0 0 = subst (λ (x : List ℕ). 48 < get_or x 0 0) (sym e) (first_decimal (suc n) (omega arith) (omega arith)) in omega arith

pub parsed_is : {E : Type 0} → (s : List ℕ) (r : Result ℕ E) → ParsesUnsigned 16 10 s r → get_or s 0 0 ≢ 43 → (get_or s 0 0 ≡ 48 → length s ≤ 1) → result_ok r ≡ decimal_of s
parsed_is {E = E} s r h no_plus no_zero = by_result r (parse_plain own 16 s r h no_plus) where
  by_result : (q : Result ℕ E) → OkIff q (AllDigits 10 s × (0 < length s) × (digits_value 10 s < 2 ^ 16)) (digits_value 10 s) → result_ok q ≡ decimal_of s
  by_result (Ok x) g = sym (decimal_again s x (rw g.1 g.0.2) (sym (rw g.1 (decimal-digits_value own s g.0.0 g.0.1 (λ z. let m = no_zero z in omega (arith, g.0.1)) (omega (arith, g.0.2))))))
  by_result (Err e) g = sym (decimal_none s (λ n l e. g (subst (AllDigits 10) (sym e) (digits_decimal own n (omega arith)), subst (λ (x : List ℕ). 0 < length x) (sym e) (decimal_nonempty n (omega arith)), rw (ap (digits_value 10) e ∙ digits_value-decimal own n (omega arith)) l)))

pub decimal_lacks : (n : ℕ) → n < 2 ^ 16 → Lacks 32 (decimal n)
decimal_lacks n h = lacks_by_index 32 (decimal n) (λ i l. not_in_digits own (decimal n) 32 (digits_decimal own n (omega arith)) (λ h. omega (arith, h.0)) i l)
