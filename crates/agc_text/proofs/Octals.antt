-- Octal digits.
use Rattle.std.proofs.Common.{◌≡◌, ◌≢◌, ℕ, ◌+◌, ◌*◌, ◌/◌, ◌%◌, ◌<◌, List, [], ◌∷◌, Option, Some, None, refl, sym, ap, arith}
use Rattle.std.proofs.lemmas.Grind.{common_steps}
use Rattle.agc_text.specs.Chain.{◌>>=◌}
use Rattle.agc_text.specs.Numbers.{octal}
use Rattle.agc_text.specs.Reading.{digit_of, octal_one_of, octal_pair_of, octal_five_of}
use Rattle.agc_text.proofs.Cuts.{Lacks}

digit_again : (d : ℕ) → d < 8 → digit_of (48 + d) ≡ Some d
digit_again d h = grind (arith, common_steps)

digit_takes : (c d : ℕ) → digit_of c ≡ Some d → (c ≡ 48 + d) × (d < 8)
digit_takes c d e = grind (arith, common_steps)

pub bind_some : {A B : Type 0} (m : Option A) (f : A → Option B) (y : B) → (m >>= f) ≡ Some y → (x : A) × (m ≡ Some x) × (f x ≡ Some y)
bind_some None f y e = absurd cc
bind_some (Some x) f y e = (x, refl, e)

parts : (a b c d f : Option ℕ) → (a >>= λ x. b >>= λ y. c >>= λ z. d >>= λ u. f >>= λ v. Some (8 * (8 * (8 * (8 * (8 * 0 + x) + y) + z) + u) + v)) ≡ (a >>= λ x. (b >>= λ y. c >>= λ z. Some (8 * (8 * 0 + y) + z)) >>= λ m. (d >>= λ u. f >>= λ v. Some (8 * (8 * 0 + u) + v)) >>= λ n. Some (64 * (64 * x + m) + n))
parts None b c d f = refl
parts (Some x) None c d f = refl
parts (Some x) (Some y) None d f = refl
parts (Some x) (Some y) (Some z) None f = refl
parts (Some x) (Some y) (Some z) (Some u) None = refl
parts (Some x) (Some y) (Some z) (Some u) (Some v) = ap Some (omega arith)

-- five digits are one and two pairs
pub five_in_parts : (a b c d f : ℕ) → octal_five_of (a ∷ b ∷ c ∷ d ∷ f ∷ []) ≡ (digit_of a >>= λ x. octal_pair_of (b ∷ c ∷ []) >>= λ m. octal_pair_of (d ∷ f ∷ []) >>= λ n. Some (64 * (64 * x + m) + n))
five_in_parts a b c d f = parts (digit_of a) (digit_of b) (digit_of c) (digit_of d) (digit_of f)

rem_small : (n : ℕ) → n % 8 < 8
rem_small n = omega arith

pub one_again : (n : ℕ) → n < 8 → octal_one_of (octal 1 n) ≡ Some n
one_again n h = rw (digit_again (n % 8) (rem_small _)) (ap Some (omega arith))

pub pair_again : (n : ℕ) → n < 64 → octal_pair_of (octal 2 n) ≡ Some n
pair_again n h = rw (digit_again (n / 8 % 8) (rem_small _), digit_again (n % 8) (rem_small _)) (ap Some (omega arith))

pub five_again : (n : ℕ) → n < 32768 → octal_five_of (octal 5 n) ≡ Some n
five_again n h = rw (digit_again (n / 8 / 8 / 8 / 8 % 8) (rem_small _), digit_again (n / 8 / 8 / 8 % 8) (rem_small _), digit_again (n / 8 / 8 % 8) (rem_small _), digit_again (n / 8 % 8) (rem_small _), digit_again (n % 8) (rem_small _)) (ap Some (omega arith))

-- the digits of a number made of digits
pub pair_digits : (a b n : ℕ) → a < 8 → b < 8 → 8 * a + b ≡ n → octal 2 n ≡ (48 + a) ∷ (48 + b) ∷ []
pair_digits a b n p q e =
    let x : n / 8 % 8 ≡ a = omega arith in
    let y : n % 8 ≡ b = omega arith in
    rw (x, y) refl

pub five_digits : (a b c d f n : ℕ) → a < 8 → b < 8 → c < 8 → d < 8 → f < 8 → 8 * (8 * (8 * (8 * a + b) + c) + d) + f ≡ n → octal 5 n ≡ (48 + a) ∷ (48 + b) ∷ (48 + c) ∷ (48 + d) ∷ (48 + f) ∷ []
five_digits a b c d f n p q r s t e =
    let x0 : n / 8 ≡ 8 * (8 * (8 * a + b) + c) + d = omega arith in
    let x1 : n / 8 / 8 ≡ 8 * (8 * a + b) + c = omega arith in
    let x2 : n / 8 / 8 / 8 ≡ 8 * a + b = omega arith in
    let x3 : n / 8 / 8 / 8 / 8 ≡ a = omega arith in
    let y0 : n / 8 / 8 / 8 / 8 % 8 ≡ a = omega arith in
    let y1 : n / 8 / 8 / 8 % 8 ≡ b = omega arith in
    let y2 : n / 8 / 8 % 8 ≡ c = omega arith in
    let y3 : n / 8 % 8 ≡ d = omega arith in
    let y4 : n % 8 ≡ f = omega arith in
    rw (y0, y1, y2, y3, y4) refl

pair_of_digits : (c d a b n : ℕ) → c ≡ 48 + a → d ≡ 48 + b → a < 8 → b < 8 → 8 * (8 * 0 + a) + b ≡ n → (c ∷ d ∷ [] ≡ octal 2 n) × (n < 64)
pair_of_digits c d a b n x y p q e = (rw (x, y) (sym (pair_digits a b n p q (omega arith))), omega arith)

five_of_digits : (c0 c1 c2 c3 c4 a b c d f n : ℕ) → c0 ≡ 48 + a → c1 ≡ 48 + b → c2 ≡ 48 + c → c3 ≡ 48 + d → c4 ≡ 48 + f → a < 8 → b < 8 → c < 8 → d < 8 → f < 8 → 8 * (8 * (8 * (8 * (8 * 0 + a) + b) + c) + d) + f ≡ n → (c0 ∷ c1 ∷ c2 ∷ c3 ∷ c4 ∷ [] ≡ octal 5 n) × (n < 32768)
five_of_digits c0 c1 c2 c3 c4 a b c d f n x0 x1 x2 x3 x4 p q r s t e = (rw (x0, x1, x2, x3, x4) (sym (five_digits a b c d f n p q r s t (omega arith))), omega arith)

pub one_takes : (s : List ℕ) (n : ℕ) → octal_one_of s ≡ Some n → (s ≡ octal 1 n) × (n < 8)
one_takes [] n e = absurd cc
one_takes (a ∷ []) n e =
    let h = digit_takes a n e in
    let small : n % 8 ≡ n = omega arith in
    (rw (small, h.0) refl, h.1)
one_takes (a ∷ b ∷ cs) n e = absurd cc

pub pair_takes : (s : List ℕ) (n : ℕ) → octal_pair_of s ≡ Some n → (s ≡ octal 2 n) × (n < 64)
pair_takes [] n e = absurd cc
pair_takes (a ∷ []) n e = absurd cc
pair_takes (a ∷ b ∷ []) n e =
    let x = bind_some (digit_of a) (λ d. digit_of b >>= λ d'. Some (8 * (8 * 0 + d) + d')) n e in
    let y = bind_some (digit_of b) (λ d'. Some (8 * (8 * 0 + x.0) + d')) n x.2 in
    let p = digit_takes a x.0 x.1 in
    let q = digit_takes b y.0 y.1 in
    let v : 8 * (8 * 0 + x.0) + y.0 ≡ n = cc in
    pair_of_digits a b x.0 y.0 n p.0 q.0 p.1 q.1 v
pair_takes (a ∷ b ∷ c ∷ cs) n e = absurd cc

pub five_takes : (s : List ℕ) (n : ℕ) → octal_five_of s ≡ Some n → (s ≡ octal 5 n) × (n < 32768)
five_takes [] n e = absurd cc
five_takes (a ∷ []) n e = absurd cc
five_takes (a ∷ b ∷ []) n e = absurd cc
five_takes (a ∷ b ∷ c ∷ []) n e = absurd cc
five_takes (a ∷ b ∷ c ∷ d ∷ []) n e = absurd cc
five_takes (a ∷ b ∷ c ∷ d ∷ f ∷ []) n e =
    let x0 = bind_some (digit_of a) _ n e in
    let x1 = bind_some (digit_of b) _ n x0.2 in
    let x2 = bind_some (digit_of c) _ n x1.2 in
    let x3 = bind_some (digit_of d) _ n x2.2 in
    let x4 = bind_some (digit_of f) (λ z. Some (8 * (8 * (8 * (8 * (8 * 0 + x0.0) + x1.0) + x2.0) + x3.0) + z)) n x3.2 in
    let p0 = digit_takes a x0.0 x0.1 in
    let p1 = digit_takes b x1.0 x1.1 in
    let p2 = digit_takes c x2.0 x2.1 in
    let p3 = digit_takes d x3.0 x3.1 in
    let p4 = digit_takes f x4.0 x4.1 in
    let v : 8 * (8 * (8 * (8 * (8 * 0 + x0.0) + x1.0) + x2.0) + x3.0) + x4.0 ≡ n = cc in
    five_of_digits a b c d f x0.0 x1.0 x2.0 x3.0 x4.0 n p0.0 p1.0 p2.0 p3.0 p4.0 p0.1 p1.1 p2.1 p3.1 p4.1 v
five_takes (a ∷ b ∷ c ∷ d ∷ f ∷ g ∷ gs) n e = absurd cc

digit_is_no_space : (d : ℕ) → 48 + d ≢ 32
digit_is_no_space d e = omega arith

pub one_lacks : (n : ℕ) → Lacks 32 (octal 1 n)
one_lacks n = (digit_is_no_space _, tt)

pub pair_lacks : (n : ℕ) → Lacks 32 (octal 2 n)
pair_lacks n = (digit_is_no_space _, (digit_is_no_space _, tt))

pub five_lacks : (n : ℕ) → Lacks 32 (octal 5 n)
five_lacks n = (digit_is_no_space _, (digit_is_no_space _, (digit_is_no_space _, (digit_is_no_space _, (digit_is_no_space _, tt)))))
