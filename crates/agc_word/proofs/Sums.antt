-- Laws of values, complements and sums of words.
use Rattle.std.proofs.Common.{◌≡◌, ℕ, ℤ, pos, neg_ℤ, ◌+◌, ◌<◌, ◌≤◌, ◌+ℤ◌, ◌-ℤ◌, ◌≤ℤ◌, ◌<ℤ◌, ◌⊎◌, true, w32, to_z, of_z, refl, ◌∙◌, ap, subst, arith, inl, inr}
use lib.IntN.{nat_abs}
use Rattle.std.specs.Int.Signed.{le_z, le_z_yes}
use Rattle.std.proofs.lemmas.Float.{T_from_true}
use Rattle.std.proofs.lemmas.Bool.{cases_lt}
use Rattle.std.proofs.lemmas.Int.{ints}
use Rattle.agc_word.specs.Words.{value_of, complement, sum_of, carried_round}

-- a word whose first bit is clear has its bits as its value
pub value_of-low : (bits : ℕ) → bits < 16384 → value_of bits ≡ pos bits
value_of-low bits h = grind (arith, ints)

-- a word whose first bit is set has its bits less 32767
pub value_of-high : (bits : ℕ) → 16384 ≤ bits → value_of bits ≡ pos bits -ℤ pos 32767
value_of-high bits h = grind (arith, ints)

-- the complement has the negative value
pub value_of-complement : (bits : ℕ) → bits < 32768 → value_of (complement bits) ≡ neg_ℤ (value_of bits)
value_of-complement bits h = grind (arith, ints)

-- where the exact sum is above the range
pub sum_of-above : (a b r : ℕ) (x y : ℤ) → x ≡ value_of a → y ≡ value_of b → pos 16384 ≤ℤ (x +ℤ y) → pos r ≡ x +ℤ y -ℤ pos 16384 → (r, true) ≡ sum_of a b
sum_of-above a b r x y p q h e = grind (arith, ints)

-- where the exact sum is below the range
pub sum_of-below : (a b r : ℕ) (x y : ℤ) → x ≡ value_of a → y ≡ value_of b → (x +ℤ y) ≤ℤ neg_ℤ (pos 16384) → pos r ≡ neg_ℤ (x +ℤ y) -ℤ pos 16384 → (complement r, true) ≡ sum_of a b
sum_of-below a b r x y p q h e = grind (arith, ints)

-- a value is one or the other
value_cases : (a : ℕ) (x : ℤ) → x ≡ value_of a → ((a < 16384) × (x ≡ pos a)) ⊎ ((16384 ≤ a) × (x ≡ pos a -ℤ pos 32767))
value_cases a x e =
    elim (cases_lt a 16384) [
      | inl h ↦ inl (h, e ∙ value_of-low a h)
      | inr h ↦ inr (h, e ∙ value_of-high a h)
    ]

-- the carry brought round, by the first bits of both words
carried-both_low : (a b : ℕ) (x y : ℤ) → x ≡ pos a → y ≡ pos b → (x +ℤ y) <ℤ pos 16384 → value_of (carried_round (a + b)) ≡ x +ℤ y
carried-both_low a b x y p q high = grind (arith, ints)

carried-high_low : (a b : ℕ) (x y : ℤ) → 16384 ≤ a → a < 32768 → b < 16384 → x ≡ pos a -ℤ pos 32767 → y ≡ pos b → value_of (carried_round (a + b)) ≡ x +ℤ y
carried-high_low a b x y h k l p q = grind (arith, ints)

carried-low_high : (a b : ℕ) (x y : ℤ) → a < 16384 → 16384 ≤ b → b < 32768 → x ≡ pos a → y ≡ pos b -ℤ pos 32767 → value_of (carried_round (a + b)) ≡ x +ℤ y
carried-low_high a b x y h k l p q = grind (arith, ints)

carried-both_high : (a b : ℕ) (x y : ℤ) → a < 32768 → b < 32768 → x ≡ pos a -ℤ pos 32767 → y ≡ pos b -ℤ pos 32767 → neg_ℤ (pos 16384) <ℤ (x +ℤ y) → value_of (carried_round (a + b)) ≡ x +ℤ y
carried-both_high a b x y h k p q low = grind (arith, ints)

-- within the range the carry brought round keeps the exact sum
pub value_of-carried_round : (a b : ℕ) (x y : ℤ) → a < 32768 → b < 32768 → x ≡ value_of a → y ≡ value_of b → (x +ℤ y) <ℤ pos 16384 → neg_ℤ (pos 16384) <ℤ (x +ℤ y) → value_of (carried_round (a + b)) ≡ x +ℤ y
value_of-carried_round a b x y h k p q high low =
    elim (value_cases a x p) [
      | inl (m, s) ↦ elim (value_cases b y q) [
        | inl (n, t) ↦ carried-both_low a b x y s t high
        | inr (n, t) ↦ carried-low_high a b x y m n k s t
      ]
      | inr (m, s) ↦ elim (value_cases b y q) [
        | inl (n, t) ↦ carried-high_low a b x y m h n s t
        | inr (n, t) ↦ carried-both_high a b x y h k s t low
      ]
    ]

-- where the exact sum is below the range, the complement of what is left has its value and 16384
pub value_of-below : (a b m r : ℕ) (x y : ℤ) → x ≡ value_of a → y ≡ value_of b → neg_ℤ (pos 32766) ≤ℤ (x +ℤ y) → m ≡ complement r → pos r ≡ neg_ℤ (x +ℤ y) -ℤ pos 16384 → value_of m ≡ value_of a +ℤ value_of b +ℤ pos 16384
value_of-below a b m r x y p q low e f =
    let bound : r < 32768 = omega (arith, ints) in
    let turned : neg_ℤ (pos r) ≡ x +ℤ y +ℤ pos 16384 = omega (arith, ints) in
    let small : value_of r ≡ pos r = value_of-low r (omega (arith, ints)) in
    ap value_of e ∙ value_of-complement r bound ∙ ap neg_ℤ small ∙ turned ∙ ap (λ z. z +ℤ y +ℤ pos 16384) p ∙ ap (λ z. value_of a +ℤ z +ℤ pos 16384) q

-- where the exact sum is within the range, the value of the answer is that sum
pub value_of-within : (a b m : ℕ) (x y : ℤ) → a < 32768 → b < 32768 → x ≡ value_of a → y ≡ value_of b → (x +ℤ y) <ℤ pos 16384 → neg_ℤ (pos 16384) <ℤ (x +ℤ y) → m ≡ carried_round (a + b) → value_of m ≡ value_of a +ℤ value_of b
value_of-within a b m x y h k p q high low e =
    ap value_of e ∙ value_of-carried_round a b x y h k p q high low ∙ ap (λ z. z +ℤ y) p ∙ ap (λ z. value_of a +ℤ z) q

-- the sum of two values, as the code computes it
abbrev pub computed : ℤ → ℤ → ℤ
computed x y = to_z w32 (of_z w32 (to_z w32 (of_z w32 x) +ℤ to_z w32 (of_z w32 y)))

-- what is left of a sum above the range
abbrev pub left_above : ℤ → ℤ → ℕ
left_above x y = nat_abs (to_z w32 (of_z w32 (computed x y -ℤ pos 16384)))

-- what is left of a sum below the range
abbrev pub left_below : ℤ → ℤ → ℕ
left_below x y = nat_abs (to_z w32 (of_z w32 (to_z w32 (of_z w32 (pos 0 -ℤ computed x y)) -ℤ pos 16384)))

-- a value of a word
abbrev pub IsValue : ℤ → Type 0
IsValue x = (neg_ℤ (pos 16383) ≤ℤ x) × (x ≤ℤ pos 16383)

pub computed_is : (x y : ℤ) → IsValue x → IsValue y → computed x y ≡ x +ℤ y
computed_is x y p q = grind (arith, ints)

above_is : (s z : ℤ) (n : ℕ) → pos 16384 ≤ℤ s → s ≤ℤ pos 32766 → z ≡ s → n ≡ nat_abs (to_z w32 (of_z w32 (z -ℤ pos 16384))) → pos n ≡ s -ℤ pos 16384
above_is s z n low high e is = grind (arith, ints)

below_is : (s z : ℤ) (n : ℕ) → s ≤ℤ neg_ℤ (pos 16384) → neg_ℤ (pos 32766) ≤ℤ s → z ≡ s → n ≡ nat_abs (to_z w32 (of_z w32 (to_z w32 (of_z w32 (pos 0 -ℤ z)) -ℤ pos 16384))) → pos n ≡ neg_ℤ s -ℤ pos 16384
below_is s z n high low e is = grind (arith, ints)

apart : (s : ℤ) → pos 16384 ≤ℤ s → s ≤ℤ neg_ℤ (pos 16384) → ⊥
apart s high low = omega (arith, ints)

-- the values of two words, in place of what they are
of_words : (P : ℤ → Type 0) (a b : ℕ) (x y : ℤ) → x ≡ value_of a → y ≡ value_of b → P (x +ℤ y) → P (value_of a +ℤ value_of b)
of_words P a b x y p q holds = subst (λ z. P (value_of a +ℤ z)) q (subst (λ z. P (z +ℤ y)) p holds)

-- what is left of a sum above the range
pub record Above (a b r : ℕ) : Type 0 where
  pub sum : (r, true) ≡ sum_of a b
  pub value : value_of r ≡ value_of a +ℤ value_of b -ℤ pos 16384
  pub range : r < 32768
  pub not_below : (value_of a +ℤ value_of b) ≤ℤ neg_ℤ (pos 16384) → ⊥

pub above : (a b : ℕ) (x y : ℤ) → x ≡ value_of a → y ≡ value_of b → IsValue x → IsValue y → le_z (pos 16384) (computed x y) ≡ true → Above a b (left_above x y)
above a b x y p q of_x of_y over =
    let e : computed x y ≡ x +ℤ y = computed_is x y of_x of_y in
    let low : pos 16384 ≤ℤ (x +ℤ y) = subst (λ z. pos 16384 ≤ℤ z) e (le_z_yes (T_from_true (le_z (pos 16384) (computed x y)) over)) in
    let high : (x +ℤ y) ≤ℤ pos 32766 = omega (arith, ints, of_x, of_y) in
    let left : pos (left_above x y) ≡ x +ℤ y -ℤ pos 16384 = above_is (x +ℤ y) (computed x y) (left_above x y) low high e refl in
    let small : left_above x y < 16384 = below_half (x +ℤ y) (left_above x y) high left in
    record {
      sum = sum_of-above a b (left_above x y) x y p q low left;
      value = value_of-low (left_above x y) small ∙ left ∙ of_words (λ s. x +ℤ y -ℤ pos 16384 ≡ s -ℤ pos 16384) a b x y p q refl;
      range = omega (arith, small);
      not_below = apart (value_of a +ℤ value_of b) (of_words (λ s. pos 16384 ≤ℤ s) a b x y p q low);
    }
  where
    below_half : (s : ℤ) (n : ℕ) → s ≤ℤ pos 32766 → pos n ≡ s -ℤ pos 16384 → n < 16384
    below_half s n high is = omega (arith, ints)

-- the complement of what is left of a sum below the range
pub record Below (a b m r : ℕ) : Type 0 where
  pub sum : (m, true) ≡ sum_of a b
  pub value : value_of m ≡ value_of a +ℤ value_of b +ℤ pos 16384
  pub not_above : pos 16384 ≤ℤ (value_of a +ℤ value_of b) → ⊥

pub below : (a b m : ℕ) (x y : ℤ) → x ≡ value_of a → y ≡ value_of b → IsValue x → IsValue y → le_z (computed x y) (neg_ℤ (pos 16384)) ≡ true → m ≡ complement (left_below x y) → Below a b m (left_below x y)
below a b m x y p q of_x of_y under turned =
    let e : computed x y ≡ x +ℤ y = computed_is x y of_x of_y in
    let high : (x +ℤ y) ≤ℤ neg_ℤ (pos 16384) = subst (λ z. z ≤ℤ neg_ℤ (pos 16384)) e (le_z_yes (T_from_true (le_z (computed x y) (neg_ℤ (pos 16384))) under)) in
    let low : neg_ℤ (pos 32766) ≤ℤ (x +ℤ y) = omega (arith, ints, of_x, of_y) in
    let left : pos (left_below x y) ≡ neg_ℤ (x +ℤ y) -ℤ pos 16384 = below_is (x +ℤ y) (computed x y) (left_below x y) high low e refl in
    record {
      sum = ap (λ (n : ℕ). (n, true)) turned ∙ sum_of-below a b (left_below x y) x y p q high left;
      value = value_of-below a b m (left_below x y) x y p q low turned left;
      not_above = λ over. apart (value_of a +ℤ value_of b) over (of_words (λ s. s ≤ℤ neg_ℤ (pos 16384)) a b x y p q high);
    }
