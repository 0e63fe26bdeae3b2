-- Sums over the views, of which a step changes one.
use Rattle.std.proofs.Common.{◌≡◌, ℕ, zero, suc, ◌+◌, ◌*◌, ◌<◌, ◌≤◌, ◌≢◌, List, [], ◌∷◌, ◌++◌, length, set, slice_index, sum, sym, refl, ap, arith, get_or-set_same, get_or-set_other}
use Rattle.std.proofs.lemmas.List.Sums.{sum_by-set, sum_by-cons, get_or-le-sum_by}
use mathlib.Core.Option.{some, some-injective, some-ne-none}
use lib.ListN.{get_elem?}
use Rattle.agc_latch.specs.Lines.{added, raised}
use Rattle.agc_latch.specs.Latches.{total}

module _ {A : Type 0} where
  module _ (f : A → ℕ) where
    pub total-append : (l m : List A) → total f (l ++ m) ≡ total f l + total f m
    total-append [] m = omega arith
    total-append (x ∷ xs) m = omega (arith, total-append xs m)

    pub total-set : (l : List A) (j : ℕ) (v w : A) → get_elem? l j ≡ some v → total f (set l j w) + f v ≡ total f l + f w
    total-set [] j v w e = absurd (some-ne-none v (sym e))
    total-set (x ∷ xs) zero v w e = omega (arith, ap f (some-injective x v e))
    total-set (x ∷ xs) (suc j) v w e = omega (arith, total-set xs j v w e)

    pub term_le : (l : List A) (j : ℕ) (v : A) → get_elem? l j ≡ some v → f v ≤ total f l
    term_le [] j v e = absurd (some-ne-none v (sym e))
    term_le (x ∷ xs) zero v e = omega (arith, ap f (some-injective x v e))
    term_le (x ∷ xs) (suc j) v e = omega (arith, term_le xs j v e)

    pub terms_le : (l : List A) (j k : ℕ) (v u : A) → k ≢ j → get_elem? l j ≡ some v → get_elem? l k ≡ some u → f v + f u ≤ total f l
    terms_le [] j k v u n e d = absurd (some-ne-none v (sym e))
    terms_le (x ∷ xs) zero zero v u n e d = absurd (n refl)
    terms_le (x ∷ xs) zero (suc k) v u n e d = omega (arith, ap f (some-injective x v e), term_le xs k u d)
    terms_le (x ∷ xs) (suc j) zero v u n e d = omega (arith, ap f (some-injective x u d), term_le xs j v e)
    terms_le (x ∷ xs) (suc j) (suc k) v u n e d = omega (arith, terms_le xs j k v u (λ h. n (ap suc h)) e d)

    pub total_none : (l : List A) → ((k : ℕ) (u : A) → get_elem? l k ≡ some u → f u ≡ 0) → total f l ≡ 0
    total_none [] all = refl
    total_none (x ∷ xs) all = let head = all 0 x refl in let rest = total_none xs (λ k u e. all (suc k) u e) in omega arith

    -- where it is 0 of each other, the sum is that of one
    pub total_alone : (l : List A) (j : ℕ) (v : A) → get_elem? l j ≡ some v → ((k : ℕ) (u : A) → k ≢ j → get_elem? l k ≡ some u → f u ≡ 0) → total f l ≡ f v
    total_alone [] j v e all = absurd (some-ne-none v (sym e))
    total_alone (x ∷ xs) zero v e all = let rest = total_none xs (λ k u d. all (suc k) u (λ h. omega arith) d) in let here = ap f (some-injective x v e) in omega arith
    total_alone (x ∷ xs) (suc j) v e all = let head = all 0 x (λ h. omega arith) refl in let rest = total_alone xs j v e (λ k u n d. all (suc k) u (λ h. n (omega arith)) d) in omega arith

  pub total_below : (f g : A → ℕ) (l : List A) → ((k : ℕ) (u : A) → get_elem? l k ≡ some u → f u ≤ 4294967295 * g u) → total f l ≤ 4294967295 * total g l
  total_below f g [] all = omega arith
  total_below f g (x ∷ xs) all = let head = all 0 x refl in let rest = total_below f g xs (λ k u e. all (suc k) u e) in omega arith

pub sum_raised : (xs : List ℕ) (i n : ℕ) → i < length xs → sum (raised i n xs) ≡ sum xs + n
sum_raised xs i n inside = let s = sum_by-set (λ (x : ℕ). x) xs i (slice_index xs i + n) 0 inside in omega arith

pub raised_here : (xs : List ℕ) (i n : ℕ) → i < length xs → slice_index (raised i n xs) i ≡ slice_index xs i + n
raised_here xs i n inside = get_or-set_same xs i (slice_index xs i + n) 0 inside

pub raised_else : (xs : List ℕ) (i j n : ℕ) → j ≢ i → slice_index (raised i n xs) j ≡ slice_index xs j
raised_else xs i j n other = get_or-set_other xs i j (slice_index xs i + n) 0 other

pub one_le_sum : (xs : List ℕ) (i : ℕ) → i < length xs → slice_index xs i ≤ sum xs
one_le_sum xs i inside = get_or-le-sum_by (λ (x : ℕ). x) xs i 0 inside

pub added_at : (xs ys : List ℕ) (i : ℕ) → slice_index (added xs ys) i ≡ slice_index xs i + slice_index ys i
added_at [] ys zero = omega arith
added_at [] ys (suc i) = omega arith
added_at (x ∷ xs) [] i = omega arith
added_at (x ∷ xs) (y ∷ ys) zero = refl
added_at (x ∷ xs) (y ∷ ys) (suc i) = added_at xs ys i

pub length_added : (xs ys : List ℕ) → length xs ≡ length ys → length (added xs ys) ≡ length xs
length_added [] ys e = sym e
length_added (x ∷ xs) [] e = refl
length_added (x ∷ xs) (y ∷ ys) e = ap suc (length_added xs ys (omega arith))

pub sum_added : (xs ys : List ℕ) → sum (added xs ys) ≡ sum xs + sum ys
sum_added [] ys = omega arith
sum_added (x ∷ xs) [] = omega arith
sum_added (x ∷ xs) (y ∷ ys) =
    let a = sum_by-cons (λ (n : ℕ). n) (x + y) (added xs ys) in let b = sum_by-cons (λ (n : ℕ). n) x xs in let c = sum_by-cons (λ (n : ℕ). n) y ys in let r = sum_added xs ys in omega arith
