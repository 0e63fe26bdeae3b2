-- The places of the table, one kind of word after the other.
use Rattle.std.proofs.Common.{◌≡◌, ℕ, zero, suc, ◌+◌, ◌-◌, ◌*◌, ◌<◌, ◌≤◌, subst, sym, inl, inr, arith}
use Rattle.std.proofs.lemmas.Bool.{cases_eq, cases_lt}
use Rattle.agc_word.specs.Layout as layout
use Rattle.agc_wait.specs.Table.{InTable}

-- a number is even or odd
data Halved (n : ℕ) : Type 0 where
  Even : (k : ℕ) → n ≡ 2 * k → Halved n
  Odd : (k : ℕ) → n ≡ 2 * k + 1 → Halved n

halved : (n : ℕ) → Halved n
halved zero = Even 0 (omega arith)
halved (suc n) = next (halved n)
  where
    next : Halved n → Halved (suc n)
    next (Even k is) = Odd k (omega arith)
    next (Odd k is) = Even (k + 1) (omega arith)

-- what holds of TIME3, of each word of LST1, and of each address and each bank word of LST2 holds
-- of every place
pub at_each_place : (P : ℕ → Type 0) → P layout.time3 → ((k : ℕ) → k < 8 → P (layout.lst1 + k)) → ((k : ℕ) → k < 9 → P (layout.lst2 + 2 * k)) → ((k : ℕ) → k < 9 → P (layout.lst2 + 1 + 2 * k)) → (i : ℕ) → InTable i → P i
at_each_place P counter gap at bank i within =
    let from : layout.time3 ≤ i = within.0 in
    let to : i < layout.phase_words = within.1 in
    elim (cases_eq i layout.time3) [
      | inl e ↦ subst P (sym e) counter
      | inr ne ↦ elim (cases_lt i layout.lst2) [
        | inl lt ↦
            let is : layout.lst1 + (i - layout.lst1) ≡ i = omega arith in
            subst P is (gap (i - layout.lst1) (omega arith))
        | inr ge ↦ pair to ge (halved (i - layout.lst2))
      ]
    ]
  where
    pair : i < layout.phase_words → layout.lst2 ≤ i → Halved (i - layout.lst2) → P i
    pair to ge (Even k half) =
        let is : layout.lst2 + 2 * k ≡ i = omega arith in
        subst P is (at k (omega arith))
    pair to ge (Odd k half) =
        let is : layout.lst2 + 1 + 2 * k ≡ i = omega arith in
        subst P is (bank k (omega arith))
