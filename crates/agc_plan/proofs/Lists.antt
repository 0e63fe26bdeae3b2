-- What is left of a list after its first items.
use Rattle.std.proofs.Common.{◌≡◌, ℕ, ◌+◌, ◌<◌, ◌≤◌, List, [], ◌∷◌, length, get_or, drop, drop-cons, add-one, length-drop, subst, sym, refl, arith}
use Rattle.std.proofs.lemmas.List.{nil_from_length}

-- the next, and the rest
pub next_is : {X : Type 0} → (xs : List X) (i : ℕ) (x : X) → i < length xs → x ≡ get_or xs i x → drop i xs ≡ x ∷ drop (i + 1) xs
next_is xs i x l is =
    let e : drop i xs ≡ get_or xs i x ∷ drop (i + 1) xs = rw (drop-cons xs i x l, add-one i) refl in
    subst (λ y. drop i xs ≡ y ∷ drop (i + 1) xs) (sym is) e

-- nothing, where all were taken
pub none_left : {X : Type 0} → (xs : List X) (i : ℕ) → length xs ≤ i → drop i xs ≡ []
none_left xs i l = nil_from_length _ (simp length-drop (omega arith))
