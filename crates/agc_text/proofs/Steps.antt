-- One write after another.
use Rattle.std.proofs.Common.{◌≡◌, ◌≢◌, ℕ, ◌+◌, ◌<◌, nat_eq, false, List, [], ◌++◌, length, take, drop, Option, Some, None, Result, Ok, Err, refl, sym, ap, subst, ◌∙◌, append_assoc}
use Rattle.std.proofs.Common.{drop-cons, add-one, get_or, slice_get, suc, zero-add, ◌∷◌, ◌≤◌, length-drop, arith}
use Rattle.std.specs.List.{flat_map, range_with_len}
use Rattle.std.proofs.lemmas.List.FromFn.{get_or-range_with_len, length-range_with_len}
use Rattle.std.proofs.lemmas.List.Concat.{flat_map-cons}
use Rattle.std.proofs.lemmas.Grind.{flat_map-append}
use Rattle.std.proofs.lemmas.Option.{get_or_from_slice_get, slice_get_within}
use Rattle.std.specs.Prelude.{IsErr}
use Rattle.std.proofs.lemmas.List.{append-nil, take-append-drop, take_more, nil_from_length}
use Rattle.std.specs.Io.KnownBytes.{Appends, Keeps}
use Rattle.std.proofs.KnownBytes.{Appends-nil, Appends-trans}
use Rattle.agc_text.specs.Writing.{AppendsUpTo, AppendsFront, Writes}

-- nothing of the text is written yet
pub up_to_start : (o : Option (List ℕ)) (text : List ℕ) → AppendsUpTo o o text text
up_to_start o text = record { front = []; whole = refl; written = Appends-nil o }

-- a text after what stands written
pub up_to_more : (o m n : Option (List ℕ)) (text a rest : List ℕ) → AppendsUpTo o m text (a ++ rest) → Appends m n a → AppendsUpTo o n text rest
up_to_more o m n text a rest h k = record { front = h.front ++ a; whole = h.whole ∙ sym (append_assoc h.front a rest); written = Appends-trans o m n h.front a h.written k }

pub up_to_end : (o n : Option (List ℕ)) (text : List ℕ) → AppendsUpTo o n text [] → Appends o n text
up_to_end o n text h = subst (λ (t : List ℕ). Appends o n t) (sym (h.whole ∙ append-nil h.front)) h.written

left_over : (a b : List ℕ) → a ≢ [] → a ++ b ≢ []
left_over [] b some = λ e. some refl
left_over (x ∷ a) b some = λ e. absurd (cc)

-- a front of what is left
pub up_to_front : (o m n : Option (List ℕ)) (text a rest : List ℕ) → AppendsUpTo o m text (a ++ rest) → AppendsFront m n a → AppendsFront o n text
up_to_front o m n text a rest h k =
    let e : a ++ rest ≡ k.2.front ++ (k.0 ++ rest) = ap (λ (s : List ℕ). s ++ rest) k.2.whole ∙ append_assoc k.2.front k.0 rest in
    let split : AppendsUpTo o m text (k.2.front ++ (k.0 ++ rest)) = subst (λ (t : List ℕ). AppendsUpTo o m text t) e h in
    (k.0 ++ rest, left_over k.0 rest k.1, up_to_more o m n text k.2.front (k.0 ++ rest) split k.2.written)

pub up_to_drop : (o m n : Option (List ℕ)) (text rest : List ℕ) (k : ℕ) → AppendsUpTo o m text rest → Appends m n (take k rest) → AppendsUpTo o n text (drop k rest)
up_to_drop o m n text rest k h w = up_to_more o m n text (take k rest) (drop k rest) (rw take-append-drop h) w

-- where the next piece failed
pub fails_next : {U D : Type 0} → (o m n : Option (List ℕ)) (text a rest : List ℕ) (r : Result U D) → AppendsUpTo o m text (a ++ rest) → AppendsFront m n a → IsErr r → Writes o n text r
fails_next o m n text a rest (Ok x) h k is = absurd cc
fails_next o m n text a rest (Err x) h k is = up_to_front o m n text a rest h k

-- the next item of a list of pieces
pub up_to_item : {X : Type 0} → (f : X → List ℕ) (o m : Option (List ℕ)) (text : List ℕ) (xs : List X) (i : ℕ) (d : X) → i < length xs → AppendsUpTo o m text (flat_map f (drop i xs)) → AppendsUpTo o m text (f (get_or xs i d) ++ flat_map f (drop (i + 1) xs))
up_to_item f o m text xs i d l h =
    let e : flat_map f (drop i xs) ≡ f (get_or xs i d) ++ flat_map f (drop (i + 1) xs) = rw (drop-cons xs i d l, add-one i) (flat_map-cons f (get_or xs i d) (drop (suc i) xs)) in
    subst (λ (t : List ℕ). AppendsUpTo o m text t) e h

-- the pieces of one more item
pub one_more : {X : Type 0} → (f : X → List ℕ) (line a b : List ℕ) (xs : List X) (i : ℕ) (x : X) → slice_get xs i ≡ Some x → a ≡ line ++ flat_map f (take i xs) → b ≡ a ++ f x → b ≡ line ++ flat_map f (take (i + 1) xs)
one_more f line a b xs i x is e g =
    let h : i < length xs = slice_get_within xs i x is in
    let t : take (i + 1) xs ≡ take i xs ++ x ∷ [] = take_more xs i x h ∙ ap (λ y. take i xs ++ y ∷ []) (get_or_from_slice_get xs i x x is) in
    let m : flat_map f (take (i + 1) xs) ≡ flat_map f (take i xs) ++ f x =
    ap (flat_map f) t ∙ flat_map-append f (take i xs) (x ∷ []) ∙ ap (λ (s : List ℕ). flat_map f (take i xs) ++ s) (append-nil (f x)) in
    g ∙ ap (λ (s : List ℕ). s ++ f x) e ∙ append_assoc line (flat_map f (take i xs)) (f x) ∙ ap (λ (s : List ℕ). line ++ s) (sym m)

-- no item is left
pub up_to_last : {X : Type 0} → (f : X → List ℕ) (o m : Option (List ℕ)) (text : List ℕ) (xs : List X) (i : ℕ) → length xs ≤ i → AppendsUpTo o m text (flat_map f (drop i xs)) → Appends o m text
up_to_last f o m text xs i l h =
    let e : drop i xs ≡ [] = nil_from_length _ (simp length-drop (omega arith)) in
    up_to_end o m text (subst (λ ys. AppendsUpTo o m text (flat_map f ys)) e h)

-- the next number of a range from 0
pub up_to_number : (f : ℕ → List ℕ) (o m : Option (List ℕ)) (text : List ℕ) (n i : ℕ) → i < n → AppendsUpTo o m text (flat_map f (drop i (range_with_len 0 n))) → AppendsUpTo o m text (f i ++ flat_map f (drop (i + 1) (range_with_len 0 n)))
up_to_number f o m text n i l h =
    let e : get_or (range_with_len 0 n) i 0 ≡ i = get_or-range_with_len 0 n i 0 l ∙ zero-add i in
    let k : i < length (range_with_len 0 n) = rw (length-range_with_len 0 n) l in
    subst (λ (j : ℕ). AppendsUpTo o m text (f j ++ flat_map f (drop (i + 1) (range_with_len 0 n)))) e (up_to_item f o m text (range_with_len 0 n) i 0 k h)

-- a front of a text, after another text
pub up_to_more_front : (o m n : Option (List ℕ)) (a b rest : List ℕ) → Appends o m a → AppendsUpTo m n b rest → AppendsUpTo o n (a ++ b) rest
up_to_more_front o m n a b rest h k = record { front = a ++ k.front; whole = ap (λ (s : List ℕ). a ++ s) k.whole ∙ sym (append_assoc a k.front rest); written = Appends-trans o m n a k.front h k.written }

-- a front of the first of two texts
pub front_of_first : (o n : Option (List ℕ)) (a b : List ℕ) → AppendsFront o n a → AppendsFront o n (a ++ b)
front_of_first o n a b h = up_to_front o o n (a ++ b) a b (up_to_start o (a ++ b)) h

-- where the first of two texts failed
pub writes_first : {U D : Type 0} → (o n : Option (List ℕ)) (a b : List ℕ) (r : Result U D) → AppendsFront o n a → IsErr r → Writes o n (a ++ b) r
writes_first o n a b (Ok x) h is = absurd cc
writes_first o n a b (Err x) h is = front_of_first o n a b h

-- the second of two texts, after the first
pub writes_second : {U D : Type 0} → (o m n : Option (List ℕ)) (a b : List ℕ) (r : Result U D) → Appends o m a → Writes m n b r → Writes o n (a ++ b) r
writes_second o m n a b (Ok x) h k = Appends-trans o m n a b h k
writes_second o m n a b (Err x) h k = (k.0, k.1, up_to_more_front o m n a b k.0 h k.2)

kept_appends : (o n : Option (List ℕ)) → Keeps o n → Appends o n []
kept_appends None n kept = tt
kept_appends (Some x) None kept = absurd kept
kept_appends (Some x) (Some y) kept = kept ∙ sym (append-nil x)

pub not_empty : (text : List ℕ) → nat_eq (length text) 0 ≡ false → text ≢ []
not_empty [] off = absurd (cc)
not_empty (x ∷ text) off = λ is. absurd (cc)

-- nothing was written of a text that isn't empty
pub none_taken : (o n : Option (List ℕ)) (text : List ℕ) → text ≢ [] → Appends o n [] → AppendsFront o n text
none_taken o n text some taken = (text, some, record { front = []; whole = refl; written = taken })

pub none_kept : (o n : Option (List ℕ)) (text : List ℕ) → text ≢ [] → Keeps o n → AppendsFront o n text
none_kept o n text some kept = none_taken o n text some (kept_appends o n kept)

-- the rest, after what one write took
pub rest_written : {U D : Type 0} → (o m n : Option (List ℕ)) (text : List ℕ) (k : ℕ) (r : Result U D) → Appends o m (take k text) → Writes m n (drop k text) r → Writes o n text r
rest_written o m n text k r taken rest = subst (λ (t : List ℕ). Writes o n t r) (take-append-drop k text) (writes_second o m n (take k text) (drop k text) r taken rest)

-- three pieces of a line, the last of two parts
pub three_pieces : (line a b d p q r s : List ℕ) → line ≡ [] → a ≡ line ++ p → b ≡ a ++ q → d ≡ b ++ (r ++ s) → d ≡ p ++ (q ++ r ++ s)
three_pieces line a b d p q r s empty first second third =
    let e1 : a ≡ p = first ∙ ap (λ (t : List ℕ). t ++ p) empty in
    let e2 : b ≡ p ++ q = second ∙ ap (λ (t : List ℕ). t ++ q) e1 in
    third ∙ ap (λ (t : List ℕ). t ++ (r ++ s)) e2 ∙ append_assoc p q (r ++ s) ∙ ap (λ (t : List ℕ). p ++ t) (sym (append_assoc q r s))
