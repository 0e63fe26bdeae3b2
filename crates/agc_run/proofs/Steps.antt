-- One more element of a list.
use Rattle.std.proofs.Common.{◌≡◌, ℕ, ◌+◌, ◌≤◌, ◌==◌, Bool, true, false, if◌then◌else◌, List, [], ◌∷◌, ◌++◌, length, drop, Option, Some, None, slice_get, refl, inl, inr, sym, ap, ◌∙◌, append_assoc, append-nil, arith}
use Rattle.std.proofs.lemmas.Option.{slice_get_within, get_or_from_slice_get, slice_get_cases}
use Rattle.agc_plan.proofs.Lists.{next_is, none_left}
use Rattle.agc_plan.specs.Tasks.{Waiting}
use Rattle.agc_run.specs.declared.listings.Listing.{Listing}
use Rattle.agc_run.specs.declared.origins.Since.{Since}
use Rattle.agc_run.specs.Origins.{listings_after}
use Rattle.agc_run.specs.Reading.{is_old, listing_of}

next_row : {X : Type 0} (xs : List X) (k : ℕ) (x : X) → slice_get xs k ≡ Some x → drop k xs ≡ x ∷ drop (k + 1) xs
next_row xs k x is = next_is xs k x (slice_get_within xs k x is) (sym (get_or_from_slice_get xs k x x is))

none_is : {X : Type 0} (xs : List X) (k : ℕ) → slice_get xs k ≡ None → drop k xs ≡ []
none_is xs k is = elim (slice_get_cases xs k).1 [
  | inl found ↦ absurd (let no : Some found.0 ≡ None = sym found.2 ∙ is in cc)
  | inr past ↦ none_left xs k past.0
]

pub grown : {X : Type 0} (xs : List X) (k : ℕ) (x : X) (old new whole : List X) → slice_get xs k ≡ Some x → new ≡ old ++ x ∷ [] → old ++ drop k xs ≡ whole → new ++ drop (k + 1) xs ≡ whole
grown {X} xs k x old new whole is made rest =
    ap (λ (l : List X). l ++ drop (k + 1) xs) made ∙ append_assoc old (x ∷ []) (drop (k + 1) xs)
    ∙ ap (λ (l : List X). old ++ l) (sym (next_row xs k x is)) ∙ rest

pub whole_is : {X : Type 0} (xs : List X) (k : ℕ) (found whole : List X) → length xs ≤ k → found ++ drop k xs ≡ whole → found ≡ whole
whole_is {X} xs k found whole le rest = sym (append-nil found) ∙ ap (λ (l : List X). found ++ l) (sym (none_left xs k le)) ∙ rest

-- one more task
abbrev place_by : Bool → ℕ → ℕ
place_by old place = if old then place + 1 else place

pub near_on : (place then_place k : ℕ) (is : Bool) → then_place ≡ place_by is place → place ≤ k → then_place ≤ k + 1
near_on place then_place k true e near = omega arith
near_on place then_place k false e near = omega arith

by_same : (now : Since) (old : Listing) (were : List Listing) (wait : Waiting) (rest : List Waiting) (b : Bool) → (old.distance == wait.distance) ≡ b → listings_after now (old ∷ were) (wait ∷ rest) ≡ (if b then old else record { distance = wait.distance; since = now }) ∷ listings_after now (if b then were else old ∷ were) rest
by_same now old were wait rest true e = rw e refl
by_same now old were wait rest false e = rw e refl

step : (now : Since) (were : List Listing) (place : ℕ) (wait : Waiting) (rest : List Waiting) (o : Option Listing) → slice_get were place ≡ o → listings_after now (drop place were) (wait ∷ rest) ≡ listing_of now o wait.distance ∷ listings_after now (drop (place_by (is_old o wait.distance) place) were) rest
step now were place wait rest None e =
    let nothing : drop place were ≡ [] = none_is were place e in
    ap (λ (l : List Listing). listings_after now l (wait ∷ rest)) nothing
    ∙ ap (λ (l : List Listing). record { distance = wait.distance; since = now } ∷ listings_after now l rest) (sym nothing)
step now were place wait rest (Some old) e =
    ap (λ (l : List Listing). listings_after now l (wait ∷ rest)) (next_row were place old e)
    ∙ go (old.distance == wait.distance) refl
  where
    go : (b : Bool) → (old.distance == wait.distance) ≡ b → listings_after now (old ∷ drop (place + 1) were) (wait ∷ rest) ≡ (if old.distance == wait.distance then old else record { distance = wait.distance; since = now }) ∷ listings_after now (drop (if old.distance == wait.distance then place + 1 else place) were) rest
    go true q = by_same now old (drop (place + 1) were) wait rest true q ∙ rw q refl
    go false q = by_same now old (drop (place + 1) were) wait rest false q ∙ rw (q, next_row were place old e) refl

pub one_listed : (now : Since) (were : List Listing) (place then_place : ℕ) (waits : List Waiting) (k : ℕ) (wait : Waiting) (o : Option Listing) (old new whole : List Listing) (listing : Listing) (is : Bool) → slice_get waits k ≡ Some wait → o ≡ slice_get were place → listing ≡ listing_of now o wait.distance → is ≡ is_old o wait.distance → then_place ≡ place_by is place → new ≡ old ++ listing ∷ [] → old ++ listings_after now (drop place were) (drop k waits) ≡ whole → new ++ listings_after now (drop then_place were) (drop (k + 1) waits) ≡ whole
one_listed now were place then_place waits k wait o old new whole listing is there o_is listing_is is_is place_is made rest =
    ap (λ (l : List Listing). l ++ listings_after now (drop then_place were) (drop (k + 1) waits)) made
    ∙ append_assoc old (listing ∷ []) (listings_after now (drop then_place were) (drop (k + 1) waits))
    ∙ ap (λ (l : Listing). old ++ l ∷ listings_after now (drop then_place were) (drop (k + 1) waits)) listing_is
    ∙ ap (λ (p : ℕ). old ++ listing_of now o wait.distance ∷ listings_after now (drop p were) (drop (k + 1) waits)) (place_is ∙ ap (λ (b : Bool). place_by b place) is_is)
    ∙ ap (λ (l : List Listing). old ++ l) (sym (step now were place wait (drop (k + 1) waits) o (sym o_is)))
    ∙ ap (λ (l : List Waiting). old ++ listings_after now (drop place were) l) (sym (next_row waits k wait there)) ∙ rest
