-- Requests that are asked in order: how each changes the state, the text that each writes, and the
-- text if a write fails.
use Rattle.std.specs.Prelude.{◌≡◌, ℕ, List, [], ◌∷◌, ◌++◌, Option, Result, Ok, Err}
use Rattle.std.specs.List.{fold}
use Rattle.agc_plan.specs.declared.request.Request.{Request}

-- how one request, asked in a state, changes the text of a writer
abbrev pub Writing : Type 0 → Type 1
Writing S = S → Request → Option (List ℕ) → Option (List ℕ) → Type 0

-- each of these requests was asked in the state that the one before it left, and wrote its text
unfoldable pub AllWritten : {S : Type 0} → (S → Request → S) → Writing S → S → List Request
    → Option (List ℕ) → Option (List ℕ) → Type 0
AllWritten next writes state [] old new = new ≡ old
AllWritten next writes state (request ∷ requests) old new =
    (between : Option (List ℕ)) × writes state request old between
    × AllWritten next writes (next state request) requests between new

-- where it stops: those before this one were written; of it, only what is where a write fails; it
-- is the last that was asked
pub record StopsIn {S : Type 0} (next : S → Request → S) (writes stops : Writing S) (start : S)
    (requests : List Request) (end : S) (old new : Option (List ℕ)) : Type 0 where
  pub before : List Request
  pub last : Request
  pub after : List Request
  pub whole : requests ≡ before ++ last ∷ after
  pub end_is : end ≡ next (fold next start before) last
  pub between : Option (List ℕ)
  pub end_with_report : AllWritten next writes start before old between
  pub front : stops (fold next start before) last between new

-- all requests were asked in order and written, and nothing else was; if a write failed, it stopped
-- in one of them
abbrev pub AsksInOrder : {S T E : Type 0} → (S → Request → S) → Writing S → Writing S → S
    → List Request → S → Option (List ℕ) → Option (List ℕ) → Result T E → Type 0
AsksInOrder next writes stops start asked end old new (Ok _) =
    (end ≡ fold next start asked) × AllWritten next writes start asked old new
AsksInOrder next writes stops start asked end old new (Err _) =
    StopsIn next writes stops start asked end old new
