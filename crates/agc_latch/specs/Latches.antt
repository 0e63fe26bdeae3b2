-- The rule of a latch: what holds of its words and of the views of all its seats between any two
-- steps.
use Rattle.std.specs.Prelude.{◌≡◌, ℕ, ◌+◌, ◌*◌, ◌<◌, ◌≤◌, List, [], ◌∷◌, length, sum, slice_index}
use mathlib.Core.Option.{some}
use lib.ListN.{get_elem?}
use Rattle.agc_latch.specs.declared.views.View.{View}
use Rattle.agc_latch.specs.declared.views.Role.{Role}
use Rattle.agc_latch.specs.declared.views.Role.TheVariants.{Takes, Posts, Spent}
use Rattle.agc_plan.specs.declared.line.Line.{Line}
use Rattle.agc_plan.specs.declared.line.Line.TheVariants.{Timer, Key, Radar}
use Rattle.agc_latch.specs.Lines.{on}

-- f of each, added up
abbrev pub total : {A : Type 0} → (A → ℕ) → List A → ℕ
total f [] = 0
total f (x ∷ xs) = f x + total f xs

abbrev pub takers_as : Role → ℕ
takers_as Takes = 1
takers_as Posts = 0
takers_as Spent = 0

abbrev pub takers : View → ℕ
takers v = takers_as v.role

abbrev pub seats : View → ℕ
seats v = v.seats

abbrev pub given : View → ℕ
given v = v.given

abbrev pub posted_at : ℕ → View → ℕ
posted_at i v = slice_index v.posted i

abbrev pub taken_at : ℕ → View → ℕ
taken_at i v = slice_index v.taken i

-- a view that isn't the taker's has given out no device and taken no pulse
abbrev pub HasTakenNothing : View → Type 0
HasTakenNothing v = (v.given ≡ 0) × ((i : ℕ) → slice_index v.taken i ≡ 0)

-- the timer's word is taken first, then the keyboard's, then the radar's, and so on in turn
abbrev pub IsInTurn : List ℕ → Type 0
IsInTurn takes =
    (on Radar takes ≤ on Key takes) × (on Key takes ≤ on Timer takes)
    × (on Timer takes ≤ on Radar takes + 1)

-- it is this line's turn
abbrev pub IsTurnOf : Line → List ℕ → Type 0
IsTurnOf Timer takes = on Timer takes ≡ on Radar takes
IsTurnOf Key takes = on Key takes < on Timer takes
IsTurnOf Radar takes = on Radar takes < on Key takes

-- the taker takes the lines in turn, a device has one seat, and who has left none
abbrev pub FitsRole : Role → View → Type 0
FitsRole Takes v = IsInTurn v.takes
FitsRole Posts v = (v.seats ≡ 1) × HasTakenNothing v
FitsRole Spent v = (v.seats ≡ 0) × HasTakenNothing v

-- the rule of each view by itself: three lines, and no more than 4,294,967,295 posts for each seat
pub record Fits (v : View) : Type 0 where
  pub posted_wide : length v.posted ≡ 3
  pub taken_wide : length v.taken ≡ 3
  pub takes_wide : length v.takes ≡ 3
  pub bounded : sum v.posted ≤ 4294967295 * v.seats
  pub of_role : FitsRole v.role v

-- The word of a line is what was posted on it, less what was taken. One view is the taker's. All
-- seats together are as many as were given out, at most 64
pub record IsLatch (words : List ℕ) (views : List View) : Type 0 where
  pub three : length words ≡ 3
  pub lines : (i : ℕ) → i < 3
      → slice_index words i + total (taken_at i) views ≡ total (posted_at i) views
  pub one_taker : total takers views ≡ 1
  pub seated : total seats views ≡ total given views
  pub most : total given views ≤ 64
  pub each : (seat : ℕ) (v : View) → get_elem? views seat ≡ some v → Fits v
