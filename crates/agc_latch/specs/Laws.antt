-- The latch's rule for each kind of step.
use Rattle.std.specs.Prelude.{◌≡◌, ◌≢◌, ℕ, ◌+◌, ◌*◌, ◌<◌, ◌≤◌, List, [], ◌∷◌, ◌++◌, slice_index}
use Rattle.std.specs.Prelude.{slice_set, sum}
use mathlib.Core.Option.{some}
use lib.ListN.{get_elem?}
use Rattle.agc_latch.specs.declared.views.View.{View}
use Rattle.agc_latch.specs.declared.views.Role.TheVariants.{Takes, Posts}
use Rattle.agc_plan.specs.declared.line.Line.{Line}
use Rattle.agc_plan.specs.Pulses.{word_of}
use Rattle.agc_latch.specs.Lines.{on}
use Rattle.agc_latch.specs.Latches.{IsLatch, IsInTurn, IsTurnOf, total, posted_at, taken_at}
use Rattle.agc_latch.specs.Steps.{after_post, after_take, after_split, after_join, device_view}
use Rattle.agc_latch.specs.Steps.{first_view, spent_view}

-- where no view is there but a new taker's, each word is 0
abbrev pub BeginsAtZero : Type 0
BeginsAtZero = (words : List ℕ) (line : Line) → IsLatch words (first_view ∷ []) → on line words ≡ 0

-- a device that has posted less than 4,294,967,295 pulses posts one on line i: the word grows by 1
abbrev pub PostKeeps : Type 0
PostKeeps = (words : List ℕ) (views : List View) (id i : ℕ) (v : View)
    → IsLatch words views → get_elem? views id ≡ some v → v.role ≡ Posts → i < 3
    → sum v.posted < 4294967295
    → IsLatch (slice_set words i (slice_index words i + 1))
    (slice_set views id (after_post i v))

-- the taker takes what it finds on a line whose turn it is: the word becomes 0
abbrev pub TakeKeeps : Type 0
TakeKeeps = (words : List ℕ) (views : List View) (id : ℕ) (line : Line) (v : View)
    → IsLatch words views → get_elem? views id ≡ some v → v.role ≡ Takes → IsTurnOf line v.takes
    → IsLatch (slice_set words (word_of line) 0)
    (slice_set views id (after_take (word_of line) (on line words) v))

-- the taker gives a device out, which gets a view of its own
abbrev pub SplitKeeps : Type 0
SplitKeeps = (words : List ℕ) (views : List View) (id : ℕ) (v : View)
    → IsLatch words views → get_elem? views id ≡ some v → v.role ≡ Takes → v.given < 64
    → IsLatch words (slice_set views id (after_split v) ++ device_view ∷ [])

-- the taker takes a device back
abbrev pub JoinKeeps : Type 0
JoinKeeps = (words : List ℕ) (views : List View) (id other : ℕ) (v w : View)
    → IsLatch words views → get_elem? views id ≡ some v → v.role ≡ Takes
    → other ≢ id → get_elem? views other ≡ some w → w.role ≡ Posts
    → IsLatch words (slice_set (slice_set views id (after_join v w)) other spent_view)

-- the taker has taken the lines in turn
abbrev pub TakesInTurn : Type 0
TakesInTurn = (words : List ℕ) (views : List View) (id : ℕ) (v : View)
    → IsLatch words views → get_elem? views id ≡ some v → v.role ≡ Takes → IsInTurn v.takes

-- no more pulses were taken than were posted
abbrev pub TakesOnlyPosted : Type 0
TakesOnlyPosted = (words : List ℕ) (views : List View) (i : ℕ)
    → IsLatch words views → i < 3 → total (taken_at i) views ≤ total (posted_at i) views

-- no word is near the greatest number of 64 bits
abbrev pub IsBounded : Type 0
IsBounded = (words : List ℕ) (views : List View) (i : ℕ)
    → IsLatch words views → i < 3 → slice_index words i ≤ 4294967295 * 64
