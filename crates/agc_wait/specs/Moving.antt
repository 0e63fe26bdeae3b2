-- Helpers of proofs: words that move by some places, and the walk to the place of a new task.
use Rattle.std.specs.Prelude.{◌≡◌, ℕ, ◌+◌, ◌-◌, ◌*◌, ◌<◌, ◌≤◌, ◌==◌, nat_lt, nat_le, ◌&&◌}
use Rattle.std.specs.Prelude.{Bool, if◌then◌else◌, List, length, drop, slice_index}
use Rattle.agc_word.specs.Layout as layout
use Rattle.agc_plan.specs.Tasks.{Waiting}
use Rattle.agc_wait.specs.Waits.{place_for}
use Rattle.agc_wait.specs.Writing.{place_in}

-- word j, once the words of these places came up from so many places further on
abbrev pub moved_up : List ℕ → ℕ → ℕ → ℕ → ℕ → ℕ
moved_up words from to by j =
    if nat_le from j && nat_lt j to then slice_index words (j + by) else slice_index words j

-- word j, once the words of these places went down by so many
abbrev pub moved_down : List ℕ → ℕ → ℕ → ℕ → ℕ → ℕ
moved_down words from to by j =
    if nat_le (from + by) j && nat_lt j (to + by) then slice_index words (j - by)
    else slice_index words j

-- word j, once these places were filled
abbrev pub filled : List ℕ → ℕ → ℕ → ℕ → ℕ → ℕ
filled words from to word j = if nat_le from j && nat_lt j to then word else slice_index words j

-- word j, once a task was put into a place of LST2, and what stood there and behind went down
abbrev pub task_put : List ℕ → ℕ → ℕ → ℕ → ℕ → ℕ
task_put words place at bank j =
    if j == layout.lst2 + 1 + 2 * place then bank
    else if j == layout.lst2 + 2 * place then at
    else moved_down words (layout.lst2 + 2 * place) (layout.lst2 + 16) 2 j

-- word j, once the word of a gap was put into a place of LST1, if a task is behind it
abbrev pub gap_put : List ℕ → ℕ → Bool → ℕ → ℕ → ℕ
gap_put words place is_before word j =
    if is_before
    then (
    if j == layout.lst1 + place then word
    else moved_down words (layout.lst1 + place) (layout.lst1 + 7) 1 j)
    else slice_index words j

-- the place for a task of this distance, how far the task before it is, and the task that stands
-- there, if one does
pub record IsSpot (waits : List Waiting) (distance place before after : ℕ) : Type 0 where
  pub place_is : place ≡ place_for distance waits
  pub before_is : (k : ℕ) → place ≡ k + 1 → before ≡ (place_in waits k).distance
  pub none_before : place ≡ 0 → before ≡ 0
  pub after_is : place < length waits → after ≡ (place_in waits place).distance

-- so many places were passed over, and the next task, if there is one, is this far from now
pub record IsWalked (waits : List Waiting) (distance place before here : ℕ) : Type 0 where
  pub within : place ≤ length waits
  pub passed : place_for distance (drop place waits) + place ≡ place_for distance waits
  pub before_is : (k : ℕ) → place ≡ k + 1 → before ≡ (place_in waits k).distance
  pub none_before : place ≡ 0 → before ≡ 0
  pub here_is : place < length waits → here ≡ (place_in waits place).distance
