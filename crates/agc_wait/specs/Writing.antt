-- How the words of the Waitlist are written: each word after a call, by the words before it.
use Rattle.std.specs.Prelude.{◌≡◌, ℕ, ◌+◌, ◌-◌, ◌<◌, ◌≤◌, ◌==◌, nat_lt, if◌then◌else◌, List, length}
use Rattle.std.specs.Prelude.{slice_index_or}
use Rattle.agc_word.specs.Layout.{Keeps}
use Rattle.agc_word.specs.Layout as layout
use Rattle.agc_plan.specs.declared.request.Task.{Task}
use Rattle.agc_plan.specs.Tasks.{Waiting}
use Rattle.agc_wait.specs.Table.{time3, lst1, at_in, bank_in, gap_of, blank_gap, waits_of}

-- the entry in a place without a task
abbrev pub no_task : Waiting
no_task = record { task = record { at = 0; bank = 0 }; distance = 0 }

-- the task of a place
abbrev pub place_in : List Waiting → ℕ → Waiting
place_in waits k = slice_index_or waits k no_task

-- how far the task of a place is
abbrev pub distance_in : List ℕ → ℕ → ℕ
distance_in words k = (place_in (waits_of words) k).distance

-- the word of a gap
abbrev pub gap_word : ℕ → ℕ
gap_word gap = if nat_lt gap 2 then 1 - gap else 0o100000 - gap

-- TIME3 at a distance
abbrev pub counter_at : ℕ → ℕ
counter_at distance = if distance == 0 then 0 else 0o40000 - distance

-- the gap from a new task to the one that stands at its place, if one does
abbrev pub gap_to_next : List ℕ → ℕ → ℕ → ℕ
gap_to_next words place delay =
    if nat_lt place (length (waits_of words)) then gap_word (distance_in words place - delay)
    else blank_gap

-- the table after a task was put into a place: what stood there and behind moved down by one, and
-- both gaps beside it are new
pub record IsPut (place delay : ℕ) (task : Task) (old new : List ℕ) : Type 0 where
  pub counter : time3 new ≡ (if place == 0 then counter_at delay else time3 old)
  pub gap_kept : (k : ℕ) → k + 1 < place → lst1 new k ≡ lst1 old k
  pub gap_before : (k : ℕ) → k + 1 ≡ place → lst1 new k ≡ gap_word (delay - distance_in old k)
  pub gap_after : place < 8 → lst1 new place ≡ gap_to_next old place delay
  pub gap_moved : (k : ℕ) → place ≤ k → k < 7 → lst1 new (k + 1) ≡ lst1 old k
  pub at_kept : (k : ℕ) → k < place → at_in new k ≡ at_in old k
  pub at : at_in new place ≡ task.at
  pub at_moved : (k : ℕ) → place ≤ k → k < 8 → at_in new (k + 1) ≡ at_in old k
  pub bank_kept : (k : ℕ) → k < place → bank_in new k ≡ bank_in old k
  pub bank : bank_in new place ≡ task.bank
  pub bank_moved : (k : ℕ) → place ≤ k → k < 8 → bank_in new (k + 1) ≡ bank_in old k

-- the table after the first task was taken out: all others moved up by one, and left 57777 and
-- 00000 00000 behind
pub record IsTaken (old new : List ℕ) : Type 0 where
  pub counter : time3 new ≡ (if at_in old 1 == 0 then 0 else counter_at (gap_of (lst1 old 0)))
  pub gap : (k : ℕ) → k < 7 → lst1 new k ≡ lst1 old (k + 1)
  pub last_gap : lst1 new 7 ≡ blank_gap
  pub at : (k : ℕ) → k < 8 → at_in new k ≡ at_in old (k + 1)
  pub last_at : at_in new 8 ≡ 0
  pub bank : (k : ℕ) → k < 8 → bank_in new k ≡ bank_in old (k + 1)
  pub last_bank : bank_in new 8 ≡ 0

-- TIME3 after a count: it stands still where no task waits, and overflows to 00000
abbrev pub counted : List ℕ → ℕ
counted words =
    if at_in words 0 == 0 then time3 words
    else (if time3 words == 0o37777 then 0 else time3 words + 1)

-- the table after a count: TIME3 alone changed
pub record IsCounted (old new : List ℕ) : Type 0 where
  pub counter : time3 new ≡ counted old
  pub others : Keeps (λ i. (i ≡ layout.time3) → ⊥) old new

-- the table without a task
pub record IsBlank (words : List ℕ) : Type 0 where
  pub counter : time3 words ≡ 0
  pub gap : (k : ℕ) → k < 8 → lst1 words k ≡ blank_gap
  pub at : (k : ℕ) → k < 9 → at_in words k ≡ 0
  pub bank : (k : ℕ) → k < 9 → bank_in words k ≡ 0
