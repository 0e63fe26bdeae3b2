-- The core sets, use words and NEWJOB, read from the words, and when these are lawful.
use Rattle.std.specs.Prelude.{◌≡◌, ℕ, ◌+◌, ◌-◌, ◌*◌, ◌/◌, ◌%◌, ◌<◌, ◌≤◌, ◌==◌, nat_lt, Bool, true}
use Rattle.std.specs.Prelude.{false, if◌then◌else◌, List, [], ◌∷◌, Option, Some, None, map, length}
use Rattle.std.specs.Prelude.{slice_index, slice_index_or}
use Rattle.agc_word.specs.Layout as layout
use Rattle.agc_word.specs.Layout.{IsSized, set_size, address_of, area_of}
use Rattle.agc_word.specs.Words.{complement}
use Rattle.agc_plan.specs.Jobs.{Jobs, Job, Ready, best_from, is_owned}
use Rattle.agc_plan.specs.Places.{place_of}
use Rattle.agc_exec.specs.HeldJob.{HeldJob}
use Rattle.agc_exec.specs.Blocks.{blocks_of}
use Rattle.agc_exec.specs.Sets.{slots_of, entries_of, running_in, IsStanding}

-- minus zero: 77777 octal
abbrev pub minus_zero : ℕ
minus_zero = 0o77777

-- bit 10, the lowest of PRIORITY's priority: 01000 octal
abbrev pub priority_unit : ℕ
priority_unit = 0o1000

-- the job of a set, of which the PRIORITY word, with its sign taken off, is this
abbrev pub record_of : List ℕ → ℕ → Bool → HeldJob
record_of block priority asleep = record {
  number = slice_index block 0;
  at = slice_index block 8;
  bank = slice_index block 9;
  priority = priority / priority_unit;
  asleep = asleep;
  area = area_of (priority % priority_unit);
  work = slice_index block 1 ∷ slice_index block 2 ∷ slice_index block 3 ∷ slice_index block 4
      ∷ slice_index block 5 ∷ slice_index block 6 ∷ [];
}

-- a set with this PRIORITY word: free where it is minus zero, awake where its sign is not set, else
-- asleep
abbrev pub held_by : List ℕ → ℕ → Option HeldJob
held_by block priority =
    if priority == minus_zero then None
    else if nat_lt priority 0o40000 then Some (record_of block priority false)
    else Some (record_of block (complement priority) true)

-- the contents of a set's twelve words
unfoldable pub held_of : List ℕ → Option HeldJob
held_of block = held_by block (slice_index block 11)

-- the contents of all sets
unfoldable pub sets_of : List ℕ → List (Option HeldJob)
sets_of words = map held_of (blocks_of words)

-- priority in bits 14 to 10, the area's address in bits 9 to 1
abbrev pub urgency_word : ℕ → ℕ → ℕ
urgency_word priority area = priority_unit * priority + address_of area

-- the PRIORITY word of a job: complemented where it sleeps
abbrev pub priority_word : ℕ → ℕ → Bool → ℕ
priority_word priority area asleep =
    if asleep then complement (urgency_word priority area) else urgency_word priority area

-- twelve words are those of a job
pub record IsCoded (block : List ℕ) (r : HeldJob) : Type 0 where
  pub twelve : length block ≡ 12
  pub word : slice_index block 11 ≡ priority_word r.priority r.area r.asleep
  pub low : 1 ≤ r.priority
  pub high : r.priority ≤ 31
  pub five : r.area ≤ 5
  pub at_low : 1 ≤ r.at
  pub at_high : r.at ≤ 16383

-- twelve words of a free set, or of a job
abbrev pub IsLawfulBlock : List ℕ → Type 0
IsLawfulBlock block = (r : HeldJob) → held_of block ≡ Some r → IsCoded block r

-- MODE and PUSHLOC of a job are 00000
abbrev pub IsTidyBlock : List ℕ → Type 0
IsTidyBlock block =
    (r : HeldJob) → held_of block ≡ Some r → (slice_index block 7 ≡ 0) × (slice_index block 10 ≡ 0)

-- each of the blocks is so
abbrev pub Each : (List ℕ → Type 0) → List (List ℕ) → Type 0
Each P blocks = (k : ℕ) → k < length blocks → P (slice_index_or blocks k [])

-- MODE and PUSHLOC of each job are 00000
abbrev pub IsTidy : List ℕ → Type 0
IsTidy words = Each IsTidyBlock (blocks_of words)

-- lawful core sets: PRIORITY, numbers, addresses and areas, and set 0 awake where anybody is
pub record IsSet (words : List ℕ) : Type 0 where
  pub sized : IsSized words
  pub coded : Each IsLawfulBlock (blocks_of words)
  pub standing : IsStanding (sets_of words)

-- the priority of the job in set 0
abbrev pub front_priority : List (Option HeldJob) → ℕ
front_priority [] = 0
front_priority (None ∷ sets) = 0
front_priority (Some r ∷ sets) = r.priority

-- NEWJOB with this best job: 77777 where no job is awake, else its set's name where it is strictly
-- more urgent than the job in set 0, else 00000
abbrev pub newjob_for : Option Ready → List (Option HeldJob) → ℕ
newjob_for None sets = minus_zero
newjob_for (Some first) sets =
    if nat_lt (front_priority sets) first.priority
    then set_size * place_of first.number (entries_of sets) else 0

-- lawful words of the Executive: each use word has its area's address where nobody owns the area,
-- else 00000
pub record IsLawfulWords (words : List ℕ) : Type 0 where
  pub sets : IsSet words
  pub uses : (area : ℕ) → 1 ≤ area → area ≤ 5 → slice_index words (layout.use_words + (area - 1))
      ≡ (if is_owned area (slots_of (sets_of words)) then 0 else address_of area)
  pub newjob : slice_index words layout.newjob
      ≡ newjob_for (best_from 1 (slots_of (sets_of words))) (sets_of words)

-- the plain jobs for which the words stand
abbrev pub jobs_in : List ℕ → Jobs
jobs_in words = record { slots = slots_of (sets_of words); running = running_in (sets_of words) }

-- the placement for which the words stand
abbrev pub entries_in : List ℕ → List ℕ
entries_in words = entries_of (sets_of words)

-- the number of the running job
abbrev pub runner_in : List ℕ → Option ℕ
runner_in words = running_in (sets_of words)
