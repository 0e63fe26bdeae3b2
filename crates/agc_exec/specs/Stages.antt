-- Helpers of proofs: what the steps of a call do, one after the other.
use Rattle.std.specs.Prelude.{◌≡◌, ◌≢◌, ◌⊎◌, ◌%◌, nat_lt, slice_index, ℕ, ◌+◌, ◌-◌, ◌*◌, ◌/◌, ◌<◌}
use Rattle.std.specs.Prelude.{◌≤◌, ◌==◌, ◌∷◌, Bool, true, false, if◌then◌else◌, List, [], Option}
use Rattle.std.specs.Prelude.{None, Some, length, slice_index_or}
use Rattle.agc_word.specs.Layout as layout
use Rattle.agc_word.specs.Layout.{sets_in, set_place, use_place, address_of, area_of}
use Rattle.agc_word.specs.Words.{complement}
use Rattle.agc_plan.specs.Jobs.{Job, Jobs, Outcome, best, best_from, job_in, outrun_by, is_owned}
use Rattle.agc_plan.specs.Jobs.{is_sleeper, establish_at, least_unused, new_job, established}
use Rattle.agc_plan.specs.declared.request.Entry.{Entry}
use Rattle.agc_plan.specs.declared.reply.Alarm.TheVariants.{A1202}
use Rattle.agc_plan.specs.declared.reply.Reply.TheVariants.{Alarmed, Established}
use Rattle.agc_plan.specs.declared.reply.Reply.{Reply}
use Rattle.agc_plan.specs.Places.{fronted, placed_new}
use Rattle.agc_exec.specs.HeldJob.{HeldJob}
use Rattle.agc_exec.specs.Blocks.{blocks_of}
use Rattle.agc_exec.specs.Image.{minus_zero, newjob_for, held_of, sets_of, jobs_in, entries_in}
use Rattle.agc_exec.specs.Image.{runner_in}
use Rattle.agc_exec.specs.Calls.{fronted_blocks, blocks_new, Does}
use Rattle.agc_exec.specs.Sets.{job_of, number_in, Holds, slots_of, entries_of, running_in}
use Rattle.agc_exec.specs.Sets.{IsLawful, IsFronted, IsStanding}

-- the first word whose sign is set: 40000 octal
abbrev pub sign : ℕ
sign = 0o40000

-- the use word of an area: its address where nobody owns it, else 00000
abbrev pub use_word : ℕ → List (Option Job) → ℕ
use_word area slots = if is_owned area slots then 0 else address_of area

-- each use word says whether its area is owned
abbrev pub UsesAgree : List ℕ → List (Option Job) → Type 0
UsesAgree words slots =
    (area : ℕ) → 1 ≤ area → area ≤ 5 → slice_index words (use_place area) ≡ use_word area slots

-- NEWJOB: 77777 where no job is awake
abbrev pub newjob_of : List (Option HeldJob) → ℕ
newjob_of sets = newjob_for (best_from 1 (slots_of sets)) sets

-- the plain jobs for which the sets stand
abbrev pub jobs_of : List (Option HeldJob) → Jobs
jobs_of sets = record { slots = slots_of sets; running = running_in sets }

-- core set k is free
abbrev pub IsFreeAt : List (Option HeldJob) → ℕ → Type 0
IsFreeAt sets k = slice_index_or sets k None ≡ None

-- s isn't to run before r
abbrev pub Yields : HeldJob → HeldJob → Type 0
Yields s r = (s.priority < r.priority) ⊎ ((s.priority ≡ r.priority) × (r.number ≤ s.number))

-- set k holds an awake job to which each awake job below set n yields
pub record IsBestBelow (sets : List (Option HeldJob)) (n k : ℕ) (r : HeldJob) : Type 0 where
  pub here : Holds sets k r
  pub awake : r.asleep ≡ false
  pub first : (j : ℕ) (s : HeldJob) → j < n → Holds sets j s → s.asleep ≡ false → Yields s r

-- of the first sets, up to n: nobody is awake, or set k holds an awake job to which each awake job
-- yields
abbrev pub BestBelow : List (Option HeldJob) → ℕ → Option (ℕ × HeldJob) → Type 0
BestBelow sets n None = (j : ℕ) (s : HeldJob) → j < n → Holds sets j s → s.asleep ≡ true
BestBelow sets n (Some best) = IsBestBelow sets n best.0 best.1

-- the best job came to set 0, by an exchange
pub record BringsBest (old new : List (Option HeldJob)) : Type 0 where
  pub lawful : IsLawful new
  pub in_front : IsFronted new
  pub same_length : length new ≡ length old
  pub slots : slots_of new ≡ slots_of old
  pub running : running_in new ≡ best (slots_of old)
  pub entries : entries_of new ≡ fronted (best (slots_of old)) (entries_of old)

-- the new sets stand for this outcome, with the jobs in these places
pub record Gives (outcome : Outcome) (entries : List ℕ) (new : List (Option HeldJob))
    (reply : Reply) : Type 0 where
  pub standing : IsStanding new
  pub outcome_is : ◌≡◌ {A = Outcome} (record { jobs = jobs_of new; reply = reply }) outcome
  pub entries_is : entries_of new ≡ entries

-- nobody owns this area
abbrev pub IsUnowned : List (Option HeldJob) → ℕ → Type 0
IsUnowned sets area = (j : ℕ) (s : HeldJob) → Holds sets j s → s.area ≢ area

-- whether a set's job owns this area
abbrev pub owned_in : ℕ → List (Option HeldJob) → Bool
owned_in area [] = false
owned_in area (None ∷ sets) = owned_in area sets
owned_in area (Some r ∷ sets) = if r.area == area then true else owned_in area sets

-- the job in set 0, of this number, gave way to the best where that is strictly more urgent
pub record GivesWay (number : ℕ) (old new : List (Option HeldJob)) (now : ℕ) : Type 0 where
  pub standing : IsStanding new
  pub slots : slots_of new ≡ slots_of old
  pub now_is : now ≡ outrun_by (best_from 1 (slots_of old)) (job_in (slots_of old) number) number
  pub running : running_in new ≡ Some now
  pub entries : entries_of new ≡ fronted (Some now) (entries_of old)

-- set k holds a sleeper of this address, the least-numbered below set n
pub record IsFirstBelow (sets : List (Option HeldJob)) (at n k : ℕ) (r : HeldJob) : Type 0 where
  pub here : Holds sets k r
  pub sleeps : is_sleeper at (job_of r) ≡ true
  pub first : (j : ℕ) (s : HeldJob) → j < n → Holds sets j s → is_sleeper at (job_of s) ≡ true
      → r.number ≤ s.number

-- of the sets below set n: nobody sleeps at this address, or set k holds the least-numbered sleeper
-- there
abbrev pub FirstBelow : List (Option HeldJob) → ℕ → ℕ → Option (ℕ × HeldJob) → Type 0
FirstBelow sets at n None =
    (j : ℕ) (s : HeldJob) → j < n → Holds sets j s → is_sleeper at (job_of s) ≡ false
FirstBelow sets at n (Some found) = IsFirstBelow sets at n found.0 found.1

-- the same areas are owned
abbrev pub SameOwners : List (Option Job) → List (Option Job) → Type 0
SameOwners old new = (area : ℕ) → 1 ≤ area → is_owned area new ≡ is_owned area old

-- set k holds the best job, which is more urgent than this one
pub record Waits (sets : List (Option HeldJob)) (job : HeldJob) (k : ℕ) : Type 0 where
  pub first : HeldJob
  pub best : IsBestBelow sets (length sets) k first
  pub urgent : job.priority < first.priority

-- no set holds a job
abbrev pub AllFree : List ℕ → Type 0
AllFree words =
    (k : ℕ) → k < length (blocks_of words) → held_of (slice_index_or (blocks_of words) k []) ≡ None

-- set k holds a job
abbrev pub IsHeldAt : List (Option HeldJob) → ℕ → Type 0
IsHeldAt sets k = (r : HeldJob) × Holds sets k r

-- the job in set 0 runs
abbrev pub FrontRuns : List (Option HeldJob) → Type 0
FrontRuns sets = (r : HeldJob) × Holds sets 0 r × (r.asleep ≡ false)

-- the rank of set k among the sleepers of an address: 0 unless it holds one; else by the lower
-- number
abbrev pub sleeper_rank : ℕ → ℕ → Option HeldJob → ℕ
sleeper_rank at k None = 0
sleeper_rank at k (Some r) = if is_sleeper at (job_of r) then (8 * (9 - r.number) + k) else 0

-- the greatest of n numbers, 0 where there is none but 0
pub record IsMost (f : ℕ → ℕ) (n most : ℕ) : Type 0 where
  pub bound : (j : ℕ) → j < n → f j ≤ most
  pub found : (most ≡ 0) ⊎ ((j : ℕ) × (j < n) × (most ≡ f j))

-- the rank of the best job of the first n sets: 0 where nobody is awake, else 8 times (its priority
-- + 1), plus its set
pub record IsBestRank (sets : List (Option HeldJob)) (n rank : ℕ) : Type 0 where
  pub nobody : rank ≡ 0 → BestBelow sets n None
  pub found : 0 < rank → (r : HeldJob) × IsBestBelow sets n (rank % 8) r
      × (rank / 8 ≡ r.priority + 1)

-- the greatest rank among the sleepers of an address
abbrev pub IsSleeperRank : List (Option HeldJob) → ℕ → ℕ → ℕ → Type 0
IsSleeperRank sets at n first = IsMost (λ k. sleeper_rank at k (slice_index_or sets k None)) n first

-- of the first n sets, these numbers are in use: one that no set has isn't marked
pub record IsMarked (sets : List (Option HeldJob)) (n : ℕ) (used : List Bool) : Type 0 where
  pub nine : length used ≡ 9
  pub marked : (j : ℕ) → j < n → slice_index_or used (number_in (slice_index_or sets j None)) false
      ≡ true
  pub only : (number : ℕ) → number < 9 → slice_index_or used number false ≡ true
      → (j : ℕ) × (j < n) × (number_in (slice_index_or sets j None) ≡ number)

-- of the first n sets this is the first free one; none is, where it is 8
pub record IsFirstFree (sets : List (Option HeldJob)) (n free : ℕ) : Type 0 where
  pub before : (j : ℕ) → j < n → j < free → number_in (slice_index_or sets j None) ≢ 0
  pub here : free < 8 → (free < n) × (number_in (slice_index_or sets free None) ≡ 0)

-- set k holds the least-numbered sleeper of this address
abbrev pub IsFirstAt : List (Option HeldJob) → ℕ → ℕ → Type 0
IsFirstAt sets at k = (r : HeldJob) × IsFirstBelow sets at (length sets) k r

-- the job in set 0 is to run on
abbrev pub Stays : List (Option HeldJob) → Type 0
Stays sets =
    (job : HeldJob) → Holds sets 0 job → job.asleep ≡ false
    → GivesWay job.number sets sets job.number

-- the job in set 0 is to give way to that of set k
abbrev pub GivesWayTo : List (Option HeldJob) → ℕ → Type 0
GivesWayTo sets k =
    (job : HeldJob) → Holds sets 0 job → job.asleep ≡ false → Waits sets job k

-- where nobody ran, the best job came to set 0; else nothing changed
pub record TookOver (ran : Bool) (old new : List ℕ) : Type 0 where
  pub idle : ran ≡ false → BringsBest (sets_of old) (sets_of new)
  pub idle_blocks : ran ≡ false → blocks_of new
      ≡ fronted_blocks (best (slots_of (sets_of old))) (entries_of (sets_of old)) (blocks_of old)
  pub busy : ran ≡ true → new ≡ old

-- whether the job in set 0 ran
pub record Tells (ran : Bool) (words : List ℕ) : Type 0 where
  pub runs : ran ≡ true → FrontRuns (sets_of words)
  pub idle : ran ≡ false → running_in (sets_of words) ≡ None

-- PRIORITY with its sign taken off
abbrev pub unsigned : ℕ → ℕ
unsigned word = if nat_lt word sign then word else complement word

-- with so many core sets these words of a set are a job's: its number, its LOC, and PRIORITY with
-- its sign taken off
pub record AreSound (sets number at urgency : ℕ) : Type 0 where
  pub number_low : 1 ≤ number
  pub number_high : number ≤ sets
  pub at_low : 1 ≤ at
  pub at_high : at ≤ 16383
  pub low : 0o1000 ≤ urgency
  pub five : area_of (urgency % 0o1000) ≤ 5
  pub address : urgency % 0o1000 ≡ address_of (area_of (urgency % 0o1000))

-- set k is free, or its words are a job's
abbrev pub IsSoundAt : List ℕ → ℕ → Type 0
IsSoundAt words k =
    slice_index words (set_place k + 11) ≢ minus_zero
    → AreSound (sets_in words) (slice_index words (set_place k + 0))
    (slice_index words (set_place k + 8)) (unsigned (slice_index words (set_place k + 11)))

-- each set is
abbrev pub AreSoundSets : List ℕ → Type 0
AreSoundSets words = (k : ℕ) → k < sets_in words → IsSoundAt words k

-- the area of a set's job, 0 for none
abbrev pub area_held : Option HeldJob → ℕ
area_held None = 0
area_held (Some r) = r.area

-- 0, or another
abbrev pub Differs : ℕ → ℕ → Type 0
Differs x y = 0 < x → x ≢ y

-- two sets share no number and no area
pub record AreApart (sets : List (Option HeldJob)) (j k : ℕ) : Type 0 where
  pub numbers : Differs (number_in (slice_index_or sets j None))
      (number_in (slice_index_or sets k None))
  pub areas : Differs (area_held (slice_index_or sets j None))
      (area_held (slice_index_or sets k None))

-- set k shares none with those before it
abbrev pub IsApart : List (Option HeldJob) → ℕ → Type 0
IsApart sets k = (j : ℕ) → j < k → AreApart sets j k

-- no two sets share any
abbrev pub AllApart : List (Option HeldJob) → Type 0
AllApart sets = (k : ℕ) → k < length sets → IsApart sets k

-- the number of the job in set k, 0 for none
abbrev pub number_at : List (Option HeldJob) → ℕ → ℕ
number_at sets k = number_in (slice_index_or sets k None)

-- the area of the job in set k, 0 for none
abbrev pub area_at : List (Option HeldJob) → ℕ → ℕ
area_at sets k = area_held (slice_index_or sets k None)

-- of n numbers those but 0 are marked, and nothing else is but perhaps 0
pub record AreMarked (f : ℕ → ℕ) (n : ℕ) (marks : List Bool) : Type 0 where
  pub nine : length marks ≡ 9
  pub marked : (j : ℕ) → j < n → 0 < f j → slice_index_or marks (f j) false ≡ true
  pub only : (number : ℕ) → 0 < number → slice_index_or marks number false ≡ true
      → (j : ℕ) × (j < n) × (f j ≡ number)

-- the first n sets are free, or their words are jobs', which share no number and no area; both are
-- marked
pub record AreJudged (words : List ℕ) (n : ℕ) (numbers areas : List Bool) : Type 0 where
  pub sound : (k : ℕ) → k < n → IsSoundAt words k
  pub apart : (k : ℕ) → k < n → IsApart (sets_of words) k
  pub numbered : AreMarked (number_at (sets_of words)) n numbers
  pub owned : AreMarked (area_at (sets_of words)) n areas

-- no PRIORITY word is an awake job's
abbrev pub NobodyAwake : List ℕ → Type 0
NobodyAwake words = (k : ℕ) → k < sets_in words → sign ≤ slice_index words (set_place k + 11)

-- set k holds the best job
abbrev pub IsBestAt : List (Option HeldJob) → ℕ → Type 0
IsBestAt sets k = (r : HeldJob) × IsBestBelow sets (length sets) k r

-- but for the job of set k, no awake job is more urgent than this one, in set 0, and NEWJOB is 0
pub record StaysBut (sets : List (Option HeldJob)) (k : ℕ) (job : HeldJob) (newjob : ℕ)
    : Type 0 where
  pub none : newjob ≡ 0
  pub most : (j : ℕ) (s : HeldJob) → j ≢ k → Holds sets j s → s.asleep ≡ false
      → s.priority ≤ job.priority

-- but for the job of set k, set i holds the best job, which is more urgent than this one, in set 0,
-- and NEWJOB names it
pub record NamesBut (sets : List (Option HeldJob)) (k : ℕ) (job : HeldJob) (newjob : ℕ)
    : Type 0 where
  pub place : ℕ
  pub name : newjob ≡ 12 * place
  pub behind : 1 ≤ place
  pub first : HeldJob
  pub here : Holds sets place first
  pub awake : first.asleep ≡ false
  pub urgent : job.priority < first.priority
  pub yields : (j : ℕ) (s : HeldJob) → j ≢ k → Holds sets j s → s.asleep ≡ false → Yields s first

-- a job runs; that of set k became awake, and NEWJOB doesn't know of it yet
pub record IsNewcomer (words : List ℕ) (k : ℕ) : Type 0 where
  pub job : HeldJob
  pub front : Holds (sets_of words) 0 job
  pub runs : job.asleep ≡ false
  pub comer : HeldJob
  pub here : Holds (sets_of words) k comer
  pub awake : comer.asleep ≡ false
  pub behind : 0 < k
  pub named : StaysBut (sets_of words) k job (slice_index words layout.newjob)
      ⊎ NamesBut (sets_of words) k job (slice_index words layout.newjob)

-- the best job runs
pub record IsLed (sets : List (Option HeldJob)) : Type 0 where
  pub runs : FrontRuns sets
  pub first : running_in sets ≡ best (slots_of sets)

-- the reply to a new job: its number, or that all are used
abbrev pub replied : Option ℕ → Reply
replied None = Alarmed A1202
replied (Some number) = Established number

-- one more job, with this area, if there is room
abbrev pub DoesEstablish : ℕ → Entry → ℕ → List ℕ → List ℕ → Reply → Type 0
DoesEstablish priority entry area old new reply =
    Does (establish_at (least_unused 1 (jobs_in old).slots) (new_job priority entry area)
    (jobs_in old))
    (placed_new (established reply) (runner_in new) (entries_in old))
    (blocks_new (established reply) priority entry area (runner_in new) (entries_in old)
    (blocks_of old))
    old new reply

-- the new job has this number
abbrev pub DoesAdmit : ℕ → ℕ → Entry → ℕ → List ℕ → List ℕ → Type 0
DoesAdmit number priority entry area old new =
    DoesEstablish priority entry area old new (Established number)
