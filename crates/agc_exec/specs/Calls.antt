-- The effect of each call on the words.
use Rattle.std.specs.Prelude.{◌≡◌, ℕ, ◌+◌, ◌*◌, ◌%◌, List, [], ◌∷◌, Option, Some, None, slice_index}
use Rattle.std.specs.Prelude.{slice_index_or, slice_set, swap, replicate, map}
use Rattle.agc_word.specs.Layout.{OutsideCores, Keeps, sets_in}
use Rattle.agc_word.specs.Words.{complement}
use Rattle.agc_plan.specs.declared.request.Entry.{Entry}
use Rattle.agc_plan.specs.declared.reply.Reply.{Reply}
use Rattle.agc_plan.specs.declared.reply.Reply.TheVariants.{Roused}
use Rattle.agc_plan.specs.Jobs as plain
use Rattle.agc_plan.specs.Jobs.{Outcome, least_unowned, no_jobs, established}
use Rattle.agc_plan.specs.Places.{place_of, with_new, without, placed_new, placed_end, fronted}
use Rattle.agc_exec.specs.Blocks.{blocks_of}
use Rattle.agc_exec.specs.Image.{minus_zero, priority_unit, urgency_word, IsTidy, IsLawfulWords}
use Rattle.agc_exec.specs.Image.{jobs_in, entries_in, runner_in}

-- the twelve words of a new job with this PRIORITY word: its work words, MODE and PUSHLOC are 00000
abbrev pub block_with : ℕ → Entry → ℕ → List ℕ
block_with number entry urgency =
    number ∷ 0 ∷ 0 ∷ 0 ∷ 0 ∷ 0 ∷ 0 ∷ 0 ∷ entry.at ∷ entry.bank ∷ 0 ∷ urgency ∷ []

-- the twelve words of a new job
abbrev pub new_block : ℕ → ℕ → Entry → ℕ → List ℕ
new_block number priority entry area = block_with number entry (urgency_word priority area)

-- the twelve words of set 0
abbrev pub front_block : List (List ℕ) → List ℕ
front_block blocks = slice_index_or blocks 0 []

-- twelve words, with PRIORITY 77777: a set is freed
abbrev pub freed_block : List ℕ → List ℕ
freed_block block = slice_set block 11 minus_zero

-- a job's twelve words, with PRIORITY complemented, and LOC at this address
abbrev pub slept_block : ℕ → List ℕ → List ℕ
slept_block at block = slice_set (slice_set block 11 (complement (slice_index block 11))) 8 at

-- a sleeper's twelve words, with PRIORITY complemented
abbrev pub woken_block : List ℕ → List ℕ
woken_block block = slice_set block 11 (complement (slice_index block 11))

-- a job's twelve words, with this priority, and the area's address as it was
abbrev pub urgent_block : ℕ → List ℕ → List ℕ
urgent_block priority block =
    slice_set block 11 (priority_unit * priority + slice_index block 11 % priority_unit)

-- the running job's twelve words are exchanged with those of set 0
abbrev pub fronted_blocks : Option ℕ → List ℕ → List (List ℕ) → List (List ℕ)
fronted_blocks None entries blocks = blocks
fronted_blocks (Some number) entries blocks = swap blocks 0 (place_of number entries)

-- after a new job of this number, if there is one, came to the first free set, and with this one
-- running
abbrev pub blocks_new : Option ℕ → ℕ → Entry → ℕ → Option ℕ → List ℕ → List (List ℕ) → List (List ℕ)
blocks_new None priority entry area running entries blocks = blocks
blocks_new (Some number) priority entry area running entries blocks =
    fronted_blocks running (with_new number entries)
    (slice_set blocks (place_of 0 entries) (new_block number priority entry area))

-- after a new job with the least unowned area, if there is one
abbrev pub blocks_found : Option ℕ → Option ℕ → ℕ → Entry → Option ℕ → List ℕ → List (List ℕ)
    → List (List ℕ)
blocks_found None number priority entry running entries blocks = blocks
blocks_found (Some area) number priority entry running entries blocks =
    blocks_new number priority entry area running entries blocks

-- after the job in set 0 ended, if one ran, and with this one running
abbrev pub blocks_end : Option ℕ → Option ℕ → List ℕ → List (List ℕ) → List (List ℕ)
blocks_end None running entries blocks = blocks
blocks_end (Some number) running entries blocks =
    fronted_blocks running (without number entries)
    (slice_set blocks 0 (freed_block (front_block blocks)))

-- after the words of set 0 became these, if a job ran, and with this one running
abbrev pub blocks_changed : Option ℕ → List ℕ → Option ℕ → List ℕ → List (List ℕ) → List (List ℕ)
blocks_changed None block running entries blocks = blocks
blocks_changed (Some number) block running entries blocks =
    fronted_blocks running entries (slice_set blocks 0 block)

-- the number of the job that was awakened, if the reply tells one
abbrev pub roused : Reply → Option ℕ
roused (Roused number) = Some number
roused reply = None

-- after the job of this number, if there is one, woke, and with this one running
abbrev pub blocks_roused : Option ℕ → Option ℕ → List ℕ → List (List ℕ) → List (List ℕ)
blocks_roused None running entries blocks = blocks
blocks_roused (Some number) running entries blocks =
    fronted_blocks running entries (slice_set blocks (place_of number entries)
    (woken_block (slice_index_or blocks (place_of number entries) [])))

-- the effect of a call: from the old words to the new, with this reply
pub record Does (outcome : Outcome) (entries : List ℕ) (blocks : List (List ℕ)) (old new : List ℕ)
    (reply : Reply) : Type 0 where
  -- the new words are lawful
  pub lawful : IsLawfulWords new
  -- the new words stand for the jobs of the outcome, with its running job, and the reply is its
  -- reply
  pub outcome_is : ◌≡◌ {A = Outcome} (record { jobs = jobs_in new; reply = reply }) outcome
  -- each job stands in this set
  pub placed : entries_in new ≡ entries
  -- these are the twelve words of each set
  pub words : blocks_of new ≡ blocks
  -- tidy words stay tidy
  pub tidy : IsTidy old → IsTidy new
  -- each word of the other tables is as before
  pub others : Keeps OutsideCores old new

-- NOVAC
abbrev pub DoesNovac : ℕ → Entry → List ℕ → List ℕ → Reply → Type 0
DoesNovac priority entry old new reply =
    Does (plain.novac priority entry (jobs_in old))
    (placed_new (established reply) (runner_in new) (entries_in old))
    (blocks_new (established reply) priority entry 0 (runner_in new) (entries_in old)
    (blocks_of old))
    old new reply

-- FINDVAC
abbrev pub DoesFindvac : ℕ → Entry → List ℕ → List ℕ → Reply → Type 0
DoesFindvac priority entry old new reply =
    Does (plain.findvac priority entry (jobs_in old))
    (placed_new (established reply) (runner_in new) (entries_in old))
    (blocks_found (least_unowned 5 1 (jobs_in old).slots) (established reply) priority entry
    (runner_in new) (entries_in old) (blocks_of old))
    old new reply

-- end of job
abbrev pub DoesEnd : List ℕ → List ℕ → Reply → Type 0
DoesEnd old new reply =
    Does (plain.end_of_job (jobs_in old))
    (placed_end (runner_in old) (runner_in new) (entries_in old))
    (blocks_end (runner_in old) (runner_in new) (entries_in old) (blocks_of old))
    old new reply

-- JOBSLEEP
abbrev pub DoesSleep : ℕ → List ℕ → List ℕ → Reply → Type 0
DoesSleep at old new reply =
    Does (plain.sleep at (jobs_in old))
    (fronted (runner_in new) (entries_in old))
    (blocks_changed (runner_in old) (slept_block at (front_block (blocks_of old))) (runner_in new)
    (entries_in old) (blocks_of old))
    old new reply

-- JOBWAKE
abbrev pub DoesWake : ℕ → List ℕ → List ℕ → Reply → Type 0
DoesWake at old new reply =
    Does (plain.rouse at (jobs_in old))
    (fronted (runner_in new) (entries_in old))
    (blocks_roused (roused reply) (runner_in new) (entries_in old) (blocks_of old))
    old new reply

-- PRIOCHNG
abbrev pub DoesPrio : ℕ → List ℕ → List ℕ → Reply → Type 0
DoesPrio priority old new reply =
    Does (plain.prio priority (jobs_in old))
    (fronted (runner_in new) (entries_in old))
    (blocks_changed (runner_in old) (urgent_block priority (front_block (blocks_of old)))
    (runner_in new) (entries_in old) (blocks_of old))
    old new reply

-- change of job
abbrev pub DoesChange : List ℕ → List ℕ → Reply → Type 0
DoesChange old new reply =
    Does (plain.change (jobs_in old))
    (fronted (runner_in new) (entries_in old))
    (fronted_blocks (runner_in new) (entries_in old) (blocks_of old))
    old new reply

-- a work word is set
abbrev pub DoesStore : ℕ → ℕ → List ℕ → List ℕ → Reply → Type 0
DoesStore place word old new reply =
    Does (plain.store place word (jobs_in old))
    (entries_in old)
    (blocks_changed (runner_in old) (slice_set (front_block (blocks_of old)) place word)
    (runner_in new) (entries_in old) (blocks_of old))
    old new reply

-- all sets and areas became free, and nobody runs
pub record Clears (old new : List ℕ) : Type 0 where
  pub lawful : IsLawfulWords new
  pub jobs : jobs_in new ≡ no_jobs (sets_in new)
  pub placed : entries_in new ≡ replicate (sets_in new) 0
  -- of the twelve words of each set PRIORITY alone changed
  pub words : blocks_of new ≡ map freed_block (blocks_of old)
  pub tidy : IsTidy new
  pub others : Keeps OutsideCores old new
