-- Of proofs alone: what the threads of a run know of their shares and devices.
use Rattle.std.specs.Prelude.{◌≡◌, ℕ, ◌+◌, ◌<◌, List, ◌∷◌, ◌++◌, length, map, slice_index_or}
use Rattle.std.specs.Prelude.{Bool, IsSome, Some}
use Rattle.std.specs.List.{All}
use Rattle.atomic_table.specs.Seated.{TableId}
use Rattle.agc_latch.specs.declared.accounts.Settled.{Settled}
use Rattle.agc_plan.specs.declared.line.Line.{Line}
use Rattle.agc_latch.specs.Accounts.{posted_by}
use Rattle.agc_latch.specs.Ends.{Posting, new_device}
use Rattle.agc_latch.specs.Lines.{on, raised, zeros}
use Rattle.agc_plan.specs.Pulses.{word_of}
use Rattle.agc_machine.specs.Machines.{Machined}
use Rattle.agc_machine.specs.Said.{Said}
use Rattle.agc_desk.specs.declared.ties.Call.{Call}
use Rattle.agc_desk.specs.Desks.{ArePulses}
use Rattle.agc_desk.specs.Draining.{answers_to}
use Rattle.agc_desk.specs.History.{Holder, IsHistory, calls_by}
use Rattle.agc_desk.specs.History.{new_holder, own_call, with_heard}
use Rattle.agc_desk.specs.Lending.{Lent}
use Rattle.agc_document.specs.Benches.{Benched}
use Rattle.agc_bench.specs.Threads.{Asker, Worker, Attends, AskedOwn, IsAllTold, IsRun}
use Rattle.agc_bench.specs.Threads.{ToldOwn, threads_of}
use Rattle.agc_bench.specs.Steps.{thread_at}

-- the calls of the share of number 0, with these answers, of no line's pulse
abbrev pub first_calls : List Said → List Call
first_calls told = map (own_call 0) told

-- shares with which nothing was asked, numbered from this one on
abbrev pub AreFresh : ℕ → List Holder → Type 0
AreFresh from shares = (i : ℕ) (d : Holder) → i < length shares
    → slice_index_or shares i d ≡ new_holder (from + i)

-- shares numbered from 0, with which just these calls were made
abbrev pub HaveMade : List Call → List Holder → Type 0
HaveMade calls shares = (i : ℕ) (d : Holder) → i < length shares
    → slice_index_or shares i d ≡ with_heard (calls_by i calls) (new_holder i)

-- how often one who asks drains
abbrev pub drains_of : Asker → ℕ
drains_of (Worker worker requests) = 0
drains_of (Attends times) = times

-- with a share that was what is old, these calls were made and this many drains, and it is now new
pub record GoesOnWith (calls : List Call) (drains : ℕ) (old new : Holder) : Type 0 where
  pub number : new.number ≡ old.number
  pub heard : new.heard ≡ old.heard ++ calls
  pub drains_are : new.drains ≡ old.drains + drains

-- with a share its holder did what is its own, and the gate was told so
pub record AsksOwn (may_answer : ℕ → ℕ → Bool → Type 0) (is_told : ℕ → ℕ → Said → Type 0)
    (asker : Asker) (old new : Holder) : Type 0 where
  pub calls : List Call
  pub own : AskedOwn may_answer asker calls
  pub told : ToldOwn is_told asker calls
  pub with_it : GoesOnWith calls (drains_of asker) old new

-- with a share its holder drained this many times, and all its calls were pulses
pub record AsksPulses (times : ℕ) (old new : Holder) : Type 0 where
  pub calls : List Call
  pub own : All (λ call. IsSome call.pulse) calls
  pub with_it : GoesOnWith calls times old new

-- with each share what is its own was asked; s and t stand in where a list has no such place
abbrev pub EachAsks : (ℕ → ℕ → Bool → Type 0) → (ℕ → ℕ → Said → Type 0) → (ℕ → Asker)
    → List Holder → List Holder → Type 0
EachAsks may_answer is_told who old new =
    (i : ℕ) (s t : Holder) → i < length new
    → AsksOwn may_answer is_told (who i) (slice_index_or old i s) (slice_index_or new i t)

-- each thread of a bench asked what is its own, with the share that it had
pub record HaveAsked (may_answer : ℕ → ℕ → Bool → Type 0) (is_told : ℕ → ℕ → Said → Type 0)
    (bench : Benched) (old new : List Holder) : Type 0 where
  pub for_each : length new ≡ length old
  pub each : EachAsks may_answer is_told (thread_at bench) old new

-- the posts of a device per line: all its pulses, on its own
abbrev pub posts_of : Line × ℕ → List ℕ
posts_of device = raised (word_of device.0) device.1 zeros

-- a device of this latch that posted all its pulses
abbrev pub spent_device : TableId → Line × ℕ → Posting
spent_device latch device = record { latch = latch; posts = device.1; posted = posts_of device }

-- the devices of a bench before they post, each of which may post its pulses
abbrev pub new_devices : TableId → Benched → List Posting
new_devices latch bench = map (λ d. new_device latch d.1) bench.devices

-- the devices of a bench after they have posted all their pulses
abbrev pub spent_devices : TableId → Benched → List Posting
spent_devices latch bench = map (spent_device latch) bench.devices

-- the promise of the thread of this number: to make its own requests, as the bench says, with the
-- share at its place as that was when the thread started, through this gate
pub record IsPledge {G : Type 0} (bench : Benched) (starts : List Holder) (gate : G) (thread : ℕ)
    (its_start : Holder) (its_bench : Benched) (its_thread : ℕ) (its_gate : G) : Type 0 where
  pub start_is : (s : Holder) → its_start ≡ slice_index_or starts thread s
  pub bench_is : its_bench ≡ bench
  pub thread_is : its_thread ≡ thread
  pub gate_is : its_gate ≡ gate

-- the promise of the thread of a device at this place: to post, on this latch, on the line and as
-- often as the bench says
pub record IsPosts (latch : TableId) (bench : Benched) (place : ℕ) (its_latch : TableId)
    (planned : Line × ℕ) : Type 0 where
  pub latch_is : its_latch ≡ latch
  pub planned_is : (d : Line × ℕ) → planned ≡ slice_index_or bench.devices place d

-- the part of a latch that a desk has lent when each device of a bench was given out, and none came
-- back
abbrev pub lent_to : TableId → Benched → Lent
lent_to latch bench =
    record { latch = Some latch; given = length bench.devices; settled = zeros }

-- the parts of a run before it begins: the script was asked with the caller's share; each thread
-- that asks has a share, with which nothing was asked; and each device may post its pulses
pub record AreReady (first : Machined) (bench : Benched) (latch : TableId)
    (caller : Holder) (shares : List Holder) (devices : List Posting) : Type 0 where
  pub caller_is : caller ≡ with_heard (first_calls (answers_to first bench.script)) (new_holder 0)
  pub fresh : AreFresh 1 shares
  pub for_each : length shares ≡ length (threads_of bench)
  pub devices_are : devices ≡ new_devices latch bench

-- the parts of a run when its threads have ended: each made its own requests with the share that it
-- had, and each device posted its pulses
pub record HaveRun (may_answer : ℕ → ℕ → Bool → Type 0) (is_told : ℕ → ℕ → Said → Type 0)
    (first : Machined) (bench : Benched) (latch : TableId) (caller : Holder) (shares : List Holder)
    (devices : List Posting) : Type 0 where
  pub starts : List Holder
  pub ready : AreReady first bench latch caller starts (new_devices latch bench)
  pub asked : HaveAsked may_answer is_told bench starts shares
  pub devices_are : devices ≡ spent_devices latch bench

-- a run of which the gate was told each call of each worker
pub record IsToldRun (may_answer : ℕ → ℕ → Bool → Type 0) (is_told : ℕ → ℕ → Said → Type 0)
    (bench : Benched) (machine : Machined) (settled : Settled) : Type 0 where
  pub run : IsRun may_answer bench machine settled
  pub told : IsAllTold is_told bench run.calls

-- calls come after those that were made before
abbrev pub GoesOn : List Call → List Call → Type 0
GoesOn old new = (more : List Call) × (new ≡ old ++ more)

-- the pulses that these devices posted: each was applied or is owed
pub record HaveSettled (devices : List Posting) (settled : Settled) : Type 0 where
  pub posted : (line : Line) → on line settled.posted ≡ posted_by line devices
  pub whole : (line : Line)
      → on line settled.posted ≡ on line settled.applied + on line settled.owed

-- after these calls the caller attends once with its share, and then the calls that were made with
-- that share and with these are one history, which leads to the machine, and of whose pulses this
-- many are told to be applied; none is begun where none is owed
pub record Finishes (first : Machined) (calls : List Call) (caller : Holder) (shares : List Holder)
    (machine : Machined) (settled : Settled) : Type 0 where
  pub more : List Call
  pub now : Holder
  pub attended : AsksPulses 1 caller now
  pub whole : IsHistory first (now ∷ shares) (calls ++ more) machine
  pub begun : List ℕ
  pub pulses : ArePulses first.plan (calls ++ more) settled.applied begun
  pub none_begun : (line : Line) → on line settled.owed ≡ 0 → on line begun ≡ 0
