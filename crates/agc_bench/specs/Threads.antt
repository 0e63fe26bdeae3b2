-- The requests and posts of a bench's threads, and the output of a run of them.
use Rattle.std.specs.Prelude.{◌≡◌, ℕ, ◌+◌, ◌<◌, List, [], ◌∷◌, ◌++◌, map, length, sum_by}
use Rattle.std.specs.Prelude.{◌==◌, if◌then◌else◌, Bool, Option, IsNone, IsSome}
use Rattle.std.specs.Prelude.{Result, Err}
use Rattle.std.specs.List.{All, enumerate_from}
use Rattle.agc_plan.specs.declared.request.Request.{Request}
use Rattle.agc_latch.specs.declared.accounts.Settled.{Settled}
use Rattle.agc_plan.specs.declared.line.Line.{Line}
use Rattle.agc_latch.specs.Lines.{on}
use Rattle.agc_plan.specs.Pulses.{word_of}
use Rattle.agc_machine.specs.Image.{HandsOut}
use Rattle.agc_machine.specs.Machines.{Machined, after_all}
use Rattle.agc_machine.specs.Said.{Said}
use Rattle.agc_desk.specs.declared.ties.Call.{Call}
use Rattle.agc_desk.specs.Desks.{ArePulses}
use Rattle.agc_desk.specs.History.{Leads, calls_by}
use Rattle.agc_desk.specs.Runs.{AreTold, IsFront, requests_of}
use Rattle.agc_session.specs.declared.run_fault.RunFault.{RunFault}
use Rattle.agc_session.specs.declared.run_fault.RunFault.TheVariants.{NoMemory, NoThread}
use Rattle.agc_session.specs.declared.run_fault.RunFault.TheVariants.{Lost}
use Rattle.agc_document.specs.Benches.{Benched}
use Rattle.agc_session.specs.Runs.{bench_machine, bench_plan}
use Rattle.agc_text.specs.Pulses.{pulses_text}
use Rattle.agc_text.specs.Report.{report_text}
use Rattle.agc_text.specs.Writing.{Writes}

-- who asks with a share: a worker with its number and its requests, or one who attends to pulses
-- this many times
pub data Asker : Type 0 where
  Worker : ℕ → List Request → Asker
  Attends : ℕ → Asker

-- who asks in a thread: the workers of a bench, numbered from 0, and then one who attends as often
-- as it says
abbrev pub threads_of : Benched → List Asker
threads_of bench =
    map (λ w. Worker w.0 w.1) (enumerate_from 0 bench.workers) ++ Attends bench.attends ∷ []

-- who asks: the caller of the run, which attends once when all threads have ended, and these
-- threads
abbrev pub askers_of : Benched → List Asker
askers_of bench = Attends 1 ∷ threads_of bench

-- one who asks made just these calls: a worker asked, as far as its gate lets it, the requests that
-- are its own, and for no pulse; one who attends asked for pulses
abbrev pub AskedOwn : (ℕ → ℕ → Bool → Type 0) → Asker → List Call → Type 0
AskedOwn may_answer (Worker worker requests) calls =
    IsFront (may_answer worker) requests (requests_of calls) × All (λ call. IsNone call.pulse) calls
AskedOwn may_answer (Attends times) calls = All (λ call. IsSome call.pulse) calls

-- The machine that a run leaves: the script was asked of the bench's machine, and then, in some
-- order, each worker asked what is its own, in its own order; all other calls are pulses, by the
-- thread that attends and by the caller. A call that is a line's pulse has a request of its pulses;
-- and what was served of those calls is all for which the line's applied pulses ask, and the first
-- requests of one more that is begun, and owed.
pub record IsRun (may_answer : ℕ → ℕ → Bool → Type 0) (bench : Benched)
    (machine : Machined) (settled : Settled) : Type 0 where
  pub calls : List Call
  pub leads : Leads (after_all (bench_machine bench) bench.script) calls machine
  pub each : All (λ asker. AskedOwn may_answer asker.1 (calls_by asker.0 calls))
      (enumerate_from 0 (askers_of bench))
  pub no_other : All (λ call. call.by < length (askers_of bench)) calls
  pub begun : List ℕ
  pub pulses : ArePulses (bench_plan bench) calls settled.applied begun
  pub none_begun : (line : Line) → on line settled.owed ≡ 0 → on line begun ≡ 0

-- the answers that a gate was given for these calls: all of a worker's; none of the thread that
-- attends
abbrev pub ToldOwn : (ℕ → ℕ → Said → Type 0) → Asker → List Call → Type 0
ToldOwn is_told (Worker worker requests) calls = AreTold (is_told worker) calls
ToldOwn is_told (Attends times) calls = Unit {0}

-- the gate was told each call of each worker, with its answer
abbrev pub IsAllTold : (ℕ → ℕ → Said → Type 0) → Benched → List Call → Type 0
IsAllTold is_told bench calls = All (λ asker. ToldOwn is_told asker.1 (calls_by asker.0 calls))
    (enumerate_from 0 (askers_of bench))

-- how many pulses of a line the devices of a bench have
abbrev pub pulses_of : Line → Benched → ℕ
pulses_of line bench =
    sum_by (λ d. if word_of d.0 == word_of line then d.1 else 0) bench.devices

-- the pulses of a bench: all were posted, and each was applied or is owed
pub record AreSettled (bench : Benched) (settled : Settled) : Type 0 where
  pub posted : (line : Line) → on line settled.posted ≡ pulses_of line bench
  pub whole : (line : Line)
      → on line settled.posted ≡ on line settled.applied + on line settled.owed

-- the report of the machine that a run leaves, each of whose calls the gate was told, and the lines
-- of what became of the pulses
pub record IsRunReport (may_answer : ℕ → ℕ → Bool → Type 0) (is_told : ℕ → ℕ → Said → Type 0)
    (bench : Benched) (text : List ℕ) : Type 0 where
  pub machine : Machined
  pub settled : Settled
  pub run : IsRun may_answer bench machine settled
  pub told : IsAllTold is_told bench run.calls
  pub words : List ℕ
  pub words_are : HandsOut machine words
  pub pulses : AreSettled bench settled
  pub text_is : text ≡ report_text machine.plan.sets words machine.totals
      ++ pulses_text settled.posted settled.applied settled.owed

-- the output of a run of threads: the report and nothing else; a front of it if a write failed;
-- nothing if there was no memory or no thread; Lost is never answered
abbrev pub WritesRun : {T : Type 0} → (ℕ → ℕ → Bool → Type 0) → (ℕ → ℕ → Said → Type 0) → Benched
    → Option (List ℕ) → Option (List ℕ) → Result T RunFault → Type 0
WritesRun may_answer is_told bench old new (Err NoMemory) = new ≡ old
WritesRun may_answer is_told bench old new (Err NoThread) = new ≡ old
WritesRun may_answer is_told bench old new (Err Lost) = ⊥
WritesRun may_answer is_told bench old new result =
    (text : List ℕ) × IsRunReport may_answer is_told bench text × Writes old new text result
