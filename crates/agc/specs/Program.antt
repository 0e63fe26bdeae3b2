-- The program's output for its input, in each mode.
use Rattle.std.specs.Prelude.{◌≡◌, ◌⊎◌, ℕ, true, List, map, Option, Result, Ok, Err}
use Rattle.std.specs.Io.KnownBytes.{Keeps}
use Rattle.std.specs.List.{AllByRecursion}
use Rattle.toml.specs.Parse.{parse_document}
use Rattle.agc_plan.specs.declared.request.Request.{Request}
use Rattle.agc_plan.specs.Ranges.{IsRequest}
use Rattle.agc_text.specs.Faults.{RefusesScript}
use Rattle.agc_text.specs.Lines.{line_of}
use Rattle.agc_text.specs.Script.{lines_of}
use Rattle.agc_document.specs.Benches.{Benched}
use Rattle.agc_document.specs.Faults.{RefusesBench}
use Rattle.agc_session.specs.declared.run_fault.RunFault.{RunFault}
use Rattle.agc_session.specs.Runs.{bench_machine, bench_requests, script_machine}
use Rattle.agc_session.specs.Session.{WritesSession}
use Rattle.agc_bench.specs.Threads.{WritesRun}
use Rattle.agc.specs.declared.fault.ProgramFault.{ProgramFault}
use Rattle.agc.specs.declared.fault.ProgramFault.TheVariants as fault
use Rattle.agc.specs.Inputs.{CanEnd, EndsBy, IsDocument}
use Rattle.agc.specs.declared.mode.Mode.{Mode}
use Rattle.agc.specs.declared.mode.Mode.TheVariants as mode
use Rattle.agc.specs.Modes.{AskFor}

-- the output of a run of this text: a script's, or a bench's by one caller or by threads, none of
-- which a gate stops
abbrev pub WritesOf : Mode → List ℕ → Option (List ℕ) → Option (List ℕ)
    → Result Unit RunFault → Type 0
WritesOf mode.Script text old new outcome = (requests : List Request)
    × AllByRecursion IsRequest requests × (lines_of text ≡ map line_of requests)
    × WritesSession old new script_machine requests outcome
WritesOf mode.Serial text old new outcome = (bench : Benched) × IsDocument text bench
    × WritesSession old new (bench_machine bench) (bench_requests bench) outcome
WritesOf mode.Threads text old new outcome = (bench : Benched) × IsDocument text bench
    × WritesRun (λ _ _ answer. answer ≡ true) (λ _ _ _. Unit {0}) bench old new outcome

-- why this text is not run: it is no script, or no bench
abbrev pub Refuses : Mode → List ℕ → ProgramFault → Type 0
Refuses mode.Script text (fault.Script why) = RefusesScript (lines_of text) why
Refuses mode.Serial text (fault.Bench why) = RefusesBench (parse_document text) why
Refuses mode.Threads text (fault.Bench why) = RefusesBench (parse_document text) why
Refuses _ text _ = ⊥

-- a text is refused, and nothing was written; or it is run
abbrev pub RunsText : Mode → List ℕ → Option (List ℕ) → Option (List ℕ)
    → Result Unit ProgramFault → Type 0
RunsText mode text old new (Ok done) = WritesOf mode text old new (Ok done)
RunsText mode text old new (Err (fault.Run why)) = WritesOf mode text old new (Err why)
RunsText mode text old new (Err why) = Refuses mode text why × (new ≡ old)

-- the input is run as the mode says, and what it wrote leaves the buffer; or a flush failed
abbrev pub RunsThrough : Mode → Option (List ℕ) → Option (List ℕ) → Option (List ℕ)
    → Option (List ℕ) → Result Unit ProgramFault → Type 0
RunsThrough mode unread rest old new outcome = (outcome ≡ Err fault.Output)
    ⊎ ((written : Option (List ℕ)) × EndsBy (RunsText mode) unread rest old written outcome
    × Keeps written new)

-- words can end so: as the mode for which they ask, or for want of memory; or they ask for none,
-- and are refused
abbrev pub EndsFor : (words : List (List ℕ)) → Result Unit ProgramFault → Type 0
EndsFor words outcome = ((asked : Mode) × AskFor words asked × CanEnd (RunsText asked) outcome)
    ⊎ (outcome ≡ Err fault.NoMemory)
    ⊎ (((asked : Mode) → AskFor words asked → ⊥) × (outcome ≡ Err fault.Words))

-- a run can end so, for some words
abbrev pub IsEnd : Result Unit ProgramFault → Type 0
IsEnd outcome = (words : List (List ℕ)) × EndsFor words outcome
