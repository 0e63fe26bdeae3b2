-- Of proofs alone: what the steps of a run write.
use Rattle.std.specs.Prelude.{ℕ, List, Option, Result}
use Rattle.std.specs.Io.KnownBytes.{Appends}
use Rattle.agc_machine.specs.Image.{HandsOut}
use Rattle.agc_machine.specs.Machines.{Machined}
use Rattle.agc_text.specs.Report.{report_text}
use Rattle.agc_text.specs.Session.{line_for}
use Rattle.agc_text.specs.Writing.{AppendsFront, Writes}
use Rattle.agc_session.specs.Walks.{Writing}

-- the report of a machine's totals, and of words that are the machine's, was written and nothing
-- else; where a write failed, a front of it
abbrev pub WritesReport : {T E : Type 0} → Option (List ℕ) → Option (List ℕ) → Machined
    → Result T E → Type 0
WritesReport old new machine result = (words : List ℕ) × HandsOut machine words
    × Writes old new (report_text machine.plan.sets words machine.totals) result

-- a machine writes the line of its answer to a request; if a write fails, a front of it
abbrev pub line_written : Writing Machined
line_written machine request old new = Appends old new (line_for machine request)

abbrev pub line_stopped : Writing Machined
line_stopped machine request old new = AppendsFront old new (line_for machine request)
