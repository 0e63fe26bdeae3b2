-- A session: requests asked of a machine in order, and what is written of it.
use Rattle.std.specs.Prelude.{◌≡◌, ℕ, List, [], ◌∷◌, ◌++◌, ◌⊎◌, Option, Result, Ok, Err}
use Rattle.std.specs.Io.KnownBytes.{Appends}
use Rattle.agc_plan.specs.declared.request.Request.{Request}
use Rattle.agc_machine.specs.Image.{HandsOut}
use Rattle.agc_machine.specs.Machines.{Machined, after, after_all}
use Rattle.agc_session.specs.declared.run_fault.RunFault.{RunFault}
use Rattle.agc_session.specs.declared.run_fault.RunFault.TheVariants.{NoMemory, Output}
use Rattle.agc_text.specs.Report.{report_text}
use Rattle.agc_text.specs.Session.{line_for}
use Rattle.agc_text.specs.Writing.{AppendsFront}

-- the lines of the answers, in order
unfoldable pub answer_lines : Machined → List Request → List ℕ
answer_lines machine [] = []
answer_lines machine (request ∷ requests) =
    line_for machine request ++ answer_lines (after machine request) requests

-- the text of a session: a line for each answer, then the report of totals and words of the machine
-- that was reached
pub record IsSession (machine : Machined) (requests : List Request) (text : List ℕ) : Type 0 where
  pub words : List ℕ
  pub words_are : HandsOut (after_all machine requests) words
  pub text_is : text ≡ answer_lines machine requests
      ++ report_text (after_all machine requests).plan.sets words
      (after_all machine requests).totals

-- the text that a run of one caller wrote: the session's and nothing else; if a write failed, a
-- front of it: part of the answers' lines, or all of them and part of the report; nothing if memory
-- ran out; no other fault comes
abbrev pub WritesSession : {T : Type 0} → Option (List ℕ) → Option (List ℕ) → Machined
    → List Request → Result T RunFault → Type 0
WritesSession old new machine requests (Ok _) = (text : List ℕ) × IsSession machine requests text
    × Appends old new text
WritesSession old new machine requests (Err Output) =
    AppendsFront old new (answer_lines machine requests)
    ⊎ ((text : List ℕ) × IsSession machine requests text × AppendsFront old new text)
WritesSession old new machine requests (Err NoMemory) = new ≡ old
WritesSession old new machine requests (Err other) = ⊥
