-- Of proofs alone: how one line is drained, after those before it.
use Rattle.std.specs.Prelude.{◌≡◌, ◌↔◌, ◌⊎◌, ℕ, ◌+◌, ◌<◌, List, [], ◌++◌, length, take, slice_get}
use Rattle.std.specs.Prelude.{Option, Some, None, IsNone, Result, Ok, Err}
use Rattle.std.specs.Option.{option_and_then, option_or}
use Rattle.agc_plan.specs.declared.line.Line.{Line}
use Rattle.agc_latch.specs.Lines.{on}
use Rattle.agc_latch.specs.Accounts.{Applies, Begins, LineAccounts}
use Rattle.agc_plan.specs.declared.request.Request.{Request}
use Rattle.agc_plan.specs.declared.reply.Reply.{Reply}
use Rattle.agc_plan.specs.Plans.{Planned}
use Rattle.agc_machine.specs.declared.answer.Refusal.{Refusal}
use Rattle.agc_machine.specs.Machines.{after_all}
use Rattle.agc_desk.specs.Desks.{Desked}
use Rattle.agc_desk.specs.Draining.{NoneRefused, ServesAll, answers_to, pulse_refusal, requests_by}
use Rattle.agc_desk.specs.History.{Holder}
use Rattle.agc_desk.specs.Pulses.{Pulse, left_on}
use Rattle.agc_plan.specs.Pulses.{pulse_requests}

-- the requests that the accounts leave for later on one line
abbrev pub line_left : Planned → Line → LineAccounts → List Pulse
line_left plan line lines = left_on plan line (on line lines.owed) (on line lines.begun)

-- a request of a pulse of the line
abbrev pub pulse_on : Line → Request → Pulse
pulse_on line asked = record { line = line; request = asked }

-- the first owed pulse of a line asks for this next
abbrev pub NextIs : Planned → Line → LineAccounts → Request → Type 0
NextIs plan line lines asked =
    slice_get (pulse_requests plan line) (on line lines.begun) ≡ Some asked

-- one more of its requests was served: with the last the pulse is applied, else it is begun further
abbrev pub Proceeds : Planned → Line → LineAccounts → LineAccounts → Type 0
Proceeds plan line old now =
    ((length (pulse_requests plan line) ≡ on line old.begun + 1)
    × Applies line 1 old now × (on line now.begun ≡ 0))
    ⊎ ((on line old.begun + 1 < length (pulse_requests plan line)) × Begins line old now)

-- the accounts of lines proceed so, if this is the outcome of a pulse's request and no refusal;
-- else nothing changes
abbrev pub Marks : Planned → Option Line → Result Reply Refusal → LineAccounts → LineAccounts
    → Type 0
Marks plan (Some line) (Ok reply) old now = Proceeds plan line old now
Marks plan (Some line) (Err refusal) old now = now ≡ old
Marks plan None outcome old now = now ≡ old

-- the request that is tried last: none after a refusal, otherwise the next
abbrev pub tried_after : Option Refusal → List Pulse → List Pulse
tried_after None left = take 1 left
tried_after (Some refusal) left = []

-- n pulses of a line are applied, where nothing of an earlier line was refused, and the next
-- request, if there is one, is refused
pub record DrainsLine (before : Option Refusal) (plan : Planned) (line : Line)
    (old : Desked) (share : Holder) (n : ℕ) (refused : Option Refusal)
    (now : Desked) (new : Holder) : Type 0 where
  pub lines : Applies line n old.lines now.lines
  pub served : List Pulse
  pub left : line_left plan line old.lines ≡ served ++ line_left plan line now.lines
  pub asked : ServesAll (served ++ tried_after before (line_left plan line now.lines))
      old share now new
  pub machine : now.machine ≡ after_all old.machine (requests_by served)
  pub none_refused : NoneRefused (answers_to old.machine (requests_by served))
  pub refusal : refused ≡ option_or before
      (option_and_then (pulse_refusal now.machine) (slice_get (line_left plan line now.lines) 0))
  pub stopped : (r : Refusal) → before ≡ Some r → (n ≡ 0) × (served ≡ [])
  pub none_left : before ≡ None → (IsNone refused ↔ on line now.lines.owed ≡ 0)
