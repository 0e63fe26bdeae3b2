-- The desk, as callers see it.
use Rattle.std.specs.Prelude.{◌≡◌, ℕ, ◌+◌, ◌<◌, ◌≤◌, List, [], ◌++◌, IfSome, length, take}
use Rattle.std.specs.List.{All, Contains}
use Rattle.agc_plan.specs.declared.line.Line.{Line}
use Rattle.agc_latch.specs.Lines.{on}
use Rattle.agc_plan.specs.Plans.{Planned}
use Rattle.agc_latch.specs.Accounts.{LineAccounts, no_accounts}
use Rattle.agc_machine.specs.declared.totals.Totals.{Totals}
use Rattle.agc_machine.specs.Machines.{Machined}
use Rattle.agc_machine.specs.Told.{add, nothing}
use Rattle.agc_desk.specs.declared.ties.Call.{Call}
use Rattle.agc_desk.specs.Books.{Ledgered}
use Rattle.agc_desk.specs.History.{Known, Leads, served_on}
use Rattle.agc_plan.specs.Pulses.{pulse_requests, repeated}

-- a desk: its machine, the calls that led to it, the books, how many shares were given out, and the
-- accounts of the lines on which devices post
pub record Desked : Type 0 where
  pub machine : Machined
  pub history : List Call
  pub booked : Totals
  pub given : ℕ
  pub lines : LineAccounts

-- a desk as it is made: nothing was asked, booked, given out or posted
abbrev pub new_desk : Machined → Desked
new_desk machine = record
    { machine = machine; history = []; booked = nothing; given = 0; lines = no_accounts }

-- the desk with these accounts of lines, and nothing else changed
abbrev pub with_lines : LineAccounts → Desked → Desked
with_lines lines d = record d { lines = lines }

-- The pulses of these calls: each call asks for something for which pulses of its line ask; and
-- what was asked on a line, and not refused, is all for which its applied pulses ask, one after the
-- other, and then the first requests of one more, so many as that one is begun, and not all
pub record ArePulses (plan : Planned) (calls : List Call) (applied begun : List ℕ) : Type 0 where
  pub each : All (λ call. IfSome call.pulse
      (λ line. Contains (pulse_requests plan line) call.answer.request)) calls
  pub served : (line : Line) → served_on line calls
      ≡ repeated (pulse_requests plan line) (on line applied)
      ++ take (on line begun) (pulse_requests plan line)
  pub not_all : (line : Line) → 0 < on line begun
      → on line begun < length (pulse_requests plan line)

-- the books of a desk that was made with the first machine: its history leads from that one to its
-- machine, and no share was gathered; each book is the machine's total less its value as the desk
-- was made; with each share went one of the 65 parts of each ledger, the desk keeps at least one,
-- and no share is back; and its lines tell
pub record IsBooked (first machine : Machined) (known : Known) (since : Totals)
    (ledgers : Ledgered) (lines : LineAccounts) : Type 0 where
  pub leads : Leads first known.calls machine
  pub none_gathered : known.gathered ≡ []
  pub since_is : since ≡ first.totals
  pub grown : add ledgers.total since ≡ machine.totals
  pub parts : ledgers.left + known.given ≡ 65
  pub one : 1 ≤ ledgers.left
  pub none_back : ledgers.back ≡ nothing
  pub pulses : ArePulses first.plan known.calls lines.applied lines.begun
