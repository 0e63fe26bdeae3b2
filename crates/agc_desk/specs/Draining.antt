-- Draining a desk: it serves the requests of pulses that are owed.
use Rattle.std.specs.Prelude.{◌≡◌, ◌↔◌, ℕ, ◌+◌, ◌*◌, ◌<◌, ◌≤◌, List, [], ◌∷◌, ◌++◌, map, take}
use Rattle.std.specs.Prelude.{Option, Some, IsNone, IsOk, slice_get}
use Rattle.std.specs.List.{All}
use Rattle.std.specs.Option.{option_and_then}
use Rattle.atomic_table.specs.Seated.{TableId}
use Rattle.agc_plan.specs.declared.line.Line.{Line}
use Rattle.agc_latch.specs.Lines.{on}
use Rattle.agc_plan.specs.Pulses.{pulse_requests, word_of}
use Rattle.agc_latch.specs.Accounts.{IsKept, IsOf, IsTakenOnce, LineAccounts}
use Rattle.agc_latch.specs.Accounts.{given_of, latch_of, taken_on}
use Rattle.agc_plan.specs.declared.request.Request.{Request}
use Rattle.agc_plan.specs.Plans.{Planned}
use Rattle.agc_machine.specs.declared.answer.Refusal.{Refusal}
use Rattle.agc_machine.specs.Machines.{IsLawful, Machined, after, after_all, refusal_of, said_of}
use Rattle.agc_machine.specs.Said.{Said}
use Rattle.agc_machine.specs.Told.{add}
use Rattle.agc_desk.specs.declared.ties.Call.{Call}
use Rattle.agc_desk.specs.declared.drain.Drained.{Drained}
use Rattle.agc_desk.specs.Books.{told_in}
use Rattle.agc_desk.specs.Desks.{ArePulses, Desked, with_lines}
use Rattle.agc_desk.specs.History.{Holder, Leads, with_drain, with_heard}
use Rattle.agc_desk.specs.Pulses.{Pulse, left_of}

-- the answers of a machine to these requests, in order, each as its step answers it there
unfoldable pub answers_to : Machined → List Request → List Said
answers_to m [] = []
answers_to m (asked ∷ more) = said_of m asked ∷ answers_to (after m asked) more

-- these requests without their lines
abbrev pub requests_by : List Pulse → List Request
requests_by pulses = map (λ pulse. pulse.request) pulses

-- the calls by which a machine is asked for these, in order, with the share of this number
unfoldable pub calls_of : ℕ → Machined → List Pulse → List Call
calls_of number m [] = []
calls_of number m (pulse ∷ more) = record
    { by = number; answer = said_of m pulse.request; pulse = Some pulse.line }
    ∷ calls_of number (after m pulse.request) more

-- the desk after it was asked for these, in order, with the share of this number
abbrev pub with_asked : ℕ → List Pulse → Desked → Desked
with_asked number asked d = record d {
  machine = after_all d.machine (requests_by asked);
  history = d.history ++ calls_of number d.machine asked;
  booked = add d.booked (told_in (calls_of number d.machine asked));
}

-- the desk was asked for these, in order, with the share; but for that, its accounts of
-- lines alone changed
pub record ServesAll (asked : List Pulse)
    (old : Desked) (share : Holder) (now : Desked) (new : Holder) : Type 0 where
  pub desk : now ≡ with_lines now.lines (with_asked share.number asked old)
  pub heard : new ≡ with_heard (calls_of share.number old.machine asked) share

-- none of these was refused
abbrev pub NoneRefused : List Said → Type 0
NoneRefused told = All (λ said. IsOk said.outcome) told

-- each line was taken once, where there is a taker, so many pulses were found, and so many applied
-- of those that are owed; where a pulse of a line is left, none of a later line was applied; and
-- nothing else of the accounts changed, but how far pulses are begun
pub record Moves (found done : List ℕ) (old now : LineAccounts) : Type 0 where
  pub once : IsTakenOnce old.taker now.taker
  pub owed : (line : Line) → on line now.owed + on line done ≡ on line old.owed + on line found
  pub applied : (line : Line) → on line now.applied ≡ on line old.applied + on line done
  pub in_order : (line later : Line) → word_of line < word_of later → 0 < on line now.owed
      → on later done ≡ 0
  pub taken : (line : Line) → taken_on line now.taker ≡ taken_on line old.taker + on line found
  pub latch : latch_of now.taker ≡ latch_of old.taker
  pub given : given_of now.taker ≡ given_of old.taker
  pub devices : now.devices ≡ old.devices
  pub settled : now.settled ≡ old.settled

-- the pulses' requests that the accounts of lines leave for later
abbrev pub left_by : Planned → LineAccounts → List Pulse
left_by plan lines = left_of plan (λ line. on line lines.owed) (λ line. on line lines.begun)

-- why a machine refuses a request of a pulse, if it does
abbrev pub pulse_refusal : Machined → Pulse → Option Refusal
pulse_refusal m pulse = refusal_of m pulse.request

-- pulses that ask for nothing are left on a line only where an earlier line has some left
abbrev pub IdleWait : Planned → LineAccounts → Type 0
IdleWait plan lines = (line : Line) → pulse_requests plan line ≡ [] → 0 < on line lines.owed
    → (earlier : Line) × (word_of earlier < word_of line) × (0 < on earlier lines.owed)

-- The desk is drained with a share: it takes pulses, and asks in order for what they and those that
-- were owed before ask for, up to the first request that is refused. What was served and what is
-- left are together what was to be asked for. The requests, the refused one too, come with their
-- answers into the history, as those of pulses of their lines, to the share's holder and into the
-- books, and nothing else of the desk changes; and the holder counts one drain more.
pub record Drains (old : Desked) (share : Holder)
    (result : Drained) (now : Desked) (new : Holder) : Type 0 where
  pub lines : Moves result.taken result.applied old.lines now.lines
  pub served : List Pulse
  pub left : left_of old.machine.plan
      (λ line. on line old.lines.owed + on line result.taken) (λ line. on line old.lines.begun)
      ≡ served ++ left_by old.machine.plan now.lines
  pub asked : ServesAll (served ++ take 1 (left_by old.machine.plan now.lines))
      old (with_drain share) now new
  pub none_refused : NoneRefused (answers_to old.machine (requests_by served))
  pub refused : result.refused ≡ option_and_then (pulse_refusal now.machine)
      (slice_get (left_by old.machine.plan now.lines) 0)
  pub none_left : IsNone result.refused ↔ ((line : Line) → on line now.lines.owed ≡ 0)
  pub idle : IdleWait old.machine.plan now.lines

-- so a desk of this type may be drained: the calls of its history lead to its lawful machine from
-- the one with which it was made, and its taker, if it has one, is of the latch; what accounts keep
-- they keep, and no more was taken than 64 devices may post; and both accounts tell of the pulses
-- of the history
pub record Attends (first : Machined) (latch : TableId)
    (share : Holder) (result : Drained) (new : Holder) : Type 0 where
  pub old : Desked
  pub now : Desked
  pub leads : Leads first old.history old.machine
  pub lawful : IsLawful old.machine
  pub kept : IsKept old.lines
  pub kept_after : IsKept now.lines
  pub pulses : ArePulses first.plan old.history old.lines.applied old.lines.begun
  pub pulses_after : ArePulses first.plan now.history now.lines.applied now.lines.begun
  pub few : (line : Line) → on line result.taken ≤ 64 * 4294967295
  pub taker : IsOf latch old.lines.taker
  pub drains : Drains old share result now new
