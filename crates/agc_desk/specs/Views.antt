-- Of proofs alone: the rule of the table that ties what a desk and the holders of its shares know
-- of one history.
use Rattle.std.specs.Prelude.{◌≡◌, ℕ, ◌+◌, ◌<◌, List, [], ◌∷◌, ◌++◌, nat_eq, true, false, Option}
use Rattle.std.specs.List.{All}
use mathlib.Core.Option.{some}
use lib.ListN.{get_elem?}
use Rattle.std.specs.List.{list_any}
use Rattle.atomic_table.specs.Table.{Me, Step}
use Rattle.agc_plan.specs.declared.line.Line.{Line}
use Rattle.agc_machine.specs.Said.{Said}
use Rattle.agc_desk.specs.declared.ties.Call.{Call}
use Rattle.agc_desk.specs.declared.ties.View.{View}
use Rattle.agc_desk.specs.History.{Holder, calls_by, with_heard}
use Rattle.agc_desk.specs.Knowing.{knower}

-- a share's: it has a number, and knows what was asked with it, and how often it drained
abbrev pub owner : Holder → View
owner h = record {
  keeps = false;
  calls = [];
  given = 0;
  gathered = [];
  owns = true;
  number = h.number;
  heard = h.heard;
  drains = h.drains;
}

-- the knowledge of a share's view
abbrev pub holder_of : View → Holder
holder_of v = record { number = v.number; heard = v.heard; drains = v.drains }

-- a call with the share of this view
abbrev pub call_by : View → Said → Option Line → Call
call_by v said pulse = record { by = v.number; answer = said; pulse = pulse }

-- the desk's view after this call
abbrev pub with_call : View → Call → View
with_call v call = knower (v.calls ++ call ∷ []) v.given v.gathered

-- the view of a share that heard this call
abbrev pub hearing : View → Call → View
hearing v call = owner (with_heard (call ∷ []) (holder_of v))

-- who knows nothing
abbrev pub nobody : View
nobody = record {
  keeps = false;
  calls = [];
  given = 0;
  gathered = [];
  owns = false;
  number = 0;
  heard = [];
  drains = 0;
}

-- the desk's, with what a share knows
abbrev pub joined : View → View → View
joined v w = record v { owns = w.owns; number = w.number; heard = w.heard; drains = w.drains }

-- a number that was given out and gathered, so that no seat has it
pub record IsGathered (given : ℕ) (seat_of : ℕ → ℕ) (number : ℕ) : Type 0 where
  pub given_out : number < given
  pub nobody_has : seat_of number ≡ 0

-- the rule for the view of this seat; seat_of is 0 for a number that no seat has, and otherwise
-- greater by 1 than the seat
pub record Fits (keeper given : ℕ) (seat_of : ℕ → ℕ) (calls : List Call) (seat : ℕ) (v : View)
    : Type 0 where
  pub knows : v.keeps ≡ true → (seat ≡ keeper) × (v.calls ≡ calls) × (v.given ≡ given)
      × All (λ n. IsGathered given seat_of n) v.gathered
  pub own : v.owns ≡ true → (seat_of v.number ≡ seat + 1) × (v.number < given)
      × (calls_by v.number calls ≡ v.heard)

-- there is one history, which one seat knows; each number has at most one seat, which knows the
-- calls of that number; and all calls are of numbers that were given out
pub record Kept (views : List View) : Type 0 where
  pub keeper : ℕ
  pub given : ℕ
  pub seat_of : ℕ → ℕ
  pub calls : List Call
  pub below : All (λ call. call.by < given) calls
  pub fits : (seat : ℕ) (v : View) → get_elem? views seat ≡ some v
      → Fits keeper given seat_of calls seat v

-- the number is gathered: what was heard with it is what the history has of it, and it was given
-- out and not gathered before
pub record Gathers (v w : View) : Type 0 where
  pub new : w ≡ knower v.calls v.given (v.gathered ++ v.number ∷ [])
  pub heard : calls_by v.number v.calls ≡ v.heard
  pub given_out : v.number < v.given
  pub apart : list_any (nat_eq v.number) v.gathered ≡ false

abbrev pub Gathered : {S : Type 0} → Step S → Me S View → ℕ → Me S View → Type 0
Gathered s v found w = Gathers v.0 w.0 × (w.1 ≡ v.1)

-- the desk is drained once more with the share
abbrev pub Counted : {S : Type 0} → Step S → Me S View → ℕ → Me S View → Type 0
Counted s v found w = (w.0 ≡ record v.0 { drains = v.0.drains + 1 }) × (w.1 ≡ v.1)

-- nothing changes, and all calls are of numbers that were given out
abbrev pub Checked : {S : Type 0} → Step S → Me S View → ℕ → Me S View → Type 0
Checked s v found w = (w ≡ v) × All (λ call. call.by < v.0.given) v.0.calls
