-- The history of one machine: who asked what, and what was answered.
use Rattle.std.specs.Prelude.{◌≡◌, ℕ, ◌+◌, ◌++◌, ◌==◌, ◌&&◌, Bool, false, is_ok, List, [], ◌∷◌, map}
use Rattle.std.specs.Prelude.{nat_eq, Option, Some, None}
use Rattle.std.specs.List.{All, Contains, IsDistinct, filter}
use Rattle.agc_plan.specs.declared.line.Line.{Line}
use Rattle.agc_plan.specs.Pulses.{word_of}
use Rattle.agc_plan.specs.declared.request.Request.{Request}
use Rattle.agc_machine.specs.Said.{Said}
use Rattle.agc_machine.specs.Machines.{Machined, after, said_of}
use Rattle.agc_desk.specs.declared.ties.Call.{Call}

-- these calls lead in this order from the first machine to the last, each answered as the machine's
-- step answers it there
abbrev pub Leads : Machined → List Call → Machined → Type 0
Leads first [] last = first ≡ last
Leads first (call ∷ more) last =
    (call.answer ≡ said_of first call.answer.request)
    × Leads (after first call.answer.request) more last

-- the calls with the share of this number, in order
abbrev pub calls_by : ℕ → List Call → List Call
calls_by number calls = filter (λ call. call.by == number) calls

-- whether these are pulses of the line
abbrev pub is_of : Line → Option Line → Bool
is_of line None = false
is_of line (Some other) = word_of other == word_of line

-- whether a call is for a pulse of the line, and not refused
abbrev pub serves_line : Line → Call → Bool
serves_line line call = is_ok call.answer.outcome && is_of line call.pulse

-- the requests of these calls for pulses of a line that were not refused, in order
abbrev pub served_on : Line → List Call → List Request
served_on line calls = map (λ call. call.answer.request) (filter (serves_line line) calls)

-- a request that its holder asks with the share of this number, of its own accord and not for a
-- pulse, and the answer
abbrev pub own_call : ℕ → Said → Call
own_call number said = record { by = number; answer = said; pulse = None }

-- a share: its number; what its holder asked, for pulses or not, and was answered, in order; and
-- how often the desk was drained with it
pub record Holder : Type 0 where
  pub number : ℕ
  pub heard : List Call
  pub drains : ℕ

-- the holder of a share with which nothing was done
abbrev pub new_holder : ℕ → Holder
new_holder number = record { number = number; heard = []; drains = 0 }

-- the holder of a share after these calls
abbrev pub with_heard : List Call → Holder → Holder
with_heard calls holder = record holder { heard = holder.heard ++ calls }

-- the holder of a share after one more drain
abbrev pub with_drain : Holder → Holder
with_drain holder = record holder { drains = holder.drains + 1 }

-- the knowledge of a desk about its history: the calls, how many shares were given out, and the
-- numbers of those that were gathered
pub record Known : Type 0 where
  pub calls : List Call
  pub given : ℕ
  pub gathered : List ℕ

-- the numbers of these shares
abbrev pub numbers_of : List Holder → List ℕ
numbers_of shares = map (λ share. share.number) shares

-- the history of a machine that was asked with just these shares, no two of the same number
pub record IsHistory (first : Machined) (shares : List Holder) (calls : List Call) (last : Machined)
    : Type 0 where
  pub leads : Leads first calls last
  pub apart : IsDistinct nat_eq (numbers_of shares)
  pub each : All (λ share. calls_by share.number calls ≡ share.heard) shares
  pub no_other : All (λ call. Contains (numbers_of shares) call.by) calls
