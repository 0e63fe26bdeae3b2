-- The values of a caller's numbers, and the request that they stand for, None if one is out of its
-- range; and the numbers of what a line spells.
use Rattle.std.specs.Prelude.{ℕ, ◌==◌, nat_lt, ◌&&◌, Bool, if◌then◌else◌, Option, Some, None, ◌≡◌}
use Rattle.std.specs.Prelude.{List}
use Rattle.std.specs.Option.{option_map, option_zip, is_some, option_map_or}
use Rattle.agc_plan.specs.declared.request.Entry.{Entry}
use Rattle.agc_plan.specs.declared.request.Request.{Request}
use Rattle.agc_plan.specs.declared.request.Request.TheVariants as request
use Rattle.agc_plan.specs.declared.request.Task.{Task}
use Rattle.libagc.specs.declared.reading.AgcRequest.{AgcRequest}
use Rattle.libagc.specs.declared.fault.Fault.{Fault}
use Rattle.libagc.specs.declared.fault.Fault.TheVariants.{OutOfRange, NotAWord}
use Rattle.agc_plan.specs.declared.request.Action.{Action}
use Rattle.agc_plan.specs.Pulses.{action_request}
use Rattle.agc_plan.specs.Ranges.{IsRequest, IsAction}
use Rattle.agc_text.specs.Lines.{line_of, action_line_of}

abbrev pub word_from_c : ℕ → Option ℕ
word_from_c n = if nat_lt n 32768 then Some n else None

-- a number from 1 up to below this limit
abbrev pub below : ℕ → ℕ → Option ℕ
below limit n = if nat_lt 0 n && nat_lt n limit then Some n else None

abbrev pub priority_from_c : ℕ → Option ℕ
priority_from_c n = below 32 n

abbrev pub address_from_c : ℕ → Option ℕ
address_from_c n = below 16384 n

abbrev pub delay_from_c : ℕ → Option ℕ
delay_from_c n = below 16251 n

abbrev pub six_from_c : ℕ → Option ℕ
six_from_c n = below 7 n

abbrev pub phase_from_c : ℕ → Option ℕ
phase_from_c n = if nat_lt n 128 then Some n else None

abbrev pub entry_from_c : ℕ → ℕ → Option Entry
entry_from_c at bank =
    option_map (λ e. record { at = e.0; bank = e.1 })
    (option_zip (address_from_c at) (word_from_c bank))

abbrev pub task_told : ℕ → ℕ → Option Task
task_told at bank =
    option_map (λ t. record { at = t.0; bank = t.1 })
    (option_zip (address_from_c at) (word_from_c bank))

abbrev pub start_from_c : ℕ → ℕ → ℕ → Option (ℕ × Entry)
start_from_c priority at bank = option_zip (priority_from_c priority) (entry_from_c at bank)

abbrev pub listing_from_c : ℕ → ℕ → ℕ → Option (ℕ × Task)
listing_from_c delay at bank = option_zip (delay_from_c delay) (task_told at bank)

-- a kind, 1 to 13, and its numbers in the order of a script's line; None if one is out of range
abbrev pub request_from_c : AgcRequest → Option Request
request_from_c r =
    if r.kind == 1 then option_map (λ s. request.Novac s.0 s.1)
    (start_from_c r.first r.second r.third)
    else if r.kind == 2 then option_map (λ s. request.Findvac s.0 s.1)
    (start_from_c r.first r.second r.third)
    else if r.kind == 3 then Some request.EndOfJob
    else if r.kind == 4 then option_map request.Sleep (address_from_c r.first)
    else if r.kind == 5 then option_map request.Rouse (address_from_c r.first)
    else if r.kind == 6 then option_map request.Prio (priority_from_c r.first)
    else if r.kind == 7 then Some request.Change
    else if r.kind == 8 then option_map (λ s. request.Store s.0 s.1)
    (option_zip (six_from_c r.first) (word_from_c r.second))
    else if r.kind == 9 then option_map (λ l. request.List l.0 l.1)
    (listing_from_c r.first r.second r.third)
    else if r.kind == 10 then Some request.Tick
    else if r.kind == 11 then option_map (λ p. request.SetPhase p.0 p.1)
    (option_zip (six_from_c r.first) (phase_from_c r.second))
    else if r.kind == 12 then Some request.Restart
    else if r.kind == 13 then Some request.Fresh
    else None

abbrev pub is_request : AgcRequest → Bool
is_request r = is_some (request_from_c r)

-- with 0 in place of its word, the second number of a store and else the third
abbrev pub without_word : AgcRequest → AgcRequest
without_word r =
    if r.kind == 8 then record { kind = 8; first = r.first; second = 0; third = r.third }
    else record { kind = r.kind; first = r.first; second = r.second; third = 0 }

-- why the numbers are no request: its word alone is none, or a number is out of range
abbrev pub request_fault : AgcRequest → Fault
request_fault r = if is_request (without_word r) then NotAWord else OutOfRange

-- a kind and its numbers
abbrev pub request_with : ℕ → ℕ → ℕ → ℕ → AgcRequest
request_with kind first second third =
    record { kind = kind; first = first; second = second; third = third }

-- the numbers of a request, in the order of its line; 0 for those that its kind doesn't have
abbrev pub numbers_of : Request → AgcRequest
numbers_of (request.Novac priority entry) = request_with 1 priority entry.at entry.bank
numbers_of (request.Findvac priority entry) = request_with 2 priority entry.at entry.bank
numbers_of request.EndOfJob = request_with 3 0 0 0
numbers_of (request.Sleep at) = request_with 4 at 0 0
numbers_of (request.Rouse at) = request_with 5 at 0 0
numbers_of (request.Prio priority) = request_with 6 priority 0 0
numbers_of request.Change = request_with 7 0 0 0
numbers_of (request.Store place word) = request_with 8 place word 0
numbers_of (request.List delay task) = request_with 9 delay task.at task.bank
numbers_of request.Tick = request_with 10 0 0 0
numbers_of (request.SetPhase group phase) = request_with 11 group phase 0
numbers_of request.Restart = request_with 12 0 0 0
numbers_of request.Fresh = request_with 13 0 0 0

-- the numbers of an action: of kind 0, or those of the request that asks for the same
abbrev pub action_numbers : Action → AgcRequest
action_numbers action = option_map_or numbers_of (action_request action) (request_with 0 0 0 0)

-- the text is the line of a request, and these are its numbers
pub record ReadsRequest (text : List ℕ) (numbers : AgcRequest) : Type 0 where
  pub request : Request
  pub in_range : IsRequest request
  pub line : text ≡ line_of request
  pub numbers_are : numbers ≡ numbers_of request

-- the text is the line of an action, and these are its numbers
pub record ReadsAction (text : List ℕ) (numbers : AgcRequest) : Type 0 where
  pub action : Action
  pub in_range : IsAction action
  pub line : text ≡ action_line_of action
  pub numbers_are : numbers ≡ action_numbers action
