-- How numbers and lines are read, from their front.
use Rattle.std.specs.Prelude.{ℕ, ◌+◌, ◌-◌, ◌*◌, ◌^◌, List, [], ◌∷◌, codes, Option, Some, None}
use Rattle.std.specs.Prelude.{nat_lt, ◌==◌, ◌&&◌, if◌then◌else◌}
use Rattle.std.specs.Fmt.{decimal}
use Rattle.std.specs.Str.{bytes_eq}
use Rattle.std.specs.Str.Parse.{digits_value}
use Rattle.agc_plan.specs.declared.request.Entry.{Entry}
use Rattle.agc_plan.specs.declared.request.Task.{Task}
use Rattle.agc_plan.specs.declared.request.Request.{Request}
use Rattle.agc_plan.specs.declared.request.Request.TheVariants.{Novac, Findvac, EndOfJob, Sleep}
use Rattle.agc_plan.specs.declared.request.Request.TheVariants.{Rouse, Prio, Change, Store}
use Rattle.agc_plan.specs.declared.request.Request.TheVariants.{List as ListTask, Tick, SetPhase}
use Rattle.agc_plan.specs.declared.request.Request.TheVariants.{Restart, Fresh}
use Rattle.agc_plan.specs.declared.request.Action.{Action}
use Rattle.agc_plan.specs.declared.request.Action.TheVariants.{Novac as DoNovac}
use Rattle.agc_plan.specs.declared.request.Action.TheVariants.{Findvac as DoFindvac}
use Rattle.agc_plan.specs.declared.request.Action.TheVariants.{Rouse as DoRouse, List as DoList}
use Rattle.agc_text.specs.Chain.{◌>>=◌}

-- the digit of a byte
abbrev pub digit_of : ℕ → Option ℕ
digit_of c = if nat_lt c 48 then None else (if nat_lt c 56 then Some (c - 48) else None)

-- the number that octal digits stand for, over what stands before them
abbrev pub octal_onto : ℕ → List ℕ → Option ℕ
octal_onto n [] = Some n
octal_onto n (c ∷ cs) = digit_of c >>= λ d. octal_onto (8 * n + d) cs

-- the number of one octal digit
abbrev pub octal_one_of : List ℕ → Option ℕ
octal_one_of (a ∷ []) = digit_of a
octal_one_of _ = None

-- the number of two octal digits
abbrev pub octal_pair_of : List ℕ → Option ℕ
octal_pair_of (a ∷ b ∷ []) = octal_onto 0 (a ∷ b ∷ [])
octal_pair_of _ = None

-- the number of five octal digits
abbrev pub octal_five_of : List ℕ → Option ℕ
octal_five_of (a ∷ b ∷ c ∷ d ∷ e ∷ []) = octal_onto 0 (a ∷ b ∷ c ∷ d ∷ e ∷ [])
octal_five_of _ = None

-- the number, if it is of the range
abbrev pub within : ℕ → ℕ → ℕ → Option ℕ
within low high n = if nat_lt n low then None else (if nat_lt high n then None else Some n)

-- the number that the text is the decimal spelling of, below 2 ^ 16
unfoldable pub decimal_of : List ℕ → Option ℕ
decimal_of s = if bytes_eq s (decimal (digits_value 10 s)) && nat_lt (digits_value 10 s) (2 ^ 16)
    then Some (digits_value 10 s) else None

-- the delay that a text spells
unfoldable pub delay_of : List ℕ → Option ℕ
delay_of s = decimal_of s >>= within 1 16250

-- the phase that a text spells
unfoldable pub phase_of : List ℕ → Option ℕ
phase_of s = decimal_of s >>= within 0 127

-- the priority that a text spells
unfoldable pub priority_of : List ℕ → Option ℕ
priority_of s = octal_pair_of s >>= within 1 31

-- the address that a text spells
unfoldable pub address_of : List ℕ → Option ℕ
address_of s = octal_five_of s >>= within 1 16383

-- the group that a text spells
unfoldable pub group_of : List ℕ → Option ℕ
group_of s = octal_one_of s >>= within 1 6

-- the place that a text spells
unfoldable pub place_of : List ℕ → Option ℕ
place_of s = octal_one_of s >>= within 1 6

-- the text before the first such byte, and the text after it; None if there is no such byte
abbrev pub cut : ℕ → List ℕ → Option (List ℕ × List ℕ)
cut mark [] = None
cut mark (c ∷ cs) = if c == mark then Some ([], cs) else (cut mark cs >>= λ p. Some (c ∷ p.0, p.1))

-- a priority and an entry
unfoldable pub established_of : List ℕ → Option (ℕ × Entry)
established_of s = do
  first ← cut 32 s
  second ← cut 32 first.1
  priority ← priority_of first.0
  at ← address_of second.0
  bank ← octal_five_of second.1
  Some (priority, record { at = at; bank = bank })

-- a delay and a task
unfoldable pub listed_of : List ℕ → Option (ℕ × Task)
listed_of s = do
  first ← cut 32 s
  second ← cut 32 first.1
  delay ← delay_of first.0
  at ← address_of second.0
  bank ← octal_five_of second.1
  Some (delay, record { at = at; bank = bank })

-- a place and a word
unfoldable pub stored_of : List ℕ → Option Request
stored_of s = do
  parts ← cut 32 s
  place ← place_of parts.0
  word ← octal_five_of parts.1
  Some (Store place word)

-- a group and a phase
unfoldable pub phased_of : List ℕ → Option Request
phased_of s = do
  parts ← cut 32 s
  group ← group_of parts.0
  phase ← phase_of parts.1
  Some (SetPhase group phase)

-- the request of a job without an area
abbrev pub novac_of : List ℕ → Option Request
novac_of s = established_of s >>= λ e. Some (Novac e.0 e.1)

-- the request of a job with an area
abbrev pub findvac_of : List ℕ → Option Request
findvac_of s = established_of s >>= λ e. Some (Findvac e.0 e.1)

-- the request of a listing
abbrev pub listing_of : List ℕ → Option Request
listing_of s = listed_of s >>= λ t. Some (ListTask t.0 t.1)

-- the request of a first word and the rest of the line
unfoldable pub parted_request : List ℕ → List ℕ → Option Request
parted_request word rest =
    if bytes_eq word (codes "novac") then novac_of rest
    else (if bytes_eq word (codes "findvac") then findvac_of rest
    else (if bytes_eq word (codes "sleep") then (address_of rest >>= λ at. Some (Sleep at))
    else (if bytes_eq word (codes "rouse") then (address_of rest >>= λ at. Some (Rouse at))
    else (if bytes_eq word (codes "prio") then (priority_of rest >>= λ p. Some (Prio p))
    else (if bytes_eq word (codes "store") then stored_of rest
    else (if bytes_eq word (codes "list") then listing_of rest
    else (if bytes_eq word (codes "phase") then phased_of rest else None)))))))

-- the request of a line of one word
unfoldable pub bare_request : List ℕ → Option Request
bare_request word =
    if bytes_eq word (codes "end") then Some EndOfJob
    else (if bytes_eq word (codes "change") then Some Change
    else (if bytes_eq word (codes "tick") then Some Tick
    else (if bytes_eq word (codes "restart") then Some Restart
    else (if bytes_eq word (codes "fresh") then Some Fresh else None))))

-- the request of a line
unfoldable pub request_of : List ℕ → Option Request
request_of s = elim (cut 32 s) [ None ↦ bare_request s | Some p ↦ parted_request p.0 p.1 ]

-- the action that does what a request asks, if there is one
abbrev pub action_of : Request → Option Action
action_of (Novac priority entry) = Some (DoNovac priority entry)
action_of (Findvac priority entry) = Some (DoFindvac priority entry)
action_of (Rouse at) = Some (DoRouse at)
action_of (ListTask delay task) = Some (DoList delay task)
action_of _ = None
