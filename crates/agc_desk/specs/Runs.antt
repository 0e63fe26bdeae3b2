-- The requests of callers, and the answers that they get.
use Rattle.std.specs.Prelude.{◌≡◌, ℕ, ◌+◌, ◌<◌, ◌≤◌, ◌⊎◌, Bool, true, false, List, [], ◌∷◌, length}
use Rattle.std.specs.Prelude.{map, take, IsNone, slice_index_or}
use Rattle.std.specs.List.{All}
use Rattle.agc_plan.specs.declared.request.Request.{Request}
use Rattle.agc_machine.specs.Machines.{Machined, IsLawful, said_of}
use Rattle.agc_machine.specs.Said.{Said}
use Rattle.agc_desk.specs.declared.ties.Call.{Call}
use Rattle.agc_desk.specs.History.{Holder, Leads, own_call, with_heard}

-- the answer is the one that the machine's step gives to its request on a lawful machine to which
-- some calls lead from the first
pub record IsGiven (first : Machined) (said : Said) : Type 0 where
  pub calls : List Call
  pub machine : Machined
  pub leads : Leads first calls machine
  pub lawful : IsLawful machine
  pub answer : said ≡ said_of machine said.request

-- the holder of a share asks this, gets this answer, and has heard one call of its own more
abbrev pub Asks : Machined → Holder → Request → Said → Holder → Type 0
Asks first old asked said new =
    (said.request ≡ asked)
    × IsGiven first said
    × (new ≡ with_heard (own_call old.number said ∷ []) old)

-- the requests of calls, in order
abbrev pub requests_of : List Call → List Request
requests_of calls = map (λ call. call.answer.request) calls

-- each of these calls was told with its answer, by its number from 0
abbrev pub AreTold : (ℕ → Said → Type 0) → List Call → Type 0
AreTold is_told calls =
    (call : ℕ) (d : Call) → call < length calls → is_told call (slice_index_or calls call d).answer

-- the holder of a share asked just these requests, in order, of its own accord, got an answer to
-- each, and each was told
pub record AsksAll (first : Machined) (is_told : ℕ → Said → Type 0) (old : Holder)
    (requests : List Request) (new : Holder) : Type 0 where
  pub calls : List Call
  pub heard : new ≡ with_heard calls old
  pub asked : requests_of calls ≡ requests
  pub own : All (λ call. IsNone call.pulse) calls
  pub given : All (λ call. IsGiven first call.answer) calls
  pub told : AreTold is_told calls

-- these were asked of the requests: the first so many, before each of which the gate may answer
-- true, and which are all or end before one at which it may answer false
pub record IsFront (may_answer : ℕ → Bool → Type 0) (requests asked : List Request) : Type 0 where
  pub count : ℕ
  pub few : count ≤ length requests
  pub front : asked ≡ take count requests
  pub passed : (call : ℕ) → call < count → may_answer call true
  pub whole : (count ≡ length requests) ⊎ may_answer count false

-- these requests, each answered as the relation says and told with its answer, by its number from
-- this one on, lead in this order from the first state to the last
abbrev pub Reached : {State : Type 0} → (State → Request → Said → State → Type 0)
    → (ℕ → Said → Type 0) → ℕ → State → List Request → State → Type 0
Reached leads is_told call first [] last = first ≡ last
Reached {State} leads is_told call first (asked ∷ more) last =
    (next : State) × (((said : Said) × leads first asked said next × is_told call said)
    × Reached leads is_told (call + 1) next more last)
