-- The accounts of lines: what contracts see of them, what their type keeps, and how calls change
-- them.
use Rattle.std.specs.Prelude.{◌≡◌, ◌≢◌, ℕ, ◌+◌, ◌*◌, ◌<◌, ◌≤◌, List, length, sum_by}
use Rattle.std.specs.Prelude.{Option, Some, None, IfSome}
use Rattle.atomic_table.specs.Seated.{TableId}
use Rattle.agc_plan.specs.declared.line.Line.{Line}
use Rattle.agc_latch.specs.Lines.{on, zeros}
use Rattle.agc_latch.specs.Ends.{Posting, Taking}

-- the taker, if there is one; how many devices were given out in all; and per line the pulses that
-- are applied, that are owed, and that were posted on the latches that were settled, and how far
-- the first one is begun that is owed: how many of the requests for which it asks were served
pub record LineAccounts : Type 0 where
  pub taker : Option Taking
  pub devices : ℕ
  pub applied : List ℕ
  pub owed : List ℕ
  pub begun : List ℕ
  pub settled : List ℕ

abbrev pub no_accounts : LineAccounts
no_accounts = record
    { taker = None; devices = 0; applied = zeros; owed = zeros; begun = zeros; settled = zeros }

-- the accounts with a taker
abbrev pub with_taker : Taking → LineAccounts → LineAccounts
with_taker taker a = record a { taker = Some taker }

-- which latch the taker is of, if there is a taker
abbrev pub latch_of : Option Taking → Option TableId
latch_of None = None
latch_of (Some t) = Some t.latch

-- how many devices were given out under the taker: without one, none
abbrev pub given_of : Option Taking → ℕ
given_of None = 0
given_of (Some t) = t.given

-- the pulses that the taker took on a line: without one, none
abbrev pub taken_on : Line → Option Taking → ℕ
taken_on line None = 0
taken_on line (Some t) = on line t.taken

-- how often the taker took a line: without one, never
abbrev pub takes_on : Line → Option Taking → ℕ
takes_on line None = 0
takes_on line (Some t) = on line t.takes

-- each line was taken once more, where there is a taker
abbrev pub IsTakenOnce : Option Taking → Option Taking → Type 0
IsTakenOnce old now = IfSome old
    (λ _. (line : Line) → takes_on line now ≡ takes_on line old + 1)

-- the taker, if there is one, is of this latch
abbrev pub IsOf : TableId → Option Taking → Type 0
IsOf latch taker = IfSome (latch_of taker) (λ l. l ≡ latch)

-- the pulses that these devices posted on a line
abbrev pub posted_by : Line → List Posting → ℕ
posted_by line devices = sum_by (λ (d : Posting). on line d.posted) devices

-- on each line: what is applied and what is owed are the pulses of settled latches and those that
-- the taker took
abbrev pub IsBalanced : LineAccounts → Type 0
IsBalanced a = (line : Line)
    → on line a.applied + on line a.owed ≡ on line a.settled + taken_on line a.taker

-- the rule of the accounts: they are balanced, at most 64 devices were given out in all, no line
-- has more pulses than these may post, no pulse is begun where none is owed, and fewer than four of
-- its requests were served
pub record IsKept (a : LineAccounts) : Type 0 where
  pub balanced : IsBalanced a
  pub most : a.devices ≤ 64
  pub settled_below : (line : Line)
      → on line a.settled + 4294967295 * given_of a.taker ≤ 4294967295 * a.devices
  pub taken_below : (line : Line) → taken_on line a.taker ≤ 4294967295 * given_of a.taker
  pub few_begun : (line : Line) → on line a.begun < 4
  pub none_begun : (line : Line) → on line a.owed ≡ 0 → on line a.begun ≡ 0

-- one more device is given out under the taker, and nothing else changed
pub record Gives (old now : LineAccounts) : Type 0 where
  pub devices : now.devices ≡ old.devices + 1
  pub given : given_of now.taker ≡ given_of old.taker + 1
  pub latch : latch_of now.taker ≡ latch_of old.taker
  pub taken : (line : Line) → taken_on line now.taker ≡ taken_on line old.taker
  pub takes : (line : Line) → takes_on line now.taker ≡ takes_on line old.taker
  pub applied : now.applied ≡ old.applied
  pub owed : now.owed ≡ old.owed
  pub begun : now.begun ≡ old.begun
  pub settled : now.settled ≡ old.settled

-- each line was taken once, what was found there is owed, and nothing else changed
pub record Collects (found : List ℕ) (old now : LineAccounts) : Type 0 where
  pub once : IsTakenOnce old.taker now.taker
  pub owed : (line : Line) → on line now.owed ≡ on line old.owed + on line found
  pub taken : (line : Line) → taken_on line now.taker ≡ taken_on line old.taker + on line found
  pub latch : latch_of now.taker ≡ latch_of old.taker
  pub given : given_of now.taker ≡ given_of old.taker
  pub devices : now.devices ≡ old.devices
  pub applied : now.applied ≡ old.applied
  pub begun : now.begun ≡ old.begun
  pub settled : now.settled ≡ old.settled

-- n pulses of a line that were owed are applied, and nothing of the other lines changed, nor else
pub record Applies (line : Line) (n : ℕ) (old now : LineAccounts) : Type 0 where
  pub owed : on line now.owed + n ≡ on line old.owed
  pub applied : on line now.applied ≡ on line old.applied + n
  pub other_owed : (other : Line) → other ≢ line → on other now.owed ≡ on other old.owed
  pub other_applied : (other : Line) → other ≢ line → on other now.applied ≡ on other old.applied
  pub other_begun : (other : Line) → other ≢ line → on other now.begun ≡ on other old.begun
  pub taker : now.taker ≡ old.taker
  pub devices : now.devices ≡ old.devices
  pub settled : now.settled ≡ old.settled

-- the first pulse of a line that is owed is begun further by one request, and nothing else changed
pub record Begins (line : Line) (old now : LineAccounts) : Type 0 where
  pub begun : on line now.begun ≡ on line old.begun + 1
  pub other_begun : (other : Line) → other ≢ line → on other now.begun ≡ on other old.begun
  pub rest : now ≡ record old { begun = now.begun }

-- there is a taker, and as many devices are back as were given out under it
abbrev pub AreAll : List Posting → Option Taking → Type 0
AreAll back taker = ¬ (taker ≡ None) × (length back ≡ given_of taker)

-- The latch was settled, where these devices are back, which are all that were given out under the
-- taker: what they posted is settled with what earlier latches had; each pulse of it is applied or
-- owed; there is no taker; and nothing else changed
pub record Settles (back : List Posting) (old now : LineAccounts) : Type 0 where
  pub taker : now.taker ≡ None
  pub settled : (line : Line) → on line now.settled ≡ on line old.settled + posted_by line back
  pub whole : (line : Line) → on line now.settled ≡ on line now.applied + on line now.owed
  pub devices : now.devices ≡ old.devices
  pub applied : now.applied ≡ old.applied
  pub begun : now.begun ≡ old.begun
