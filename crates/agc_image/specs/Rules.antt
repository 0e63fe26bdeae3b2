-- The rules of words between requests, and which word breaks one.
use Rattle.std.specs.Prelude.{◌≡◌, ◌⊎◌, ℕ, zero, suc, ◌+◌, ◌-◌, ◌*◌, ◌/◌, ◌%◌, ◌<◌, ◌≤◌, ◌==◌}
use Rattle.std.specs.Prelude.{nat_lt, ◌&&◌, ◌||◌, not, Bool, false, IsTrue, if◌then◌else◌, List, []}
use Rattle.std.specs.Prelude.{◌∷◌, slice_get, slice_index, Option, Some, IfSome}
use Rattle.agc_word.specs.Layout.{set_place, address_of, newjob, time3, lst1, lst2}
use Rattle.agc_word.specs.Layout.{use_words, phase_words, failreg}
use Rattle.agc_image.specs.declared.rule.Rule.{Rule}
use Rattle.agc_image.specs.declared.rule.Rule.TheVariants as rule
use Rattle.agc_image.specs.declared.explaining.BrokenRule.{BrokenRule}

-- the rules by their numbers, from 1
abbrev pub rules : List Rule
rules =
    rule.FifteenBits ∷ rule.JobNumber ∷ rule.JobNumberTwice ∷ rule.JobAddress ∷ rule.JobPriority
    ∷ rule.JobArea ∷ rule.JobAreaTwice ∷ rule.AwakeInFront ∷ rule.UseWord ∷ rule.NewjobNamesBest
    ∷ rule.Time3 ∷ rule.TaskNear ∷ rule.TaskAddress ∷ rule.Gap ∷ rule.NoGapAfterLast
    ∷ rule.NoTaskAfterLast ∷ rule.PhaseRange ∷ rule.PhasePair ∷ rule.AlarmCodes ∷ rule.NoneDue
    ∷ rule.JobTidy ∷ rule.GapTidy ∷ []

abbrev pub IsNumberOf : ℕ → Rule → Type 0
IsNumberOf number this = (1 ≤ number) × (slice_get rules (number - 1) ≡ Some this)

-- the core set in which a place of it stands: set 7 is after all other tables
abbrev pub set_at : ℕ → ℕ
set_at place = if nat_lt place use_words then place / 12 else 7

-- PRIORITY of a core set, and with its sign taken off
abbrev pub priority_at : List ℕ → ℕ → ℕ
priority_at words set = slice_index words (set_place set + 11)

abbrev pub urgency_of : ℕ → ℕ
urgency_of word = if nat_lt word 0o40000 then word else (0o77777 - word)

abbrev pub urgency_at : List ℕ → ℕ → ℕ
urgency_at words set = urgency_of (priority_at words set)

-- it holds a job; and one that is awake
abbrev pub is_held : List ℕ → ℕ → Bool
is_held words set = not (priority_at words set == 0o77777)

abbrev pub is_awake : List ℕ → ℕ → Bool
is_awake words set = nat_lt (priority_at words set) 0o40000

-- the job in it has this number, or owns the area at this address
abbrev pub holds_number : List ℕ → ℕ → ℕ → Bool
holds_number words number set = is_held words set && slice_index words (set_place set) == number

abbrev pub holds_area : List ℕ → ℕ → ℕ → Bool
holds_area words address set = is_held words set && urgency_at words set % 512 == address

-- one of the first sets has it
unfoldable pub any_set : (ℕ → Bool) → ℕ → Bool
any_set has zero = false
any_set has (suc sets) = any_set has sets || has sets

-- this is the address of a VAC area, or 0
abbrev pub is_area : ℕ → Bool
is_area address = address == 0 || (address == address_of 1 || (address == address_of 2
    || (address == address_of 3 || (address == address_of 4 || address == address_of 5))))

-- the use word of an area: 0 where a job owns it, else its address
abbrev pub use_word : List ℕ → ℕ → ℕ → ℕ
use_word words sets area =
    if any_set (holds_area words (address_of area)) sets then 0 else address_of area

-- the job of a set goes before that of another: it is awake, and that one isn't, has a lower
-- priority, or the same and a higher number
abbrev pub is_better : List ℕ → ℕ → ℕ → Bool
is_better words set best =
    is_awake words set && (not (is_awake words best)
    || (nat_lt (priority_at words best / 512) (priority_at words set / 512)
    || (priority_at words best / 512 == priority_at words set / 512
    && nat_lt (slice_index words (set_place set)) (slice_index words (set_place best)))))

-- of two sets the one whose job goes before the other's
abbrev pub better : List ℕ → ℕ → ℕ → ℕ
better words best set = if is_better words set best then set else best

-- the set of the best job of the first sets
unfoldable pub best_set : List ℕ → ℕ → ℕ
best_set words zero = 0
best_set words (suc sets) = better words (best_set words sets) sets

-- NEWJOB where this is the set of the best job
abbrev pub newjob_naming : List ℕ → ℕ → ℕ
newjob_naming words best =
    if not (is_awake words best) then 0o77777
    else if nat_lt (priority_at words 0 / 512) (priority_at words best / 512) then 12 * best
    else 0

-- how many of the first places of LST2 have a task, with none empty before them
unfoldable pub tasks_before : List ℕ → ℕ → ℕ
tasks_before words zero = 0
tasks_before words (suc place) =
    if tasks_before words place == place && not (slice_index words (lst2 + 2 * place) == 0)
    then suc place else tasks_before words place

-- how many tasks wait
abbrev pub tasks_in : List ℕ → ℕ
tasks_in words = tasks_before words 9

-- how far the first task is, by TIME3; how much further the next, by a word of LST1, one less its
-- value; and how far the task at a place is
abbrev pub first_left : ℕ → ℕ
first_left word = if word == 0 then 0 else (16384 - word)

abbrev pub gap_of : ℕ → ℕ
gap_of word = if nat_lt word 0o40000 then 1 - word else (0o100000 - word)

unfoldable pub left_at : List ℕ → ℕ → ℕ
left_at words zero = first_left (slice_index words time3)
left_at words (suc place) = left_at words place + gap_of (slice_index words (lst1 + place))

-- a word of FAILREG with an alarm's code
abbrev pub is_code : ℕ → Bool
is_code word = word == 0o1107 || (word == 0o1201 || (word == 0o1202 || word == 0o1203))

-- it is neither a code nor 0; nor 0, though no first code is before it
abbrev pub breaks_code : List ℕ → ℕ → Bool
breaks_code words place =
    not (slice_index words place == 0) && not (is_code (slice_index words place))

abbrev pub breaks_second : ℕ → List ℕ → ℕ → Bool
breaks_second first words place =
    not (slice_index words place == 0) && (first == 0 || not (is_code (slice_index words place)))

-- the words of FAILREG that aren't codes in their order: the second only with a first, and as the
-- latest the first, or where there is a second any
abbrev pub breaks_codes : List ℕ → ℕ → Bool
breaks_codes words place =
    if place == failreg then breaks_code words place
    else if place == failreg + 1 then breaks_second (slice_index words failreg) words place
    else if slice_index words (failreg + 1) == 0
    then not (slice_index words place == slice_index words failreg)
    else not (is_code (slice_index words place))

-- the word at a place breaks a rule, with so many core sets
abbrev pub Breaks : Rule → List ℕ → ℕ → ℕ → Type 0
Breaks rule.FifteenBits words sets place = 32768 ≤ slice_index words place
Breaks rule.JobNumber words sets place =
    IsTrue (is_held words (set_at place)) × (place ≡ set_place (set_at place))
    × ((slice_index words place ≡ 0) ⊎ (sets < slice_index words place))
Breaks rule.JobNumberTwice words sets place =
    IsTrue (is_held words (set_at place)) × (place ≡ set_place (set_at place))
    × IsTrue (any_set (holds_number words (slice_index words place)) (set_at place))
Breaks rule.JobAddress words sets place =
    IsTrue (is_held words (set_at place)) × (place ≡ set_place (set_at place) + 8)
    × ((slice_index words place ≡ 0) ⊎ (16383 < slice_index words place))
Breaks rule.JobPriority words sets place =
    IsTrue (is_held words (set_at place)) × (place ≡ set_place (set_at place) + 11)
    × (urgency_at words (set_at place) < 512)
Breaks rule.JobArea words sets place =
    IsTrue (is_held words (set_at place)) × (place ≡ set_place (set_at place) + 11)
    × (is_area (urgency_at words (set_at place) % 512) ≡ false)
Breaks rule.JobAreaTwice words sets place =
    IsTrue (is_held words (set_at place)) × (place ≡ set_place (set_at place) + 11)
    × ¬ (urgency_at words (set_at place) % 512 ≡ 0)
    × IsTrue (any_set (holds_area words (urgency_at words (set_at place) % 512)) (set_at place))
Breaks rule.AwakeInFront words sets place =
    (place ≡ 11) × (is_awake words 0 ≡ false)
    × ((set : ℕ) × (set < sets) × IsTrue (is_awake words set))
Breaks rule.UseWord words sets place =
    (use_words ≤ place) × (place < newjob)
    × ¬ (slice_index words place ≡ use_word words sets (place - use_words + 1))
Breaks rule.NewjobNamesBest words sets place =
    (place ≡ newjob) × ¬ (slice_index words place ≡ newjob_naming words (best_set words sets))
Breaks rule.Time3 words sets place =
    (place ≡ time3) × ((16383 < slice_index words place)
    ⊎ ((tasks_in words ≡ 0) × ¬ (slice_index words place ≡ 0)))
Breaks rule.TaskNear words sets place =
    (time3 ≤ place) × (place - time3 < tasks_in words) × (16250 < left_at words (place - time3))
Breaks rule.TaskAddress words sets place =
    (place ≡ lst2 + 2 * ((place - lst2) / 2)) × ((place - lst2) / 2 < tasks_in words)
    × (16383 < slice_index words place)
Breaks rule.Gap words sets place =
    (lst1 ≤ place) × (place - lst1 + 1 < tasks_in words) × (1 < slice_index words place)
    × (slice_index words place < 0o40000)
Breaks rule.NoGapAfterLast words sets place =
    (lst1 ≤ place) × (place < lst2) × (tasks_in words ≤ place - lst1 + 1)
    × ¬ (slice_index words place ≡ 0o57777)
Breaks rule.NoTaskAfterLast words sets place =
    (lst2 + 2 * tasks_in words ≤ place) × (place < phase_words) × ¬ (slice_index words place ≡ 0)
Breaks rule.PhaseRange words sets place =
    (phase_words ≤ place) × (place < failreg) × ((place - phase_words) % 2 ≡ 1)
    × (127 < slice_index words place)
Breaks rule.PhasePair words sets place =
    (phase_words ≤ place) × (place < failreg) × ((place - phase_words) % 2 ≡ 0)
    × ¬ (slice_index words place ≡ 0o77777 - slice_index words (place + 1))
Breaks rule.AlarmCodes words sets place =
    (failreg ≤ place) × (place < failreg + 3) × IsTrue (breaks_codes words place)
Breaks rule.NoneDue words sets place =
    (place ≡ time3) × (slice_index words place ≡ 0) × (0 < tasks_in words)
Breaks rule.JobTidy words sets place =
    IsTrue (is_held words (set_at place)) × ¬ (slice_index words place ≡ 0)
    × ((place ≡ set_place (set_at place) + 7) ⊎ (place ≡ set_place (set_at place) + 10))
Breaks rule.GapTidy words sets place =
    (lst1 ≤ place) × (place < lst2) × (slice_index words place ≡ 0o77777)

-- what is found is a place of the array, whose word breaks the rule
abbrev pub IsFound : List ℕ → ℕ → Option BrokenRule → Type 0
IsFound words sets broken = IfSome broken (λ b. (b.place < 144) × Breaks b.rule words sets b.place)
