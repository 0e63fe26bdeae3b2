-- The numbers of a scenario that can be exchanged: how they are named, their ranges, and the
-- scenario with another number.
use Rattle.std.specs.Prelude.{◌≡◌, ◌≤◌, ℕ, zero, suc, codes, min, max, List, []}
use Rattle.std.specs.Prelude.{◌∷◌, ◌++◌, Option, Some}
use Rattle.std.specs.Option.{option_or}
use Rattle.std.specs.List.{position}
use Rattle.std.specs.Str.{bytes_eq}
use Rattle.agc_text.specs.Numbers.{octal}
use Rattle.agc_document.specs.declared.key.Key.{Key as AnyKey}
use Rattle.agc_document.specs.Keys.{least, most}
use Rattle.agc_scenario.specs.declared.rows.TheConstants as own
use Rattle.agc_scenario.specs.declared.changing.Number.{Number}
use Rattle.agc_scenario.specs.declared.changing.Number.TheVariants as number
use Rattle.agc_scenario.specs.Texts.{is_named}
use Rattle.agc_scenario.specs.Scenarios.{TimedJob, TimedEvent, Timed, with_bases}
use Rattle.agc_scenario.specs.Keys.{always}

-- the place of the first job of this name, or else of the first that has this address
abbrev pub job_called : List ℕ → List TimedJob → Option ℕ
job_called called jobs = option_or (position (λ j. is_named called j.name) jobs)
    (position (λ j. bytes_eq (octal 5 j.at) called) jobs)

-- the place of the first event of this name
abbrev pub event_called : List ℕ → List TimedEvent → Option ℕ
event_called called events = position (λ e. is_named called e.name) events

-- between these two stands what the job or event at this place is called
abbrev pub Names : (List ℕ → Option ℕ) → List ℕ → List ℕ → List ℕ → ℕ → Type 0
Names find front back text k =
    (called : List ℕ) × (text ≡ front ++ (called ++ back)) × (find called ≡ Some k)

-- a text names the cost of the job at this place, or a number of the event
abbrev pub NamesJob : List TimedJob → List ℕ → ℕ → Type 0
NamesJob jobs text k =
    Names (λ called. job_called called jobs) (codes "job.") (codes ".cost") text k

abbrev pub NamesEvent : List TimedEvent → List ℕ → List ℕ → ℕ → Type 0
NamesEvent events back text k =
    Names (λ called. event_called called events) (codes "event.") back text k

-- a text names a number of a scenario
abbrev pub NamesNumber : Timed → List ℕ → Number → Type 0
NamesNumber t text number.Steal = text ≡ codes "steal"
NamesNumber t text number.Seconds = text ≡ codes "seconds"
NamesNumber t text number.Seed = text ≡ codes "seed"
NamesNumber t text (number.Cost k) = NamesJob t.jobs text k
NamesNumber t text (number.Moment k) = NamesEvent t.events (codes ".at") text k
NamesNumber t text (number.Every k) = NamesEvent t.events (codes ".every") text k
NamesNumber t text (number.Until k) = NamesEvent t.events (codes ".until") text k

-- the key of a number
abbrev pub key_of : Number → AnyKey
key_of number.Steal = own.STEAL
key_of number.Seconds = own.SECONDS
key_of number.Seed = own.SEED
key_of (number.Cost k) = own.COST
key_of (number.Moment k) = own.MOMENT
key_of (number.Every k) = own.EVERY
key_of (number.Until k) = own.UNTIL

-- the number in its range that is nearest to a value
abbrev pub nearest : Number → ℕ → ℕ
nearest n value = min (max value (least (key_of n))) (most (key_of n))

-- the element at a place, changed
abbrev pub change_at : {X : Type 0} → (X → X) → ℕ → List X → List X
change_at f k [] = []
change_at f zero (x ∷ xs) = f x ∷ xs
change_at f (suc k) (x ∷ xs) = x ∷ change_at f k xs

-- a job that always costs this much, and an event with this number
abbrev pub job_with : ℕ → TimedJob → TimedJob
job_with value j = record j { cost = record { from = value; to = value } }

abbrev pub event_with : Number → ℕ → TimedEvent → TimedEvent
event_with (number.Moment k) value e = record e { at = value }
event_with (number.Every k) value e = record e { every = Some value }
event_with (number.Until k) value e = record e { until = Some value }
event_with other value e = e

-- how time passes with this number in place of the old one, and all else as it was
abbrev pub exchanged : Number → ℕ → Timed → Timed
exchanged number.Steal value t = record t { stolen = always value }
exchanged number.Seconds value t = record t { seconds = value }
exchanged number.Seed value t = record t { seed = Some value }
exchanged (number.Cost k) value t = record t { jobs = change_at (job_with value) k t.jobs }
exchanged (number.Moment k) value t =
    record t { events = with_bases [] (change_at (event_with (number.Moment k) value) k t.events) }
exchanged (number.Every k) value t =
    record t { events = change_at (event_with (number.Every k) value) k t.events }
exchanged (number.Until k) value t =
    record t { events = change_at (event_with (number.Until k) value) k t.events }

-- for proofs: the number fits the types
abbrev pub FitsIn : Number → ℕ → Type 0
FitsIn number.Steal value = value ≤ 100
FitsIn number.Seconds value = value ≤ 86400
FitsIn (number.Cost k) value = value ≤ 1000000
FitsIn (number.Every k) value = 1 ≤ value
FitsIn other value = Unit {0}
