-- A document's numbers and texts by key, as those of a scenario, before any text is read. None
-- stands for a fault Key.
use Rattle.std.specs.Prelude.{ℕ, List, [], ◌∷◌, codes, map, Option, Some, None}
use Rattle.std.specs.Prelude.{Bool, true, nat_lt, nat_le, not, is_some, ◌+◌, ◌-◌, ◌&&◌}
use Rattle.std.specs.Prelude.{◌||◌, ◌++◌, if◌then◌else◌, unwrap_or}
use Rattle.std.specs.List.{list_all, list_any}
use Rattle.toml.specs.Data.{Data, Members, as_integer, as_table}
use Rattle.agc_text.specs.Chain.{◌>>=◌}
use Rattle.agc_document.specs.declared.key.Key.{Key as AnyKey}
use Rattle.agc_document.specs.declared.rows.TheConstants as key
use Rattle.agc_scenario.specs.declared.rows.TheConstants as own
use Rattle.agc_document.specs.Texts.{Lists, Settings}
use Rattle.agc_document.specs.Keys.{is_among, known_to, value_of, number_of, text_of}
use Rattle.agc_document.specs.Keys.{texts_of, read_at, read_or, read_if, tables_of}
use Rattle.agc_document.specs.Keys.{row, entry, settings_in}
use Rattle.agc_clock.specs.declared.times.TheConstants.{LAST_TIME}
use Rattle.agc_clock.specs.declared.timetable.Stolen.{Stolen}
use Rattle.agc_clock.specs.Timetables.{comes_once, overlap}
use Rattle.agc_scenario.specs.declared.timing.CostRange.{CostRange}
use Rattle.agc_scenario.specs.Texts.{Named, NamedTexts, JobTexts, EventTexts}
use Rattle.agc_scenario.specs.Texts.{TimingTexts, ScenarioTexts, alarm_called, is_named}

-- the value of a table, and its name
unfoldable pub read_named : {X : Type 0} → (Members → Option X) → Members → Option (Named X)
read_named fields ms = do
  item ← fields ms
  name ← read_if text_of key.NAME ms
  Some (record { item = item; name = name })

-- a row of stolen time that ends after it begins, and if it comes again, not before it ends
abbrev pub forward : Stolen → Option Stolen
forward row =
    if nat_lt row.from row.to && (comes_once row || nat_le (row.to - row.from) row.every)
    then Some row else None

-- a row of stolen time: it comes once, or repeats, up to its last time or to the end
unfoldable pub stolen_row : Members → Option Stolen
stolen_row ms = do
  from ← read_at number_of own.FROM ms
  to ← read_at number_of own.TO ms
  percent ← read_at number_of own.PERCENT ms
  every ← read_if number_of own.EVERY ms
  until ← read_if number_of own.UNTIL ms
  forward (record {
    from = from;
    to = to;
    percent = percent;
    every = unwrap_or every 0;
    until = unwrap_or until LAST_TIME;
  })

-- one row for all the time that a scenario may last
abbrev pub always : ℕ → List Stolen
always percent =
    record { from = 0; to = LAST_TIME + 1; percent = percent; every = 0; until = LAST_TIME } ∷ []

-- the rows of stolen time: a percent alone, or an array of tables
abbrev pub stolen_rows : AnyKey → Data → Option (List Stolen)
stolen_rows k d = elim (as_integer d) [
  | Some n ↦ number_of k d >>= λ percent. Some (always percent)
  | None ↦ tables_of own.STEAL_KEYS stolen_row k d
]

-- a cost of which the least isn't above the most
abbrev pub ascending : CostRange → Option CostRange
ascending cost = if nat_le cost.from cost.to then Some cost else None

-- a cost that is drawn by lot
unfoldable pub drawn_cost : Data → Option CostRange
drawn_cost d = do
  ms ← as_table d >>= known_to own.COST_KEYS
  from ← read_at number_of own.LEAST ms
  to ← read_at number_of own.MOST ms
  ascending (record { from = from; to = to })

-- a job's cost: a fixed number, or a range from which it is drawn
abbrev pub cost : AnyKey → Data → Option CostRange
cost k d = elim (as_table d) [
  | Some ms ↦ drawn_cost d
  | None ↦ number_of k d >>= λ n. Some (record { from = n; to = n })
]

-- a job, with its cost and its requests
unfoldable pub job : Members → Option JobTexts
job ms = do
  at ← read_at text_of key.AT ms
  costs ← read_at cost own.COST ms
  deadline ← read_if number_of own.DEADLINE ms
  requests ← read_or (codes "end" ∷ []) texts_of own.THEN ms
  name ← read_if text_of key.NAME ms
  Some (record { at = at; cost = costs; deadline = deadline; requests = requests; name = name })

-- an event
unfoldable pub event : Members → Option EventTexts
event ms = do
  at ← read_at number_of own.MOMENT ms
  after ← read_if text_of own.AFTER ms
  requests ← read_at texts_of own.DO ms
  every ← read_if number_of own.EVERY ms
  until ← read_if number_of own.UNTIL ms
  name ← read_if text_of key.NAME ms
  Some (record {
    at = at;
    after = after;
    requests = requests;
    every = every;
    until = until;
    name = name;
  })

-- whether no two rows of stolen time overlap
abbrev pub are_apart : List Stolen → Bool
are_apart [] = true
are_apart (row ∷ rows) = list_all (λ other. not (overlap row other)) rows && are_apart rows

-- whether no two texts are the same
abbrev pub are_distinct : List (List ℕ) → Bool
are_distinct [] = true
are_distinct (text ∷ texts) = not (is_among texts text) && are_distinct texts

-- whether lots can be drawn: there is a seed, or no cost is by lot
abbrev pub can_draw : Option ℕ → List JobTexts → Bool
can_draw (Some seed) jobs = true
can_draw None jobs = list_all (λ j. not (nat_lt j.cost.from j.cost.to)) jobs

-- true if there is no name, if an event has it, or if it is that of an alarm
abbrev pub has_named : List EventTexts → Option (List ℕ) → Bool
has_named events None = true
has_named events (Some name) =
    list_any (λ e. is_named name e.name) events || is_some (alarm_called name)

-- whether each event that counts from another has that one above it, below the events above all, or
-- counts from an alarm
abbrev pub count_from_above : List EventTexts → List EventTexts → Bool
count_from_above above [] = true
count_from_above above (event ∷ events) =
    has_named above event.after && count_from_above (above ++ event ∷ []) events

-- whether the rows of stolen time are apart, no two jobs have one address, lots can be drawn, and
-- events count from events above them or from alarms
abbrev pub is_coherent : TimingTexts → Bool
is_coherent t =
    (are_apart t.stolen && are_distinct (map (λ j. j.at) t.jobs))
    && (can_draw t.seed t.jobs && count_from_above [] t.events)

-- the timing, if it is coherent
abbrev pub if_coherent : TimingTexts → Option TimingTexts
if_coherent t = if is_coherent t then Some t else None

-- how time passes
unfoldable pub timing_in : Members → Option TimingTexts
timing_in ms = do
  seconds ← read_at number_of own.SECONDS ms
  title ← read_if text_of own.TITLE ms
  seed ← read_if number_of own.SEED ms
  stolen ← read_or [] stolen_rows own.STEAL ms
  jobs ← read_or [] (tables_of own.JOB_KEYS job) own.JOBS ms
  events ← read_or [] (tables_of own.EVENT_KEYS event) own.EVENTS ms
  if_coherent (record {
    seconds = seconds;
    title = title;
    seed = seed;
    stolen = stolen;
    jobs = jobs;
    events = events;
  })

-- the tasks and phases
unfoldable pub named_in : Members → Option NamedTexts
named_in ms = do
  rows ← read_or [] (tables_of key.NAMED_TASK_KEYS (read_named row)) own.NAMED_TASKS ms
  entries ← read_or [] (tables_of key.NAMED_PHASE_KEYS (read_named entry)) own.NAMED_PHASES ms
  Some (record { rows = rows; entries = entries })

-- the lists of a bench that has these tasks and phases, and asks for nothing by itself
abbrev pub lists_of : NamedTexts → Lists
lists_of read_named =
    record {
      script = [];
      rows = map (λ n. n.item) read_named.rows;
      entries = map (λ n. n.item) read_named.entries;
      workers = [];
      devices = [];
    }

-- the texts of a scenario that has these settings, tasks and phases
abbrev pub texts_with : Settings → NamedTexts → TimingTexts → ScenarioTexts
texts_with settings read_named timing =
    record {
      bench = record { settings = settings; lists = lists_of read_named };
      row_names = map (λ n. n.name) read_named.rows;
      entry_names = map (λ n. n.name) read_named.entries;
      timing = timing;
    }

-- the single values of a scenario: as in a bench, but the greatest limit and allowance by default
unfoldable pub ample_settings_in : Members → Option Settings
ample_settings_in ms = do
  settings ← settings_in ms
  limit ← read_or 1000000 number_of key.LIMIT ms
  allowance ← read_or 9223372036854775807 number_of key.ALLOWANCE ms
  Some (record settings { limit = limit; allowance = allowance })

-- the numbers and texts of a scenario
unfoldable pub scenario_in : Members → Option ScenarioTexts
scenario_in ms = do
  known ← known_to own.SCENARIO_KEYS ms
  settings ← ample_settings_in known
  read_named ← named_in known
  timing ← timing_in known
  Some (texts_with settings read_named timing)

-- whether a document has the key `seconds`, and so should be a scenario
abbrev pub has_seconds : Members → Bool
has_seconds ms = is_some (value_of own.SECONDS ms)
