-- A document's numbers and texts by key, before any text is read. None stands for a fault Key.
use Rattle.std.specs.Prelude.{ℕ, ℤ, pos, negsuc, List, [], ◌∷◌, codes, map, length, Option, Some}
use Rattle.std.specs.Prelude.{None, Bool, true, false, nat_lt, ◌&&◌, ◌||◌, if◌then◌else◌}
use Rattle.std.specs.Str.{bytes_eq}
use Rattle.toml.specs.Data.{Data, Items, no_items, item, Members, no_members, member, get_member}
use Rattle.toml.specs.Data.{as_str, as_integer, as_bool, as_array, as_table}
use Rattle.agc_text.specs.Chain.{◌>>=◌}
use Rattle.agc_document.specs.declared.key.Key.{Key as AnyKey}
use Rattle.agc_document.specs.declared.key.Kind.{Kind}
use Rattle.agc_document.specs.declared.key.Kind.TheVariants as kind
use Rattle.agc_document.specs.declared.rows.TheConstants as key
use Rattle.agc_document.specs.Rows.{name_of, kind_of, bounds_of}
use Rattle.agc_document.specs.Texts.{RowTexts, EntryTexts, DeviceTexts, Settings, Lists, Texts}

-- whether a key is in a list
abbrev pub is_among : List (List ℕ) → List ℕ → Bool
is_among [] k = false
is_among (n ∷ ns) k = bytes_eq n k || is_among ns k

-- whether every key of a table is in a list
abbrev pub has_only : List (List ℕ) → Members → Bool
has_only names no_members = true
has_only names (member k d ms) = is_among names k && has_only names ms

-- the members of a table, where they have these keys and no others
abbrev pub known_to : List AnyKey → Members → Option Members
known_to ks ms = if has_only (map name_of ks) ms then Some ms else None

-- the value of a key
abbrev pub value_of : AnyKey → Members → Option Data
value_of k ms = get_member (name_of k) ms

-- the least and the most that a key allows
abbrev pub least : AnyKey → ℕ
least k = (bounds_of (kind_of k)).0

abbrev pub most : AnyKey → ℕ
most k = (bounds_of (kind_of k)).1

-- an integer, from low to high
abbrev pub between : ℕ → ℕ → ℤ → Option ℕ
between low high (pos n) = if nat_lt n low || nat_lt high n then None else Some n
between low high (negsuc n) = None

-- a value that is an integer in the range of a key
abbrev pub number_of : AnyKey → Data → Option ℕ
number_of k d = as_integer d >>= between (least k) (most k)

-- a value that is true or false
abbrev pub flag_of : AnyKey → Data → Option Bool
flag_of k d = as_bool d

-- a value that is a text
abbrev pub text_of : AnyKey → Data → Option (List ℕ)
text_of k d = as_str d

-- all items, each read in turn; None if one of them can't be read
abbrev pub each : {X : Type 0} → (Data → Option X) → Items → Option (List X)
each read no_items = Some []
each read (item d ds) = read d >>= λ x. each read ds >>= λ xs. Some (x ∷ xs)

-- items, if the key allows this many
abbrev pub in_bounds : {X : Type 0} → AnyKey → List X → Option (List X)
in_bounds k xs =
    if nat_lt (length xs) (least k) || nat_lt (most k) (length xs) then None else Some xs

-- the items of an array, as many as a key allows
abbrev pub items_of : {X : Type 0} → (Data → Option X) → AnyKey → Data → Option (List X)
items_of read k d = (as_array d >>= each read) >>= in_bounds k

-- a text alone, where a key may have one
abbrev pub one_in : Kind → Data → Option (List ℕ)
one_in (kind.OneOrMore form low high) d = as_str d
one_in _ d = None

-- a table, read by its fields, that has these keys and no others
abbrev pub table_with : {X : Type 0} → List AnyKey → (Members → Option X) → Data → Option X
table_with keys fields d = (as_table d >>= known_to keys) >>= fields

-- the tables of an array, as many as a key allows, each with these keys
abbrev pub tables_of : {X : Type 0} → List AnyKey → (Members → Option X) → AnyKey → Data
    → Option (List X)
tables_of keys fields k d = items_of (table_with keys fields) k d

-- some texts, or one alone
abbrev pub texts_of : AnyKey → Data → Option (List (List ℕ))
texts_of k d =
    elim (one_in (kind_of k) d) [ Some text ↦ in_bounds k (text ∷ []) | None ↦ items_of as_str k d ]

-- the value of a required key
abbrev pub read_at : {X : Type 0} → (AnyKey → Data → Option X) → AnyKey → Members → Option X
read_at read k ms = value_of k ms >>= read k

-- the value of a key, or a default if it is missing
abbrev pub read_or : {X : Type 0} → X → (AnyKey → Data → Option X) → AnyKey → Members → Option X
read_or missing read k ms = elim (value_of k ms) [ Some d ↦ read k d | None ↦ Some missing ]

-- the value of a key, if it is there
abbrev pub read_if : {X : Type 0} → (AnyKey → Data → Option X) → AnyKey → Members
    → Option (Option X)
read_if read k ms = read_or None (λ key d. read key d >>= λ x. Some (Some x)) k ms

-- the texts of a row
unfoldable pub row : Members → Option RowTexts
row ms = do
  at ← read_at text_of key.AT ms
  bank ← read_at text_of key.BANK ms
  actions ← read_at texts_of key.ACTION ms
  Some (record { at = at; bank = bank; actions = actions })

-- the numbers and texts of a phase entry
unfoldable pub entry : Members → Option EntryTexts
entry ms = do
  group ← read_at number_of key.GROUP ms
  phase ← read_at number_of key.PHASE ms
  job ← read_if text_of key.JOB ms
  task ← read_if text_of key.LISTING ms
  Some (record { group = group; phase = phase; job = job; task = task })

-- the keys of the tables of an array, by what its key's value is: other tables, or a bench's own
abbrev pub keys_by : Kind → List AnyKey → List AnyKey → List AnyKey
keys_by (kind.OtherTables low high) other own = other
keys_by _ other own = own

-- how many pulses a device has, by what the value of the key of the devices is: one that is
-- explored and has no number of them never stops, and is given one
unfoldable pub pulses_by : Kind → Members → Option ℕ
pulses_by (kind.OtherTables low high) ms = read_or 1 number_of key.PULSES ms
pulses_by _ ms = read_at number_of key.PULSES ms

-- the text and number of a device
unfoldable pub device : AnyKey → Members → Option DeviceTexts
device k ms = do
  line ← read_at text_of key.LINE ms
  pulses ← pulses_by (kind_of k) ms
  Some (record { line = line; pulses = pulses })

-- the numbers of a bench
unfoldable pub numbers_in : Members → Option (ℕ × ℕ × ℕ × ℕ)
numbers_in ms = do
  sets ← read_or 7 number_of key.SETS ms
  limit ← read_or 1000 number_of key.LIMIT ms
  allowance ← read_or 1000000 number_of key.ALLOWANCE ms
  attends ← read_or 16 number_of key.ATTENDS ms
  Some (sets, limit, allowance, attends)

-- the single values of a bench
unfoldable pub settings_in : Members → Option Settings
settings_in ms = do
  numbers ← numbers_in ms
  pressed ← read_or (codes "nothing" ∷ []) texts_of key.KEY ms
  radar ← read_or (codes "nothing" ∷ []) texts_of key.RADAR ms
  power ← read_if texts_of key.POWER ms
  Some (record {
    sets = numbers.0;
    limit = numbers.1;
    allowance = numbers.2;
    attends = numbers.3;
    key = pressed;
    radar = radar;
    power = power;
  })

-- the lists of a bench, by the keys of its workers and its devices
unfoldable pub lists_in : (workers devices : AnyKey) → Members → Option Lists
lists_in workers devices ms = do
  first ← read_or [] texts_of key.SCRIPT ms
  rows ← read_or [] (tables_of key.TASK_KEYS row) key.TASKS ms
  phases ← read_or [] (tables_of key.PHASE_KEYS entry) key.PHASES ms
  askers ← read_or []
      (tables_of (keys_by (kind_of workers) key.EXPLORED_WORKER_KEYS key.WORKER_KEYS)
      (read_at texts_of key.REQUESTS)) workers ms
  lines ← read_or [] (tables_of key.DEVICE_KEYS (device devices)) devices ms
  Some (record { script = first; rows = rows; entries = phases; workers = askers; devices = lines })

-- the numbers and texts of a bench, by the keys of its workers and its devices
unfoldable pub texts_by : (workers devices : AnyKey) → Members → Option Texts
texts_by workers devices ms = do
  known ← known_to key.BENCH_KEYS ms
  settings ← settings_in known
  lists ← lists_in workers devices known
  Some (record { settings = settings; lists = lists })
