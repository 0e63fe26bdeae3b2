-- What twelve words hold.
use Rattle.std.proofs.Common.{◌≡◌, ℕ, ◌+◌, ◌-◌, ◌*◌, ◌/◌, ◌%◌, ◌<◌, ◌≤◌, ◌==◌, nat_lt, Bool, true, false, List, [], ◌∷◌, Option, Some, None, length, get_or, slice_index, slice_index_or, slice_set, swap, map, refl, ap, sym, ◌∙◌, inl, inr, arith}
use Rattle.agc_word.specs.Layout.{address_of, area_of, IsSized, sets_in, set_place}
use Rattle.agc_exec.specs.Calls.{new_block, fronted_blocks, blocks_new}
use Rattle.std.proofs.lemmas.Bool.{cases_eq, cases_lt}
use Rattle.std.proofs.lemmas.List.{get_or-set_same, get_or-set_other, get_or_default, get_or_past, length-set, length-map, get_or-map, map-set}
use Rattle.std.proofs.lemmas.Option.{same_Some}
use Rattle.std.proofs.lemmas.Grind.{common_steps}
use Rattle.agc_plan.specs.declared.request.Entry.{Entry}
use Rattle.agc_plan.specs.Places.{place_of, with_new}
use Rattle.agc_exec.specs.HeldJob.{HeldJob}
use Rattle.agc_exec.specs.Blocks.{block_in, blocks_of}
use Rattle.agc_exec.specs.Sets.{Holds}
use Rattle.agc_exec.specs.Image.{record_of, held_by, held_of, sets_of, urgency_word, priority_word, Each}
use Rattle.agc_exec.proofs.Reading.{length-blocks_of, get-blocks_of, get-block_in}
use Rattle.agc_exec.proofs.Swaps.{map-swap, Holds-within}

-- a job with these words but for PRIORITY
abbrev pub job_with : List ℕ → ℕ → ℕ → Bool → HeldJob
job_with block priority area asleep = record {
  number = slice_index block 0;
  at = slice_index block 8;
  bank = slice_index block 9;
  priority = priority;
  asleep = asleep;
  area = area;
  work = slice_index block 1 ∷ slice_index block 2 ∷ slice_index block 3 ∷ slice_index block 4 ∷ slice_index block 5 ∷ slice_index block 6 ∷ [];
}

area_of-address : (area : ℕ) → area_of (address_of area) ≡ area
area_of-address area = elim (cases_eq area 0) [ inl z ↦ rw z | inr ne ↦ grind (arith, common_steps) ]

pub urgency_word-parts : (priority area : ℕ) → area ≤ 5 → priority ≤ 31 → (urgency_word priority area / 512 ≡ priority) × (urgency_word priority area % 512 ≡ address_of area) × (urgency_word priority area < 16384)
urgency_word-parts priority area five high =
    let small : address_of area < 512 = elim (cases_eq area 0) [ inl z ↦ rw z (omega arith) | inr ne ↦ let no : (area == 0) ≡ false = grind (arith, common_steps) in rw no (omega arith) ] in
    let below : address_of area < 400 = elim (cases_eq area 0) [ inl z ↦ rw z (omega arith) | inr ne ↦ let no : (area == 0) ≡ false = grind (arith, common_steps) in rw no (omega arith) ] in
    parts priority (address_of area) below high
  where
    parts : (p a : ℕ) → a < 400 → p ≤ 31 → ((512 * p + a) / 512 ≡ p) × ((512 * p + a) % 512 ≡ a) × (512 * p + a < 16384)
    parts p a lt le = (omega arith, omega arith, omega arith)

-- words whose PRIORITY word is a job's hold that job
pub held_of-made : (block : List ℕ) (priority area : ℕ) (asleep : Bool) → 1 ≤ priority → priority ≤ 31 → area ≤ 5 → slice_index block 11 ≡ priority_word priority area asleep → held_of block ≡ Some (job_with block priority area asleep)
unfolding held_of
held_of-made block priority area false low high five is =
    let (p, a, lt) = urgency_word-parts priority area five high in
    let living : (urgency_word priority area == 32767) ≡ false = grind (arith, common_steps) in
    let awake : nat_lt (urgency_word priority area) 16384 ≡ true = grind (arith, common_steps) in
    rw (is, living, awake, p, a, area_of-address area)
held_of-made block priority area true low high five is =
    let (p, a, lt) = urgency_word-parts priority area five high in
    let above : 512 ≤ urgency_word priority area = omega arith in
    let living : (32767 - urgency_word priority area == 32767) ≡ false = grind (arith, common_steps) in
    let asleep : nat_lt (32767 - urgency_word priority area) 16384 ≡ false = grind (arith, common_steps) in
    let back : 32767 - (32767 - urgency_word priority area) ≡ urgency_word priority area = omega arith in
    rw (is, living, asleep, back, p, a, area_of-address area)

-- a job's other fields are those of its words
pub held_of-fields : (block : List ℕ) (r : HeldJob) → held_of block ≡ Some r → r ≡ job_with block r.priority r.area r.asleep
unfolding held_of
held_of-fields block r e = go (slice_index block 11) e where
  go : (w : ℕ) → held_by block w ≡ Some r → r ≡ job_with block r.priority r.area r.asleep
  go w e = elim (cases_eq w 32767) [
    | inl free ↦ let z : (w == 32767) ≡ true = grind (arith, common_steps) in let no : None ≡ Some r = rw z at e in absurd (cc)
    | inr ne ↦
        let z : (w == 32767) ≡ false = grind (arith, common_steps) in
        elim (cases_lt w 16384) [
          | inl lt ↦ let y : nat_lt w 16384 ≡ true = grind (arith, common_steps) in let is : record_of block w false ≡ r = same_Some _ _ (rw (z, y) at e) in rw (← is)
          | inr ge ↦ let y : nat_lt w 16384 ≡ false = grind (arith, common_steps) in let is : record_of block (32767 - w) true ≡ r = same_Some _ _ (rw (z, y) at e) in rw (← is)
        ]
  ]

pub held_of-free : (block : List ℕ) → slice_index block 11 ≡ 32767 → held_of block ≡ None
unfolding held_of
held_of-free block e = rw e

-- a new job's words
pub held_of-new : (number priority : ℕ) (entry : Entry) (area : ℕ) → 1 ≤ priority → priority ≤ 31 → area ≤ 5 → held_of (new_block number priority entry area) ≡ Some (job_with (new_block number priority entry area) priority area false)
held_of-new number priority entry area low high five = held_of-made (new_block number priority entry area) priority area false low high five refl

-- the sets after a write and after an exchange
pub sets_of-set : (old new : List ℕ) (k : ℕ) (block : List ℕ) → blocks_of new ≡ slice_set (blocks_of old) k block → sets_of new ≡ slice_set (sets_of old) k (held_of block)
unfolding sets_of
sets_of-set old new k block e = ap (map held_of) e ∙ map-set held_of (blocks_of old) k block

pub sets_of-swap : (old new : List ℕ) (k : ℕ) → k < length (blocks_of old) → blocks_of new ≡ swap (blocks_of old) 0 k → sets_of new ≡ swap (sets_of old) 0 k
unfolding sets_of
sets_of-swap old new k lt e = ap (map held_of) e ∙ map-swap held_of (blocks_of old) k [] lt

pub length-sets_of : (words : List ℕ) → length (sets_of words) ≡ length (blocks_of words)
unfolding sets_of
length-sets_of words = length-map (blocks_of words) held_of

pub length-sets : (words : List ℕ) → length (sets_of words) ≡ sets_in words
length-sets words = length-sets_of words ∙ length-blocks_of words

pub get-sets_of : (words : List ℕ) (k : ℕ) (d : Option HeldJob) → k < length (blocks_of words) → get_or (sets_of words) k d ≡ held_of (slice_index_or (blocks_of words) k [])
unfolding sets_of
get-sets_of words k d lt = get_or-map held_of (blocks_of words) k [] d lt

pub Each-set : (P : List ℕ → Type 0) (blocks : List (List ℕ)) (k : ℕ) (block : List ℕ) → Each P blocks → P block → Each P (slice_set blocks k block)
Each-set P blocks k block each here s lt =
    let len : length (slice_set blocks k block) ≡ length blocks = length-set blocks k block in
    elim (cases_eq s k) [
      | inl same ↦ let e : slice_index_or (slice_set blocks k block) s [] ≡ block = ap (λ i. slice_index_or (slice_set blocks k block) i []) same ∙ get_or-set_same blocks k block [] (omega arith) in rw e here
      | inr ne ↦ let e : slice_index_or (slice_set blocks k block) s [] ≡ slice_index_or blocks s [] = get_or-set_other blocks k s block [] ne in rw e (each s (omega arith))
    ]

pub Each-any : (P : List ℕ → Type 0) (first : List ℕ) (blocks : List (List ℕ)) (k : ℕ) → Each P (first ∷ blocks) → P (slice_index_or (first ∷ blocks) k first)
Each-any P first blocks k each = elim (cases_lt k (length (first ∷ blocks))) [
  | inl lt ↦ rw (get_or_default (first ∷ blocks) k first [] lt) (each k lt)
  | inr past ↦ rw (get_or_past (first ∷ blocks) k first past) (each 0 (omega arith))
]

pub Each-swap : (P : List ℕ → Type 0) (blocks : List (List ℕ)) (k : ℕ) → Each P blocks → Each P (swap blocks 0 k)
Each-swap P [] k each = each
Each-swap P (first ∷ blocks) k each =
    Each-set P (slice_set (first ∷ blocks) 0 (slice_index_or (first ∷ blocks) k first)) k first (Each-set P (first ∷ blocks) 0 (slice_index_or (first ∷ blocks) k first) each (Each-any P first blocks k each)) (each 0 (omega arith))

pub Each-fronted : (P : List ℕ → Type 0) (running : Option ℕ) (entries : List ℕ) (blocks : List (List ℕ)) → Each P blocks → Each P (fronted_blocks running entries blocks)
Each-fronted P None entries blocks each = each
Each-fronted P (Some number) entries blocks each = Each-swap P blocks (place_of number entries) each

pub Each-new : (P : List ℕ → Type 0) (reply : Option ℕ) (priority : ℕ) (entry : Entry) (area : ℕ) (running : Option ℕ) (entries : List ℕ) (blocks : List (List ℕ)) → Each P blocks → ((number : ℕ) → reply ≡ Some number → P (new_block number priority entry area)) → Each P (blocks_new reply priority entry area running entries blocks)
Each-new P None priority entry area running entries blocks each here = each
Each-new P (Some number) priority entry area running entries blocks each here =
    Each-fronted P running (with_new number entries) _ (Each-set P blocks (place_of 0 entries) (new_block number priority entry area) each (here number refl))

pub swap-same : (blocks : List (List ℕ)) → swap blocks 0 0 ≡ blocks
swap-same [] = refl
swap-same (b ∷ blocks) = refl

pub IsSized-kept : (old new : List ℕ) → length new ≡ length old → IsSized old → IsSized new
IsSized-kept old new e sized = elim sized [ inl seven ↦ inl (e ∙ seven) | inr eight ↦ inr (e ∙ eight) ]

pub held_at : (words : List ℕ) (k : ℕ) (d : Option HeldJob) → k < sets_in words → held_of (block_in words k) ≡ slice_index_or (sets_of words) k d
held_at words k d lt =
    let len : length (blocks_of words) ≡ sets_in words = length-blocks_of words in
    ap held_of (sym (get-blocks_of words k [] lt)) ∙ sym (get-sets_of words k d (omega arith))

pub IsSet-lengths : (words : List ℕ) → IsSized words → (7 ≤ length (sets_of words)) × (length (sets_of words) ≤ 8)
IsSet-lengths words sized = let len : length (sets_of words) ≡ sets_in words = length-sets words in (omega arith, omega arith)

-- a job's number is the first of its set's words
pub number_word : (words : List ℕ) (k : ℕ) (r : HeldJob) → Holds (sets_of words) k r → slice_index words (set_place k) ≡ r.number
number_word words k r at =
    let lt : k < sets_in words = let n : k < length (sets_of words) = Holds-within (sets_of words) k r at in let len : length (sets_of words) ≡ sets_in words = length-sets words in omega arith in
    let held : held_of (block_in words k) ≡ Some r = held_at words k None lt ∙ at in
    let zero_is : set_place k + 0 ≡ set_place k = omega arith in
    ap (slice_index words) (sym zero_is) ∙ sym (get-block_in words k 0 0 (omega arith)) ∙ sym (ap (λ h. h.number) (held_of-fields (block_in words k) r held))
