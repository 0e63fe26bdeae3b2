-- The twelve words of each set.
use Rattle.std.proofs.Common.{◌≡◌, ◌≢◌, ℕ, ◌+◌, ◌-◌, ◌/◌, ◌<◌, ◌≤◌, List, length, get_or, slice_index, slice_set, swap, [], refl, ap, sym, ◌∙◌, inl, inr, arith}
use Rattle.agc_word.specs.Layout.{IsSized, sets_in, set_place, use_words, last_set}
use Rattle.std.proofs.lemmas.Bool.{cases_eq, cases_lt}
use Rattle.std.proofs.lemmas.List.{get_or-set_same, get_or-set_other, get_or_default, length-set, set-set, same_lists}
use Rattle.std.proofs.lemmas.List.Edits.{swap_is, length-swap}
use Rattle.std.proofs.lemmas.List.FromFn.{get_or-map-range_with_len, length-map-range_with_len}
use Rattle.agc_exec.specs.Blocks.{block_in, blocks_of}

pub length-block_in : (words : List ℕ) (k : ℕ) → length (block_in words k) ≡ 12
unfolding block_in
length-block_in words k = refl

pub get-block_in : (words : List ℕ) (k i d : ℕ) → i < 12 → get_or (block_in words k) i d ≡ slice_index words (set_place k + i)
unfolding block_in
get-block_in words k i d lt = get_or-map-range_with_len (λ j. slice_index words (set_place k + j)) 0 12 i i d lt (omega arith)

pub length-blocks_of : (words : List ℕ) → length (blocks_of words) ≡ sets_in words
unfolding blocks_of
length-blocks_of words = length-map-range_with_len (block_in words) 0 (sets_in words)

pub get-blocks_of : (words : List ℕ) (k : ℕ) (d : List ℕ) → k < sets_in words → get_or (blocks_of words) k d ≡ block_in words k
unfolding blocks_of
get-blocks_of words k d lt = get_or-map-range_with_len (block_in words) 0 (sets_in words) k k d lt (omega arith)

-- a list of twelve words that agrees with those of a set
pub block_in-is : (words : List ℕ) (k : ℕ) (block : List ℕ) → length block ≡ 12 → ((i : ℕ) → i < 12 → slice_index words (set_place k + i) ≡ slice_index block i) → block_in words k ≡ block
block_in-is words k block len same =
    same_lists (block_in words k) block (length-block_in words k ∙ sym len) (λ i d lt.
    let lt_i : i < 12 = let l : length (block_in words k) ≡ 12 = length-block_in words k in omega arith in
    get-block_in words k i d lt_i ∙ same i lt_i ∙ get_or_default block i 0 d (omega arith))

pub block_in-same : (old new : List ℕ) (k : ℕ) → ((i : ℕ) → i < 12 → slice_index new (set_place k + i) ≡ slice_index old (set_place k + i)) → block_in new k ≡ block_in old k
block_in-same old new k same = block_in-is new k (block_in old k) (length-block_in old k) (λ i lt. same i lt ∙ sym (get-block_in old k i 0 lt))

-- what was written at one set's places
pub record Written (old new : List ℕ) (k : ℕ) (block : List ℕ) : Type 0 where
  pub same_length : length new ≡ length old
  pub here : (i : ℕ) → i < 12 → slice_index new (set_place k + i) ≡ slice_index block i
  pub before : (j : ℕ) → j < set_place k → slice_index new j ≡ slice_index old j
  pub after : (j : ℕ) → set_place k + 12 ≤ j → slice_index new j ≡ slice_index old j

places_apart : (s k : ℕ) → s < k → k ≤ 7 → set_place s + 12 ≤ set_place k
places_apart s k lt high = omega arith

pub blocks_of-written : (old new : List ℕ) (k : ℕ) (block : List ℕ) → k < sets_in old → k ≤ 7 → sets_in old ≤ 8 → length block ≡ 12 → Written old new k block → blocks_of new ≡ slice_set (blocks_of old) k block
blocks_of-written old new k block lt high room len w =
    let len_old : length (blocks_of old) ≡ sets_in old = length-blocks_of old in
    let len_new : length (blocks_of new) ≡ sets_in new = length-blocks_of new in
    let same_count : sets_in new ≡ sets_in old = ap (λ n. (n - 48) / 12) w.same_length in
    same_lists (blocks_of new) (slice_set (blocks_of old) k block) (len_new ∙ same_count ∙ sym len_old ∙ sym (length-set (blocks_of old) k block)) (λ s d lt_s.
    let lt_new : s < sets_in new = omega arith in
    get-blocks_of new s d lt_new ∙ at s d (omega arith))
  where
    at : (s : ℕ) (d : List ℕ) → s < sets_in old → block_in new s ≡ get_or (slice_set (blocks_of old) k block) s d
    at s d lt_s = elim (cases_eq s k) [
      | inl same ↦
          let len_old : length (blocks_of old) ≡ sets_in old = length-blocks_of old in
          rw same (block_in-is new k block len w.here ∙ sym (get_or-set_same (blocks_of old) k block d (omega arith)))
      | inr ne ↦
          block_in-same old new s (λ i lt_i. elim (cases_lt s k) [
            | inl below ↦ let apart : set_place s + 12 ≤ set_place k = places_apart s k below high in w.before (set_place s + i) (omega arith)
            | inr above ↦ let apart : set_place k + 12 ≤ set_place s = places_apart k s (omega arith) (omega arith) in w.after (set_place s + i) (omega arith)
          ])
          ∙ sym (get_or-set_other (blocks_of old) k s block d ne ∙ get-blocks_of old s d lt_s)
    ]

pub IsSized-most : (words : List ℕ) → IsSized words → sets_in words ≤ 8
IsSized-most words s = omega arith

-- a word that no set has was written
pub blocks_of-kept : (words : List ℕ) (j w : ℕ) → IsSized words → use_words ≤ j → j < last_set → blocks_of (slice_set words j w) ≡ blocks_of words
blocks_of-kept words j w sized low high =
    let len_old : length (blocks_of words) ≡ sets_in words = length-blocks_of words in
    let len_new : length (blocks_of (slice_set words j w)) ≡ sets_in (slice_set words j w) = length-blocks_of (slice_set words j w) in
    let len : length (slice_set words j w) ≡ length words = length-set words j w in
    let same_count : sets_in (slice_set words j w) ≡ sets_in words = ap (λ n. (n - 48) / 12) len in
    let most : sets_in words ≤ 8 = IsSized-most words sized in
    same_lists (blocks_of (slice_set words j w)) (blocks_of words) (len_new ∙ same_count ∙ sym len_old) (λ s d lt.
    let lt_s : s < sets_in words = omega arith in
    get-blocks_of (slice_set words j w) s d (omega arith)
    ∙ block_in-same words (slice_set words j w) s (λ i lt_i. let apart : set_place s + i ≢ j = λ e. outside s i j (omega arith) lt_i low high e in get_or-set_other words j (set_place s + i) w 0 apart)
    ∙ sym (get-blocks_of words s d lt_s))
  where
    outside : (s i j : ℕ) → s < 8 → i < 12 → use_words ≤ j → j < last_set → set_place s + i ≡ j → ⊥
    outside s i j lt_s lt_i low high e = omega arith

-- one word of a set was written
pub blocks_of-word : (words : List ℕ) (k i w : ℕ) → IsSized words → k < sets_in words → i < 12 → blocks_of (slice_set words (set_place k + i) w) ≡ slice_set (blocks_of words) k (slice_set (block_in words k) i w)
blocks_of-word words k i w sized lt lt_i =
    let twelve : length (block_in words k) ≡ 12 = length-block_in words k in
    let most : sets_in words ≤ 8 = IsSized-most words sized in
    blocks_of-written words (slice_set words (set_place k + i) w) k (slice_set (block_in words k) i w) (omega arith) (omega arith) most (length-set (block_in words k) i w ∙ twelve) (record {
      same_length = length-set words (set_place k + i) w;
      here = λ j lt_j. elim (cases_eq j i) [
        | inl same ↦ rw same (get_or-set_same words (set_place k + i) w 0 (omega arith) ∙ sym (get_or-set_same (block_in words k) i w 0 (omega arith)))
        | inr ne ↦ get_or-set_other words (set_place k + i) (set_place k + j) w 0 (λ e. ne (omega arith)) ∙ sym (get_or-set_other (block_in words k) i j w 0 ne ∙ get-block_in words k j 0 lt_j)
      ];
      before = λ j lt_j. get_or-set_other words (set_place k + i) j w 0 (omega arith);
      after = λ j le. get_or-set_other words (set_place k + i) j w 0 (omega arith);
    })

-- a set's words are those that were written
pub block_in-written : (old new : List ℕ) (k : ℕ) (block : List ℕ) → k < sets_in old → length new ≡ length old → blocks_of new ≡ slice_set (blocks_of old) k block → block_in new k ≡ block
block_in-written old new k block lt len written =
    let len_old : length (blocks_of old) ≡ sets_in old = length-blocks_of old in
    let same_count : sets_in new ≡ sets_in old = ap (λ n. (n - 48) / 12) len in
    sym (get-blocks_of new k [] (omega arith)) ∙ ap (λ bs. get_or bs k []) written ∙ get_or-set_same (blocks_of old) k block [] (omega arith)

-- one word more of a set was written
pub blocks_of-more : (old mid new : List ℕ) (k i w : ℕ) (block : List ℕ) → k < sets_in old → length mid ≡ length old → blocks_of mid ≡ slice_set (blocks_of old) k block → blocks_of new ≡ slice_set (blocks_of mid) k (slice_set (block_in mid k) i w) → blocks_of new ≡ slice_set (blocks_of old) k (slice_set block i w)
blocks_of-more old mid new k i w block lt len first second =
    second ∙ ap (λ b. slice_set (blocks_of mid) k (slice_set b i w)) (block_in-written old mid k block lt len first)
    ∙ ap (λ bs. slice_set bs k (slice_set block i w)) first
    ∙ set-set (blocks_of old) k block (slice_set block i w)

-- two words of a set were written
pub blocks_of-twice : (old mid new : List ℕ) (k i j v w : ℕ) → IsSized old → length mid ≡ length old → k < sets_in old → blocks_of mid ≡ slice_set (blocks_of old) k (slice_set (block_in old k) i v) → blocks_of new ≡ slice_set (blocks_of mid) k (slice_set (block_in mid k) j w) → blocks_of new ≡ slice_set (blocks_of old) k (slice_set (slice_set (block_in old k) i v) j w)
blocks_of-twice old mid new k i j v w sized len lt first second =
    let len_old : length (blocks_of old) ≡ sets_in old = length-blocks_of old in
    let least : k < sets_in old = omega arith in
    let same_count : sets_in mid ≡ sets_in old = ap (λ n. (n - 48) / 12) len in
    let block : block_in mid k ≡ slice_set (block_in old k) i v =
    sym (get-blocks_of mid k [] (omega arith)) ∙ ap (λ bs. get_or bs k []) first ∙ get_or-set_same (blocks_of old) k (slice_set (block_in old k) i v) [] (omega arith) in
    second ∙ ap (λ b. slice_set (blocks_of mid) k (slice_set b j w)) block
    ∙ ap (λ bs. slice_set bs k (slice_set (slice_set (block_in old k) i v) j w)) first
    ∙ set-set (blocks_of old) k (slice_set (block_in old k) i v) (slice_set (slice_set (block_in old k) i v) j w)

-- set 0 begins at place 0
get-first_block : (words : List ℕ) (i : ℕ) → i < 12 → slice_index words i ≡ get_or (block_in words 0) i 0
get-first_block words i lt = let is : i ≡ set_place 0 + i = omega arith in ap (slice_index words) is ∙ sym (get-block_in words 0 i 0 lt)

-- the words of set 0 and of set k were exchanged
pub record Exchanged (old new : List ℕ) (k : ℕ) : Type 0 where
  pub same_length : length new ≡ length old
  pub front : (i : ℕ) → i < 12 → slice_index new i ≡ slice_index old (set_place k + i)
  pub other : (i : ℕ) → i < 12 → slice_index new (set_place k + i) ≡ slice_index old i
  pub front_rest : (j : ℕ) → 12 ≤ j → j < set_place k → slice_index new j ≡ slice_index old j
  pub other_rest : (j : ℕ) → set_place k + 12 ≤ j → slice_index new j ≡ slice_index old j

pub blocks_of-exchanged : (old new : List ℕ) (k : ℕ) → IsSized old → 0 < k → k < sets_in old → Exchanged old new k → blocks_of new ≡ swap (blocks_of old) 0 k
blocks_of-exchanged old new k sized positive lt x =
    let len_old : length (blocks_of old) ≡ sets_in old = length-blocks_of old in
    let len_new : length (blocks_of new) ≡ sets_in new = length-blocks_of new in
    let same_count : sets_in new ≡ sets_in old = ap (λ n. (n - 48) / 12) x.same_length in
    let most : sets_in old ≤ 8 = IsSized-most old sized in
    same_lists (blocks_of new) (swap (blocks_of old) 0 k) (len_new ∙ same_count ∙ sym len_old ∙ sym (length-swap (blocks_of old) 0 k)) (λ s d lt_s.
    get-blocks_of new s d (omega arith) ∙ at s d (omega arith) ∙ ap (λ b. get_or b s d) (swap_is (blocks_of old) 0 k [] (omega arith) (omega arith)))
  where
    at : (s : ℕ) (d : List ℕ) → s < sets_in old → block_in new s ≡ get_or (slice_set (slice_set (blocks_of old) 0 (get_or (blocks_of old) k [])) k (get_or (blocks_of old) 0 [])) s d
    at s d lt_s =
        let len_old : length (blocks_of old) ≡ sets_in old = length-blocks_of old in
        let len_first : length (slice_set (blocks_of old) 0 (get_or (blocks_of old) k [])) ≡ length (blocks_of old) = length-set (blocks_of old) 0 (get_or (blocks_of old) k []) in
        let most : sets_in old ≤ 8 = IsSized-most old sized in
        elim (cases_eq s k) [
          | inl is_k ↦
              rw is_k (block_in-is new k (block_in old 0) (length-block_in old 0) (λ i lt_i. x.other i lt_i ∙ get-first_block old i lt_i)
              ∙ sym (get_or-set_same (slice_set (blocks_of old) 0 (get_or (blocks_of old) k [])) k (get_or (blocks_of old) 0 []) d (omega arith) ∙ get-blocks_of old 0 [] (omega arith)))
          | inr not_k ↦ elim (cases_eq s 0) [
            | inl is_0 ↦
                rw is_0 (block_in-is new 0 (block_in old k) (length-block_in old k) (λ i lt_i. let is : set_place 0 + i ≡ i = omega arith in ap (slice_index new) is ∙ x.front i lt_i ∙ sym (get-block_in old k i 0 lt_i))
                ∙ sym (get_or-set_other (slice_set (blocks_of old) 0 (get_or (blocks_of old) k [])) k 0 (get_or (blocks_of old) 0 []) d (omega arith)
                ∙ get_or-set_same (blocks_of old) 0 (get_or (blocks_of old) k []) d (omega arith) ∙ get-blocks_of old k [] (omega arith)))
            | inr not_0 ↦
                block_in-same old new s (λ i lt_i. elim (cases_lt s k) [
                  | inl below ↦ let apart : set_place s + 12 ≤ set_place k = places_apart s k below (omega arith) in x.front_rest (set_place s + i) (omega arith) (omega arith)
                  | inr above ↦ let apart : set_place k + 12 ≤ set_place s = places_apart k s (omega arith) (omega arith) in x.other_rest (set_place s + i) (omega arith)
                ])
                ∙ sym (get_or-set_other (slice_set (blocks_of old) 0 (get_or (blocks_of old) k [])) k s (get_or (blocks_of old) 0 []) d not_k
                ∙ get_or-set_other (blocks_of old) 0 s (get_or (blocks_of old) k []) d not_0 ∙ get-blocks_of old s d lt_s)
          ]
        ]
