-- When the words of a set are tidy.
use Rattle.std.proofs.Common.{◌≡◌, ◌≢◌, ℕ, ◌+◌, ◌<◌, Bool, not, List, [], Some, None, true, false, slice_index, slice_index_or, refl, sym, subst, ◌∙◌, inl, inr, arith}
use Rattle.std.proofs.lemmas.Bool.{cases_lt}
use Rattle.agc_word.specs.Layout.{sets_in, set_place}
use Rattle.agc_exec.specs.Blocks.{block_in, blocks_of}
use Rattle.agc_exec.specs.Image.{minus_zero, held_of, record_of, IsTidyBlock}
use Rattle.agc_word.specs.Words.{complement}
use Rattle.agc_exec.proofs.Ranks.{held_by-free, held_by-awake, held_by-asleep}
use Rattle.agc_exec.proofs.Reading.{get-block_in, get-blocks_of}

tidy_free : (block : List ℕ) → slice_index block 11 ≡ minus_zero → IsTidyBlock block
unfolding held_of
tidy_free block free = λ r is. absurd (let no : None ≡ Some r = sym (held_by-free block (slice_index block 11) free) ∙ is in cc)

tidy_zero : (block : List ℕ) → slice_index block 7 ≡ 0 → slice_index block 10 ≡ 0 → IsTidyBlock block
tidy_zero block mode pushloc = λ r is. (mode, pushloc)

zero_tidy : (block : List ℕ) → slice_index block 11 ≢ minus_zero → IsTidyBlock block → (slice_index block 7 ≡ 0) × (slice_index block 10 ≡ 0)
unfolding held_of
zero_tidy block ne tidy = elim (cases_lt (slice_index block 11) 16384) [
  | inl awake ↦ tidy (record_of block (slice_index block 11) false) (held_by-awake block (slice_index block 11) awake)
  | inr asleep ↦ tidy (record_of block (complement (slice_index block 11)) true) (held_by-asleep block (slice_index block 11) asleep ne)
]

-- of a set, by its words
pub set_free : (words : List ℕ) (k : ℕ) → k < sets_in words → slice_index words (set_place k + 11) ≡ minus_zero → IsTidyBlock (slice_index_or (blocks_of words) k [])
set_free words k lt free =
    subst IsTidyBlock (sym (get-blocks_of words k [] lt)) (tidy_free (block_in words k) (get-block_in words k 11 0 (omega arith) ∙ free))

pub set_zero : (words : List ℕ) (k : ℕ) → k < sets_in words → slice_index words (set_place k + 7) ≡ 0 → slice_index words (set_place k + 10) ≡ 0 → IsTidyBlock (slice_index_or (blocks_of words) k [])
set_zero words k lt mode pushloc =
    subst IsTidyBlock (sym (get-blocks_of words k [] lt)) (tidy_zero (block_in words k) (get-block_in words k 7 0 (omega arith) ∙ mode) (get-block_in words k 10 0 (omega arith) ∙ pushloc))

pub zero_set : (words : List ℕ) (k : ℕ) → k < sets_in words → slice_index words (set_place k + 11) ≢ minus_zero → IsTidyBlock (slice_index_or (blocks_of words) k []) → (slice_index words (set_place k + 7) ≡ 0) × (slice_index words (set_place k + 10) ≡ 0)
zero_set words k lt ne tidy =
    let (mode, pushloc) = zero_tidy (block_in words k) (λ is. ne (sym (get-block_in words k 11 0 (omega arith)) ∙ is)) (subst IsTidyBlock (get-blocks_of words k [] lt) tidy) in
    (sym (get-block_in words k 7 0 (omega arith)) ∙ mode, sym (get-block_in words k 10 0 (omega arith)) ∙ pushloc)

-- a test that failed
pub untidy : (words : List ℕ) (k : ℕ) → k < sets_in words → slice_index words (set_place k + 11) ≢ minus_zero → slice_index words (set_place k + 7) ≢ 0 → IsTidyBlock (slice_index_or (blocks_of words) k []) → false ≡ true
untidy words k lt ne mode tidy = absurd (mode (zero_set words k lt ne tidy).0)

-- the other answer
pub otherwise : (b : Bool) → not b ≡ true → b ≡ false
otherwise true is = absurd (let never : false ≡ true = is in cc)
otherwise false is = refl
