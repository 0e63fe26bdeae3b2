-- The twelve words of each core set.
use Rattle.std.specs.Prelude.{ℕ, ◌+◌, List, map, slice_index}
use Rattle.std.specs.List.{range_with_len}
use Rattle.agc_word.specs.Layout.{set_size, sets_in, set_place}

-- the twelve words of a set
unfoldable pub block_in : List ℕ → ℕ → List ℕ
block_in words k = map (λ i. slice_index words (set_place k + i)) (range_with_len 0 set_size)

-- the twelve words of each set
unfoldable pub blocks_of : List ℕ → List (List ℕ)
blocks_of words = map (block_in words) (range_with_len 0 (sets_in words))
