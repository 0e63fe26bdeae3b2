-- Words in ones' complement, seen as their bits.
use Rattle.std.specs.Prelude.{ℕ, ℤ, pos, negsuc, ◌+◌, ◌-◌, ◌-ℤ◌, ◌+ℤ◌, neg_ℤ, nat_lt, int_le, Bool}
use Rattle.std.specs.Prelude.{true, false, if◌then◌else◌}

-- the value of a word: its bits where these are below 0o40000, else its bits less 0o77777
abbrev pub value_of : ℕ → ℤ
value_of bits = if nat_lt bits 0o40000 then pos bits else (pos bits -ℤ pos 0o77777)

-- each bit turned
abbrev pub complement : ℕ → ℕ
complement bits = 0o77777 - bits

-- the word of a value: the amount where it isn't negative, else the complement of the amount
abbrev pub word_of : ℤ → ℕ
word_of (pos amount) = amount
word_of (negsuc less) = complement (less + 1)

-- a sum of bits with its carry brought round to the low end
abbrev pub carried_round : ℕ → ℕ
carried_round bits = if nat_lt bits 0o100000 then bits else (bits - 0o77777)

-- the sum of two words, and whether it overflows: whether the exact sum of both values is beyond
-- 16383 on either side
abbrev pub sum_of : ℕ → ℕ → ℕ × Bool
sum_of a b =
    let exact = value_of a +ℤ value_of b in
    if int_le (pos 0o40000) exact then (word_of (exact -ℤ pos 0o40000), true)
    else (if int_le exact (neg_ℤ (pos 0o40000)) then (complement (word_of (neg_ℤ exact -ℤ pos 0o40000)), true)
    else (carried_round (a + b), false))
