-- Words after writes, and after some moved.
use Rattle.std.proofs.Common.{◌≡◌, ◌≢◌, ◌⊎◌, ℕ, ◌+◌, ◌-◌, ◌<◌, ◌≤◌, ◌==◌, cond, List, length, slice_index, slice_set, ap, sym, ◌∙◌, inl, inr, arith}
use Rattle.std.proofs.lemmas.Bool.{cases_eq, cases_lt}
use Rattle.std.proofs.lemmas.List.{length-set, get_or-set_same, get_or-set_other}
use Rattle.std.proofs.lemmas.Grind.{common_steps}
use Rattle.agc_word.specs.Layout.{IsSized}
use Rattle.agc_wait.specs.Moving.{moved_up, moved_down, filled}

-- a word after a write
pub get-set : (words : List ℕ) (i v : ℕ) → i < length (slice_set words i v) → (j : ℕ) → slice_index (slice_set words i v) j ≡ cond (j == i) v (slice_index words j)
get-set words i v lt j =
    let len : length (slice_set words i v) ≡ length words = length-set words i v in
    let within : i < length words = omega arith in
    elim (cases_eq j i) [
      | inl e ↦
          let same : slice_index (slice_set words i v) i ≡ v = get_or-set_same words i v 0 within in
          rw e (same ∙ grind (arith, common_steps))
      | inr ne ↦
          let other : slice_index (slice_set words i v) j ≡ slice_index words j = get_or-set_other words i j v 0 ne in
          other ∙ grind (arith, common_steps)
    ]

pub other_word : (j i v w : ℕ) → j ≢ i → cond (j == i) v w ≡ w
other_word j i v w ne = grind (arith, common_steps)

pub same_word : (j i v w : ℕ) → j ≡ i → cond (j == i) v w ≡ v
same_word j i v w e = grind (arith, common_steps)

-- the same in the form of a call's clauses
pub after_set : (words new : List ℕ) (i w v : ℕ) → new ≡ slice_set words i w → w ≡ v → IsSized new → i < 132 → (j : ℕ) → slice_index new j ≡ cond (j == i) v (slice_index words j)
after_set words new i w v e is len lt j =
    let e2 : new ≡ slice_set words i v = e ∙ ap (slice_set words i) is in
    let n : length new ≡ length (slice_set words i v) = ap length e2 in
    ap (λ l. slice_index l j) e2 ∙ get-set words i v (omega arith) j

-- a write leaves as many words
pub same_size : (words new : List ℕ) (i w : ℕ) → new ≡ slice_set words i w → length new ≡ length words
same_size words new i w is = ap length is ∙ length-set words i w

pub moved_up-in : (words : List ℕ) (from to by j : ℕ) → from ≤ j → j < to → moved_up words from to by j ≡ slice_index words (j + by)
moved_up-in words from to by j le lt = grind (arith, common_steps)

pub moved_up-below : (words : List ℕ) (from to by j : ℕ) → j < from → moved_up words from to by j ≡ slice_index words j
moved_up-below words from to by j lt = grind (arith, common_steps)

pub moved_up-above : (words : List ℕ) (from to by j : ℕ) → to ≤ j → moved_up words from to by j ≡ slice_index words j
moved_up-above words from to by j le = grind (arith, common_steps)

-- one more word came up
pub moved_up-more : (old words : List ℕ) (from i by : ℕ) → from ≤ i → i < length words → ((j : ℕ) → slice_index words j ≡ moved_up old from i by j) → (j : ℕ) → slice_index (slice_set words i (slice_index words (i + by))) j ≡ moved_up old from (i + 1) by j
moved_up-more old words from i by le lt before j =
    let v : ℕ = slice_index words (i + by) in
    let len : length (slice_set words i v) ≡ length words = length-set words i v in
    let get : slice_index (slice_set words i v) j ≡ cond (j == i) v (slice_index words j) = get-set words i v (omega arith) j in
    elim (cases_eq j i) [
      | inl e ↦
          let here : slice_index (slice_set words i v) j ≡ v = get ∙ same_word j i v (slice_index words j) e in
          here ∙ before (i + by) ∙ moved_up-above old from i by (i + by) (omega arith) ∙ ap (λ k. slice_index old (k + by)) (sym e) ∙ sym (moved_up-in old from (i + 1) by j (omega arith) (omega arith))
      | inr ne ↦
          let here : slice_index (slice_set words i v) j ≡ slice_index words j = get ∙ other_word j i v (slice_index words j) ne in
          here ∙ before j ∙ elim (cases_lt j i) [
            | inl less ↦ elim (cases_lt j from) [
              | inl low ↦ moved_up-below old from i by j low ∙ sym (moved_up-below old from (i + 1) by j low)
              | inr high ↦ moved_up-in old from i by j high less ∙ sym (moved_up-in old from (i + 1) by j high (omega arith))
            ]
            | inr more ↦ moved_up-above old from i by j more ∙ sym (moved_up-above old from (i + 1) by j (omega arith))
          ]
    ]

pub moved_down-in : (words : List ℕ) (from to by j : ℕ) → from + by ≤ j → j < to + by → moved_down words from to by j ≡ slice_index words (j - by)
moved_down-in words from to by j le lt = grind (arith, common_steps)

pub moved_down-below : (words : List ℕ) (from to by j : ℕ) → j < from + by → moved_down words from to by j ≡ slice_index words j
moved_down-below words from to by j lt = grind (arith, common_steps)

pub moved_down-above : (words : List ℕ) (from to by j : ℕ) → to + by ≤ j → moved_down words from to by j ≡ slice_index words j
moved_down-above words from to by j le = grind (arith, common_steps)

pub filled-in : (words : List ℕ) (from to bits j : ℕ) → from ≤ j → j < to → filled words from to bits j ≡ bits
filled-in words from to bits j le lt = grind (arith, common_steps)

pub filled-out : (words : List ℕ) (from to bits j : ℕ) → (j < from) ⊎ (to ≤ j) → filled words from to bits j ≡ slice_index words j
filled-out words from to bits j (inl lt) = grind (arith, common_steps)
filled-out words from to bits j (inr le) = grind (arith, common_steps)
