-- The words of a table without a task.
use Rattle.std.proofs.Common.{◌≡◌, ℕ, ◌+◌, ◌*◌, ◌<◌, ◌==◌, cond, List, [], length, slice_index, refl, ap, sym, subst, ◌∙◌, inl, inr, arith}
use Rattle.agc_word.specs.Layout as layout
use Rattle.agc_word.specs.Layout.{Keeps, OutsideWaitlist}
use Rattle.agc_plan.specs.Tasks.{Waiting, StandsFor}
use Rattle.agc_wait.specs.Waits.{due_now}
use Rattle.agc_wait.specs.Table.{blank_gap, waits_of, time3, lst1, at_in, bank_in}
use Rattle.agc_wait.specs.Parts.{distance_of}
use Rattle.agc_wait.specs.Writing.{IsBlank}
use Rattle.agc_wait.specs.Moving.{filled}
use Rattle.agc_wait.specs.Calls.{Clears}
use Rattle.agc_wait.proofs.Places.{at_each_place}
use Rattle.agc_wait.proofs.Tables.{Carries, waits_of-carried, IsLawfulTable-carried}
use Rattle.agc_wait.proofs.Writes.{other_word, filled-in, filled-out}

Carries-blank : (words : List ℕ) → IsBlank words → Carries words []
Carries-blank words blank = record {
  word = at_each_place (λ i. slice_index words i < 32768)
      (let is : time3 words ≡ 0 = blank.counter in omega arith)
      (λ k lt. let is : lst1 words k ≡ blank_gap = blank.gap k lt in omega arith)
      (λ k lt. let is : at_in words k ≡ 0 = blank.at k lt in omega arith)
      (λ k lt. let is : bank_in words k ≡ 0 = blank.bank k lt in omega arith);
  nine = omega arith;
  at = blank.at;
  bank = blank.bank;
  low = λ k lt. absurd (omega arith);
  high = λ k. omega arith;
  counter = let is : time3 words ≡ 0 = blank.counter in omega arith;
  idle = λ none. blank.counter;
  first = ap distance_of blank.counter;
  next = λ k lt. absurd (omega arith);
  gaps = λ k lt. absurd (omega arith);
  rest = λ k le lt. blank.gap k lt;
  near = λ k. omega arith;
}

clears-by : (old new : List ℕ) → IsBlank new → Keeps OutsideWaitlist old new → Clears old new
clears-by old new blank others =
    let carries : Carries new [] = Carries-blank new blank in
    let empty : waits_of new ≡ [] = waits_of-carried new [] carries in
    record {
      empty = empty;
      stands = λ time. subst (λ (ws : List Waiting). StandsFor ws (record { tasks = []; time = time })) (sym empty) (record { rises = tt; same_at = λ t. refl });
      none_due = ap due_now empty;
      lawful = IsLawfulTable-carried new [] carries;
      tidy = λ k lt e. let is : lst1 new k ≡ blank_gap = blank.gap k lt in omega arith;
      others = others;
      words = blank;
    }

-- the writes of a clearing, one after another
pub cleared : (old e1 e2 new : List ℕ) → ((j : ℕ) → slice_index e1 j ≡ cond (j == layout.time3) 0 (slice_index old j)) → ((j : ℕ) → slice_index e2 j ≡ filled e1 layout.lst1 layout.lst2 blank_gap j) → ((j : ℕ) → slice_index new j ≡ filled e2 layout.lst2 layout.phase_words 0 j) → length new ≡ length old → Clears old new
cleared old e1 e2 new by_counter by_gaps by_pairs len = clears-by old new (record {
  counter = by_pairs layout.time3 ∙ by_gaps layout.time3 ∙ by_counter layout.time3;
  gap = λ k lt. by_pairs (layout.lst1 + k) ∙ filled-out e2 layout.lst2 layout.phase_words 0 (layout.lst1 + k) (inl (omega arith)) ∙ by_gaps (layout.lst1 + k) ∙ filled-in e1 layout.lst1 layout.lst2 blank_gap (layout.lst1 + k) (omega arith) (omega arith);
  at = λ k lt. by_pairs (layout.lst2 + 2 * k) ∙ filled-in e2 layout.lst2 layout.phase_words 0 (layout.lst2 + 2 * k) (omega arith) (omega arith);
  bank = λ k lt. by_pairs (layout.lst2 + 1 + 2 * k) ∙ filled-in e2 layout.lst2 layout.phase_words 0 (layout.lst2 + 1 + 2 * k) (omega arith) (omega arith);
}) (record { same_length = len; words = others })
  where
    others : (j : ℕ) → OutsideWaitlist j → slice_index new j ≡ slice_index old j
    others j (inl lt) =
        by_pairs j ∙ filled-out e2 layout.lst2 layout.phase_words 0 j (inl (omega arith)) ∙ by_gaps j ∙ filled-out e1 layout.lst1 layout.lst2 blank_gap j (inl (omega arith)) ∙ by_counter j ∙ other_word j layout.time3 _ _ (λ e. omega arith)
    others j (inr le) =
        by_pairs j ∙ filled-out e2 layout.lst2 layout.phase_words 0 j (inr (omega arith)) ∙ by_gaps j ∙ filled-out e1 layout.lst1 layout.lst2 blank_gap j (inr (omega arith)) ∙ by_counter j ∙ other_word j layout.time3 _ _ (λ e. omega arith)
