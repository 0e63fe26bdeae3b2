-- The words after the first task is taken out.
use Rattle.std.proofs.Common.{◌-◌, ◌≡◌, ◌≢◌, ℕ, suc, ◌+◌, ◌*◌, ◌<◌, ◌≤◌, ◌==◌, true, cond, List, [], ◌∷◌, length, slice_index, Some, refl, ap, sym, subst, ◌∙◌, inl, inr, arith, add-one}
use Rattle.std.specs.List.{remove}
use Rattle.std.proofs.lemmas.Bool.{cases_lt}
use Rattle.std.proofs.lemmas.List.{get_or_past}
use Rattle.std.proofs.lemmas.Grind.{common_steps}
use Rattle.agc_word.specs.Layout as layout
use Rattle.agc_word.specs.Layout.{OutsideWaitlist}
use Rattle.agc_plan.specs.declared.request.Task.{Task}
use Rattle.agc_plan.specs.Tasks.{Waiting}
use Rattle.agc_wait.specs.Waits.{is_due, due_now}
use Rattle.agc_wait.specs.Table.{blank_gap, IsLawfulTable, IsTidy, waits_of, time3, lst1, at_in, bank_in, gap_of}
use Rattle.agc_wait.specs.Parts.{distance_of}
use Rattle.agc_wait.specs.Writing.{place_in, no_task, counter_at, IsTaken}
use Rattle.agc_wait.specs.Moving.{moved_up}
use Rattle.agc_wait.specs.Calls.{Dispatches}
use Rattle.agc_wait.proofs.Distances.{first_due-place, StandsFor-removed}
use Rattle.agc_wait.proofs.Dues.{due_now-removed}
use Rattle.agc_wait.proofs.Standing.{shown}
use Rattle.agc_wait.proofs.Gaps.{distance_of-counter_at, counter_at-low}
use Rattle.agc_wait.proofs.Places.{at_each_place}
use Rattle.agc_wait.proofs.Tables.{Carries, Carries-lawful, waits_of-carried, IsLawfulTable-carried}
use Rattle.agc_wait.proofs.Writes.{other_word, same_word, moved_up-in, moved_up-below, moved_up-above}

-- the writes of a dispatch, one after another
pub record Takes (old e1 e2 e3 e4 e5 new : List ℕ) (t : ℕ) : Type 0 where
  pub counter : (j : ℕ) → slice_index e1 j ≡ cond (j == layout.time3) t (slice_index old j)
  pub gaps : (j : ℕ) → slice_index e2 j ≡ moved_up e1 layout.lst1 (layout.lst2 - 1) 1 j
  pub last_gap : (j : ℕ) → slice_index e3 j ≡ cond (j == (layout.lst2 - 1)) blank_gap (slice_index e2 j)
  pub pairs : (j : ℕ) → slice_index e4 j ≡ moved_up e3 layout.lst2 (layout.phase_words - 2) 2 j
  pub last_at : (j : ℕ) → slice_index e5 j ≡ cond (j == (layout.phase_words - 2)) 0 (slice_index e4 j)
  pub last_bank : (j : ℕ) → slice_index new j ≡ cond (j == (layout.phase_words - 1)) 0 (slice_index e5 j)

module _ (old e1 e2 e3 e4 e5 new : List ℕ) (t : ℕ) (by : Takes old e1 e2 e3 e4 e5 new t) where
  before_pairs : (j : ℕ) → j < layout.lst2 → slice_index new j ≡ slice_index e3 j
  before_pairs j lt =
      by.last_bank j ∙ other_word j (layout.phase_words - 1) 0 (slice_index e5 j) (λ e. omega arith) ∙ by.last_at j ∙ other_word j (layout.phase_words - 2) 0 (slice_index e4 j) (λ e. omega arith)
      ∙ by.pairs j ∙ moved_up-below e3 layout.lst2 (layout.phase_words - 2) 2 j lt

  taken-gap : (j : ℕ) → layout.lst1 ≤ j → j < (layout.lst2 - 1) → slice_index new j ≡ slice_index old (j + 1)
  taken-gap j le lt =
      before_pairs j (omega arith) ∙ by.last_gap j ∙ other_word j (layout.lst2 - 1) blank_gap (slice_index e2 j) (λ e. omega arith) ∙ by.gaps j ∙ moved_up-in e1 layout.lst1 (layout.lst2 - 1) 1 j le lt
      ∙ by.counter (j + 1) ∙ other_word (j + 1) layout.time3 t (slice_index old (j + 1)) (λ e. omega arith)

  taken-pair : (j : ℕ) → layout.lst2 ≤ j → j < (layout.phase_words - 2) → slice_index new j ≡ slice_index old (j + 2)
  taken-pair j le lt =
      by.last_bank j ∙ other_word j (layout.phase_words - 1) 0 (slice_index e5 j) (λ e. omega arith) ∙ by.last_at j ∙ other_word j (layout.phase_words - 2) 0 (slice_index e4 j) (λ e. omega arith)
      ∙ by.pairs j ∙ moved_up-in e3 layout.lst2 (layout.phase_words - 2) 2 j le lt
      ∙ by.last_gap (j + 2) ∙ other_word (j + 2) (layout.lst2 - 1) blank_gap (slice_index e2 (j + 2)) (λ e. omega arith) ∙ by.gaps (j + 2) ∙ moved_up-above e1 layout.lst1 (layout.lst2 - 1) 1 (j + 2) (omega arith)
      ∙ by.counter (j + 2) ∙ other_word (j + 2) layout.time3 t (slice_index old (j + 2)) (λ e. omega arith)

  pub taken-outside : (j : ℕ) → OutsideWaitlist j → slice_index new j ≡ slice_index old j
  taken-outside j (inl lt) =
      before_pairs j (omega arith) ∙ by.last_gap j ∙ other_word j (layout.lst2 - 1) blank_gap (slice_index e2 j) (λ e. omega arith) ∙ by.gaps j ∙ moved_up-below e1 layout.lst1 (layout.lst2 - 1) 1 j (omega arith)
      ∙ by.counter j ∙ other_word j layout.time3 t (slice_index old j) (λ e. omega arith)
  taken-outside j (inr le) =
      by.last_bank j ∙ other_word j (layout.phase_words - 1) 0 (slice_index e5 j) (λ e. omega arith) ∙ by.last_at j ∙ other_word j (layout.phase_words - 2) 0 (slice_index e4 j) (λ e. omega arith)
      ∙ by.pairs j ∙ moved_up-above e3 layout.lst2 (layout.phase_words - 2) 2 j (omega arith)
      ∙ by.last_gap j ∙ other_word j (layout.lst2 - 1) blank_gap (slice_index e2 j) (λ e. omega arith) ∙ by.gaps j ∙ moved_up-above e1 layout.lst1 (layout.lst2 - 1) 1 j (omega arith)
      ∙ by.counter j ∙ other_word j layout.time3 t (slice_index old j) (λ e. omega arith)

  pub taken-is : t ≡ cond (at_in old 1 == 0) 0 (counter_at (gap_of (lst1 old 0))) → IsTaken old new
  taken-is is = record {
    counter = before_pairs layout.time3 (omega arith) ∙ by.last_gap layout.time3 ∙ by.gaps layout.time3 ∙ by.counter layout.time3 ∙ is;
    gap = λ k lt. taken-gap (layout.lst1 + k) (omega arith) (omega arith) ∙ ap (slice_index old) (omega arith);
    last_gap = before_pairs (layout.lst2 - 1) (omega arith) ∙ by.last_gap (layout.lst2 - 1);
    at = λ k lt. taken-pair (layout.lst2 + 2 * k) (omega arith) (omega arith) ∙ ap (slice_index old) (omega arith);
    last_at = by.last_bank (layout.phase_words - 2) ∙ by.last_at (layout.phase_words - 2);
    bank = λ k lt. taken-pair (layout.lst2 + 1 + 2 * k) (omega arith) (omega arith) ∙ ap (slice_index old) (omega arith);
    last_bank = by.last_bank (layout.phase_words - 1);
  }

place_in-suc : (w : Waiting) (ws : List Waiting) (k : ℕ) → place_in (w ∷ ws) (k + 1) ≡ place_in ws k
place_in-suc w ws k = ap (place_in (w ∷ ws)) (add-one k)

Carries-taken : (old new : List ℕ) (w : Waiting) (ws : List Waiting) → Carries old (w ∷ ws) → w.distance ≡ 0 → IsTaken old new → Carries new ws
Carries-taken old new w ws carries now taken =
    let len : length ws + 1 ≤ 9 = (let n : length (w ∷ ws) ≤ 9 = carries.nine in omega arith) in
    record {
      word = at_each_place (λ i. slice_index new i < 32768)
          (let c : time3 new < 16384 = below in omega arith)
          (λ k lt. elim (cases_lt k 7) [
            | inl more ↦ subst (λ (n : ℕ). n < 32768) (sym (taken.gap k more)) (carries.word (layout.lst1 + (k + 1)) (omega arith, omega arith))
            | inr end ↦ let is : k ≡ 7 = omega arith in let last : lst1 new k ≡ blank_gap = ap (lst1 new) is ∙ taken.last_gap in omega arith
          ])
          (λ k lt. elim (cases_lt k 8) [
            | inl more ↦ subst (λ (n : ℕ). n < 32768) (sym (taken.at k more)) (carries.word (layout.lst2 + 2 * (k + 1)) (omega arith, omega arith))
            | inr end ↦ let is : k ≡ 8 = omega arith in let last : at_in new k ≡ 0 = ap (at_in new) is ∙ taken.last_at in omega arith
          ])
          (λ k lt. elim (cases_lt k 8) [
            | inl more ↦ subst (λ (n : ℕ). n < 32768) (sym (taken.bank k more)) (carries.word (layout.lst2 + 1 + 2 * (k + 1)) (omega arith, omega arith))
            | inr end ↦ let is : k ≡ 8 = omega arith in let last : bank_in new k ≡ 0 = ap (bank_in new) is ∙ taken.last_bank in omega arith
          ]);
      nine = omega arith;
      at = λ k lt. elim (cases_lt k 8) [
        | inl more ↦ taken.at k more ∙ carries.at (k + 1) (omega arith) ∙ ap (λ (v : Waiting). v.task.at) (place_in-suc w ws k)
        | inr end ↦
            let is : k ≡ 8 = omega arith in
            let none : place_in ws k ≡ no_task = get_or_past ws k no_task (omega arith) in
            rw none (ap (at_in new) is ∙ taken.last_at)
      ];
      bank = λ k lt. elim (cases_lt k 8) [
        | inl more ↦ taken.bank k more ∙ carries.bank (k + 1) (omega arith) ∙ ap (λ (v : Waiting). v.task.bank) (place_in-suc w ws k)
        | inr end ↦
            let is : k ≡ 8 = omega arith in
            let none : place_in ws k ≡ no_task = get_or_past ws k no_task (omega arith) in
            rw none (ap (bank_in new) is ∙ taken.last_bank)
      ];
      low = λ k lt. carries.low (suc k) (omega arith);
      high = λ k. carries.high (suc k);
      counter = below;
      idle = λ none.
          let empty : at_in old 1 ≡ 0 = second ∙ ap (λ (l : List Waiting). (place_in l 0).task.at) none in
          taken.counter ∙ same_word (at_in old 1) 0 _ _ empty;
      first = first;
      next = λ k lt.
          let step : (place_in (w ∷ ws) (k + 1 + 1)).distance ≡ (place_in (w ∷ ws) (k + 1)).distance + gap_of (lst1 old (k + 1)) = carries.next (k + 1) (omega arith) in
          let here : (place_in (w ∷ ws) (k + 1)).distance ≡ (place_in ws k).distance = ap (λ (v : Waiting). v.distance) (place_in-suc w ws k) in
          let there : (place_in (w ∷ ws) (k + 1 + 1)).distance ≡ (place_in ws (k + 1)).distance = ap (λ (v : Waiting). v.distance) (place_in-suc w ws (k + 1)) in
          let gap : gap_of (lst1 new k) ≡ gap_of (lst1 old (k + 1)) = ap gap_of (taken.gap k (omega arith)) in
          omega arith;
      gaps = λ k lt. rw (taken.gap k (omega arith)) (carries.gaps (k + 1) (omega arith));
      rest = λ k le lt. elim (cases_lt k 7) [
        | inl more ↦ taken.gap k more ∙ carries.rest (k + 1) (omega arith) (omega arith)
        | inr end ↦ let is : k ≡ 7 = omega arith in ap (lst1 new) is ∙ taken.last_gap
      ];
      near = λ k. carries.near (suc k);
    }
  where
    second : at_in old 1 ≡ (place_in ws 0).task.at
    second = carries.at 1 (omega arith)

    -- what is left is empty, or its first is one gap from now
    first_by : (vs : List Waiting) → vs ≡ ws → (distance_of (time3 new) ≡ (place_in vs 0).distance) × (time3 new < 16384)
    first_by [] e =
        let empty : at_in old 1 ≡ 0 = second ∙ ap (λ l. (place_in l 0).task.at) (sym e) in
        let t : time3 new ≡ 0 = taken.counter ∙ same_word (at_in old 1) 0 _ _ empty in
        (ap distance_of t, omega arith)
    first_by (v ∷ vs) e =
        let here : at_in old 1 ≡ v.task.at = second ∙ ap (λ l. (place_in l 0).task.at) (sym e) in
        let some : length (v ∷ vs) ≡ length ws = ap (λ (l : List Waiting). length l) e in
        let low : 1 ≤ (place_in ws 0).task.at = carries.low 1 (omega arith) in
        let same : (place_in ws 0).task.at ≡ v.task.at = ap (λ l. (place_in l 0).task.at) (sym e) in
        let ne : at_in old 1 ≢ 0 = λ z. omega arith in
        let t : time3 new ≡ counter_at (gap_of (lst1 old 0)) = taken.counter ∙ other_word (at_in old 1) 0 _ _ ne in
        let step : (place_in ws 0).distance ≡ w.distance + gap_of (lst1 old 0) = carries.next 0 (omega arith) in
        let near : (place_in ws 0).distance ≤ 16250 = carries.near 1 in
        let gap : gap_of (lst1 old 0) ≡ v.distance = (let d : (place_in ws 0).distance ≡ v.distance = ap (λ l. (place_in l 0).distance) (sym e) in omega arith) in
        let small : v.distance ≤ 16250 = omega arith in
        (ap distance_of (t ∙ ap counter_at gap) ∙ distance_of-counter_at v.distance small, subst (λ (n : ℕ). n < 16384) (sym t) (counter_at-low (gap_of (lst1 old 0))))

    first : distance_of (time3 new) ≡ (place_in ws 0).distance
    first = (first_by ws refl).0

    below : time3 new < 16384
    below = (first_by ws refl).1

pub IsTidy-taken : (old new : List ℕ) → IsTaken old new → IsTidy old → IsTidy new
IsTidy-taken old new taken tidy k lt e = elim (cases_lt k 7) [
  | inl more ↦ tidy (k + 1) (omega arith) (sym (taken.gap k more) ∙ e)
  | inr end ↦
      let is : k ≡ 7 = omega arith in
      let last : lst1 new k ≡ blank_gap = ap (lst1 new) is ∙ taken.last_gap in omega arith
]

-- the first task is gone from the table
pub Carries-without_first : (old new : List ℕ) (waits : List Waiting) → Carries old waits → is_due waits ≡ true → IsTaken old new → Carries new (remove waits 0)
Carries-without_first old new [] carries due gone = absurd (cc)
Carries-without_first old new (w ∷ ws) carries due gone =
    let now : w.distance ≡ 0 = grind (arith, common_steps) in
    Carries-taken old new w ws carries now gone

-- the first, where it is due: it is there, and the gap to the next is no longer than the longest
-- delay
pub record IsFirstDue (words : List ℕ) : Type 0 where
  pub low : 1 ≤ at_in words 0
  pub high : at_in words 0 ≤ 16383
  pub near : 1 ≤ at_in words 1 → gap_of (lst1 words 0) ≤ 16250

pub first-due : (words : List ℕ) (waits : List Waiting) → Carries words waits → is_due waits ≡ true → IsFirstDue words
first-due words [] carries due = absurd (cc)
first-due words (w ∷ []) carries due =
    let at : at_in words 0 ≡ w.task.at = carries.at 0 (omega arith) in
    let low : 1 ≤ w.task.at = carries.low 0 (omega arith) in
    let high : w.task.at < 16384 = carries.high 0 in
    let none : at_in words 1 ≡ 0 = carries.at 1 (omega arith) in
    record { low = omega arith; high = omega arith; near = λ some. absurd (omega arith) }
first-due words (w ∷ v ∷ vs) carries due =
    let at : at_in words 0 ≡ w.task.at = carries.at 0 (omega arith) in
    let low : 1 ≤ w.task.at = carries.low 0 (omega arith) in
    let high : w.task.at < 16384 = carries.high 0 in
    let step : v.distance ≡ w.distance + gap_of (lst1 words 0) = carries.next 0 (omega arith) in
    let near : v.distance ≤ 16250 = carries.near 1 in
    record { low = omega arith; high = omega arith; near = λ some. omega arith }

-- by the writes, one after another
pub dispatches : (old e1 e2 e3 e4 e5 new : List ℕ) (t : ℕ) (task : Task) → IsLawfulTable old → is_due (waits_of old) ≡ true → Takes old e1 e2 e3 e4 e5 new t → t ≡ cond (at_in old 1 == 0) 0 (counter_at (gap_of (lst1 old 0))) → task ≡ record { at = at_in old 0; bank = bank_in old 0 } → length new ≡ length old → Dispatches old task new
dispatches old e1 e2 e3 e4 e5 new t task lawful due by counter task_is len =
    let taken : IsTaken old new = taken-is old e1 e2 e3 e4 e5 new t by counter in
    let carries : Carries old (waits_of old) = Carries-lawful old lawful in
    let carried : Carries new (remove (waits_of old) 0) = Carries-without_first old new (waits_of old) carries due taken in
    let is : waits_of new ≡ remove (waits_of old) 0 = waits_of-carried new _ carried in
    let at : at_in old 0 ≡ (place_in (waits_of old) 0).task.at = carries.at 0 (omega arith) in
    let bank : bank_in old 0 ≡ (place_in (waits_of old) 0).task.bank = carries.bank 0 (omega arith) in
    let same : task ≡ (place_in (waits_of old) 0).task = task_is ∙ rw (at, bank) refl in
    record {
      shown = shown old lawful;
      first = λ agenda stands. first_due-place (waits_of old) agenda due stands ∙ ap (λ (x : Task). Some x) (sym same);
      taken = λ agenda stands. rw is (StandsFor-removed (waits_of old) agenda due stands);
      fewer_due = due_now-removed (waits_of old) due ∙ sym (ap (λ (ws : List Waiting). due_now ws + 1) is);
      lawful = IsLawfulTable-carried new _ carried;
      tidy = IsTidy-taken old new taken;
      others = record { same_length = len; words = taken-outside old e1 e2 e3 e4 e5 new t by };
      words = taken;
    }
