-- The words after a task is put in.
use Rattle.std.proofs.Common.{IsTrue, ◌↔◌, ◌≡◌, ◌≢◌, ◌⊎◌, ℕ, ◌+◌, ◌-◌, ◌*◌, ◌<◌, ◌≤◌, ◌==◌, nat_lt, Bool, true, false, cond, List, length, slice_index, refl, ap, sym, subst, ◌∙◌, inl, inr, arith}
use Rattle.std.specs.List.{insert}
use Rattle.std.proofs.lemmas.Bool.{cases_Bool, cases_eq, cases_lt}
use Rattle.std.proofs.lemmas.List.Edits.{length-insert, get_or-insert_below, get_or-insert_at, get_or-insert_above}
use Rattle.std.proofs.lemmas.Grind.{common_steps}
use Rattle.agc_word.specs.Layout as layout
use Rattle.agc_word.specs.Layout.{OutsideWaitlist}
use Rattle.agc_plan.specs.declared.request.Task.{Task}
use Rattle.agc_plan.specs.Tasks.{Waiting}
use Rattle.agc_wait.specs.Waits.{place_for}
use Rattle.agc_wait.specs.Table.{blank_gap, IsLawfulTable, IsTidy, waits_of, time3, at_in, bank_in, lst1, gap_of}
use Rattle.agc_wait.specs.Parts.{distance_of}
use Rattle.agc_wait.specs.Writing.{place_in, distance_in, no_task, gap_word, gap_to_next, counter_at, IsPut}
use Rattle.agc_wait.specs.Moving.{IsSpot, moved_down, task_put, gap_put}
use Rattle.agc_wait.proofs.Gaps.{gap_of-gap_word, gap_word-legal, gap_word-tidy, gap_word-word, counter_at-low, distance_of-counter_at}
use Rattle.agc_wait.proofs.Places.{at_each_place}
use Rattle.agc_wait.proofs.Tables.{Carries, Carries-lawful}
use Rattle.agc_wait.proofs.Writes.{other_word, same_word, moved_down-in, moved_down-below, moved_down-above}
use Rattle.agc_wait.proofs.Spots.{Carries-occupied, Carries-empty, none_there, place_for-passed, place_for-next, place_for-within}

gap_put-then : (words : List ℕ) (p : ℕ) (there : Bool) (word j : ℕ) → there ≡ true → gap_put words p there word j ≡ cond (j == layout.lst1 + p) word (moved_down words (layout.lst1 + p) (layout.lst1 + 7) 1 j)
gap_put-then words p there word j is = pick there _ _ is
  where
    pick : (b : Bool) (x y : ℕ) → b ≡ true → cond b x y ≡ x
    pick b x y e = rw e refl

gap_put-else : (words : List ℕ) (p : ℕ) (there : Bool) (word j : ℕ) → there ≡ false → gap_put words p there word j ≡ slice_index words j
gap_put-else words p there word j is = pass there _ _ is
  where
    pass : (b : Bool) (x y : ℕ) → b ≡ false → cond b x y ≡ y
    pass b x y e = rw e refl

gap_to_next-is : (words : List ℕ) (p d : ℕ) → p < length (waits_of words) → gap_to_next words p d ≡ gap_word (distance_in words p - d)
gap_to_next-is words p d lt = pick (nat_lt p (length (waits_of words))) _ _ (grind (arith, common_steps))
  where
    pick : (b : Bool) (x y : ℕ) → b ≡ true → cond b x y ≡ x
    pick b x y e = rw e refl

gap_to_next-none : (words : List ℕ) (p d : ℕ) → length (waits_of words) ≤ p → gap_to_next words p d ≡ blank_gap
gap_to_next-none words p d le = pass (nat_lt p (length (waits_of words))) _ _ (grind (arith, common_steps))
  where
    pass : (b : Bool) (x y : ℕ) → b ≡ false → cond b x y ≡ y
    pass b x y e = rw e refl

-- the word before place p, for a new task of distance d and one of distance b before it
abbrev pub lead_word : ℕ → ℕ → ℕ → ℕ
lead_word p b d = cond (p == 0) (counter_at d) (gap_word (d - b))

-- whether a task stands in place p
pub record Stands (words : List ℕ) (p : ℕ) (there : Bool) : Type 0 where
  pub some : there ≡ true → p < length (waits_of words)
  pub none : there ≡ false → length (waits_of words) ≤ p

-- it does where its address says so
pub stands-by : (words : List ℕ) (p : ℕ) (there : Bool) → IsLawfulTable words → p ≤ 8 → IsTrue there ↔ (1 ≤ at_in words p) → Stands words p there
stands-by words p there lawful small by = record {
  some = λ is.
      let at : 1 ≤ at_in words p = by.0 is in
      Carries-occupied words (waits_of words) (Carries-lawful words lawful) p (omega arith) (λ e. omega arith);
  none = λ is. Carries-empty words (waits_of words) (Carries-lawful words lawful) p (omega arith) (none_there (at_in words p) (λ at. sym is ∙ by.1 at));
}

-- the writes of a listing, one after another
pub record Puts (old put e new : List ℕ) (task : Task) (p : ℕ) (there : Bool) (d b a : ℕ) : Type 0 where
  pub by_task : (j : ℕ) → slice_index put j ≡ task_put old p task.at task.bank j
  pub by_gap : (j : ℕ) → slice_index e j ≡ gap_put put p there (gap_word (a - d)) j
  pub by_lead : (j : ℕ) → slice_index new j ≡ cond (j == layout.time3 + p) (lead_word p b d) (slice_index e j)

module _ (old put e new : List ℕ) (task : Task) (p : ℕ) (there : Bool) (d b a : ℕ) (by : Puts old put e new task p there d b a) (small : p ≤ 8) (fits : there ≡ true → p ≤ 7) where
  abbrev lead : ℕ
  lead = lead_word p b d

  task_low : (j : ℕ) → j < layout.lst2 + 2 * p → slice_index put j ≡ slice_index old j
  task_low j lt =
      by.by_task j ∙ other_word j (layout.lst2 + 1 + 2 * p) task.bank _ (λ s. omega arith) ∙ other_word j (layout.lst2 + 2 * p) task.at _ (λ s. omega arith)
      ∙ moved_down-below old (layout.lst2 + 2 * p) (layout.lst2 + 16) 2 j (omega arith)

  task_after : (j : ℕ) → layout.lst2 + 2 + 2 * p ≤ j → j < layout.lst2 + 18 → slice_index put j ≡ slice_index old (j - 2)
  task_after j le lt =
      by.by_task j ∙ other_word j (layout.lst2 + 1 + 2 * p) task.bank _ (λ s. omega arith) ∙ other_word j (layout.lst2 + 2 * p) task.at _ (λ s. omega arith)
      ∙ moved_down-in old (layout.lst2 + 2 * p) (layout.lst2 + 16) 2 j (omega arith) (omega arith)

  task_past : (j : ℕ) → layout.lst2 + 18 ≤ j → slice_index put j ≡ slice_index old j
  task_past j le =
      by.by_task j ∙ other_word j (layout.lst2 + 1 + 2 * p) task.bank _ (λ s. omega arith) ∙ other_word j (layout.lst2 + 2 * p) task.at _ (λ s. omega arith)
      ∙ moved_down-above old (layout.lst2 + 2 * p) (layout.lst2 + 16) 2 j (omega arith)

  gap_outside : (j : ℕ) → (j < layout.lst1 + p) ⊎ (layout.lst1 + 8 ≤ j) → slice_index e j ≡ slice_index put j
  gap_outside j out = elim (cases_Bool there) [
    | inl is ↦ let low : p ≤ 7 = fits is in by.by_gap j ∙ gap_put-then put p there _ j is ∙ other_word j (layout.lst1 + p) _ _ (apart out low) ∙ still out
    | inr is ↦ by.by_gap j ∙ gap_put-else put p there _ j is
  ]
    where
      apart : (j < layout.lst1 + p) ⊎ (layout.lst1 + 8 ≤ j) → p ≤ 7 → j ≢ layout.lst1 + p
      apart (inl low) le s = omega arith
      apart (inr high) le s = omega arith

      still : (j < layout.lst1 + p) ⊎ (layout.lst1 + 8 ≤ j) → moved_down put (layout.lst1 + p) (layout.lst1 + 7) 1 j ≡ slice_index put j
      still (inl low) = moved_down-below put (layout.lst1 + p) (layout.lst1 + 7) 1 j (omega arith)
      still (inr high) = moved_down-above put (layout.lst1 + p) (layout.lst1 + 7) 1 j (omega arith)

  pairs : (j : ℕ) → layout.lst2 ≤ j → slice_index new j ≡ slice_index put j
  pairs j le = by.by_lead j ∙ other_word j (layout.time3 + p) lead _ (λ s. omega arith) ∙ gap_outside j (inr (omega arith))

  pub put-outside : (j : ℕ) → OutsideWaitlist j → slice_index new j ≡ slice_index old j
  put-outside j (inl lt) =
      by.by_lead j ∙ other_word j (layout.time3 + p) lead _ (λ s. omega arith) ∙ gap_outside j (inl (omega arith)) ∙ task_low j (omega arith)
  put-outside j (inr le) = pairs j (omega arith) ∙ task_past j (omega arith)

  gap_at : there ≡ true → lst1 new p ≡ gap_word (a - d)
  gap_at is =
      by.by_lead (layout.lst1 + p) ∙ other_word (layout.lst1 + p) (layout.time3 + p) lead _ (λ s. omega arith) ∙ by.by_gap (layout.lst1 + p) ∙ gap_put-then put p there _ (layout.lst1 + p) is ∙ same_word (layout.lst1 + p) (layout.lst1 + p) _ _ refl

  gap_past : there ≡ true → (k : ℕ) → p ≤ k → k < 7 → lst1 new (k + 1) ≡ lst1 old k
  gap_past is k le lt =
      by.by_lead (layout.lst1 + (k + 1)) ∙ other_word (layout.lst1 + (k + 1)) (layout.time3 + p) lead _ (λ s. omega arith) ∙ by.by_gap (layout.lst1 + (k + 1)) ∙ gap_put-then put p there _ (layout.lst1 + (k + 1)) is
      ∙ other_word (layout.lst1 + (k + 1)) (layout.lst1 + p) _ _ (λ s. omega arith) ∙ moved_down-in put (layout.lst1 + p) (layout.lst1 + 7) 1 (layout.lst1 + (k + 1)) (omega arith) (omega arith)
      ∙ ap (slice_index put) (let s : layout.lst1 + (k + 1) - 1 ≡ layout.lst1 + k = omega arith in s) ∙ task_low (layout.lst1 + k) (omega arith)

  gap_same : there ≡ false → (k : ℕ) → p ≤ k → k < 8 → lst1 new k ≡ lst1 old k
  gap_same is k le lt =
      by.by_lead (layout.lst1 + k) ∙ other_word (layout.lst1 + k) (layout.time3 + p) lead _ (λ s. omega arith) ∙ by.by_gap (layout.lst1 + k) ∙ gap_put-else put p there _ (layout.lst1 + k) is
      ∙ task_low (layout.lst1 + k) (omega arith)

  gap_low : (j : ℕ) → j < layout.time3 + p → slice_index new j ≡ slice_index old j
  gap_low j lt =
      by.by_lead j ∙ other_word j (layout.time3 + p) lead _ (λ s. omega arith) ∙ gap_outside j (inl (omega arith)) ∙ task_low j (omega arith)

  -- a word of a pair that is moved
  moved : (first k : ℕ) → layout.lst2 ≤ first → first ≤ layout.lst2 + 1 → p ≤ k → k < 8 → slice_index new (first + 2 * (k + 1)) ≡ slice_index old (first + 2 * k)
  moved first k from to le lt =
      pairs (first + 2 * (k + 1)) (omega arith) ∙ task_after (first + 2 * (k + 1)) (omega arith) (omega arith)
      ∙ ap (slice_index old) (let s : first + 2 * (k + 1) - 2 ≡ first + 2 * k = omega arith in s)

  pub put-is : IsLawfulTable old → Stands old p there → IsSpot (waits_of old) d p b a → IsPut p d task old new
  put-is lawful stands spot = record {
    counter = elim (cases_eq p 0) [
      | inl is ↦
          by.by_lead layout.time3 ∙ same_word layout.time3 (layout.time3 + p) lead _ (omega arith) ∙ same_word p 0 _ _ is ∙ sym (same_word p 0 _ _ is)
      | inr not ↦ gap_low layout.time3 (omega arith) ∙ sym (other_word p 0 _ _ not)
    ];
    gap_kept = λ k lt. gap_low (layout.lst1 + k) (omega arith);
    gap_before = λ k e.
        by.by_lead (layout.lst1 + k) ∙ same_word (layout.lst1 + k) (layout.time3 + p) lead _ (omega arith) ∙ other_word p 0 (counter_at d) (gap_word (d - b)) (λ z. omega arith)
        ∙ ap (λ x. gap_word (d - x)) (spot.before_is k (omega arith));
    gap_after = λ lt. elim (cases_Bool there) [
      | inl is ↦ let some : p < length (waits_of old) = stands.some is in gap_at is ∙ ap (λ x. gap_word (x - d)) (spot.after_is some) ∙ sym (gap_to_next-is old p d some)
      | inr is ↦ let none : length (waits_of old) ≤ p = stands.none is in gap_same is p (omega arith) lt ∙ lawful.no_gap p (omega arith) lt ∙ sym (gap_to_next-none old p d none)
    ];
    gap_moved = λ k le lt. elim (cases_Bool there) [
      | inl is ↦ gap_past is k le lt
      | inr is ↦
          let none : length (waits_of old) ≤ p = stands.none is in
          gap_same is (k + 1) (omega arith) (omega arith) ∙ lawful.no_gap (k + 1) (omega arith) (omega arith) ∙ sym (lawful.no_gap k (omega arith) (omega arith))
    ];
    at_kept = λ k lt. pairs (layout.lst2 + 2 * k) (omega arith) ∙ task_low (layout.lst2 + 2 * k) (omega arith);
    at =
        pairs (layout.lst2 + 2 * p) (omega arith) ∙ by.by_task (layout.lst2 + 2 * p) ∙ other_word (layout.lst2 + 2 * p) (layout.lst2 + 1 + 2 * p) task.bank _ (λ s. omega arith)
        ∙ same_word (layout.lst2 + 2 * p) (layout.lst2 + 2 * p) task.at _ refl;
    at_moved = λ k le lt. moved layout.lst2 k (omega arith) (omega arith) le lt;
    bank_kept = λ k lt. pairs (layout.lst2 + 1 + 2 * k) (omega arith) ∙ task_low (layout.lst2 + 1 + 2 * k) (omega arith);
    bank = pairs (layout.lst2 + 1 + 2 * p) (omega arith) ∙ by.by_task (layout.lst2 + 1 + 2 * p) ∙ same_word (layout.lst2 + 1 + 2 * p) (layout.lst2 + 1 + 2 * p) task.bank _ refl;
    bank_moved = λ k le lt. moved (layout.lst2 + 1) k (omega arith) (omega arith) le lt;
  }

-- where k stands to p
cases_place : (k p : ℕ) → (k < p) ⊎ ((k ≡ p) ⊎ ((m : ℕ) × (p ≤ m) × (k ≡ m + 1)))
cases_place k p = elim (cases_lt k p) [
  | inl lt ↦ inl lt
  | inr ge ↦ elim (cases_eq k p) [ inl e ↦ inr (inl e) | inr ne ↦ inr (inr (k - 1, omega arith, omega arith)) ]
]

module _ (old new : List ℕ) (w : Waiting) (p : ℕ) (lawful : IsLawfulTable old) (room : length (waits_of old) ≤ 8) (place : p ≡ place_for w.distance (waits_of old)) (near_w : w.distance ≤ 16250) (put : IsPut p w.distance w.task old new) where
  carries : Carries old (waits_of old)
  carries = Carries-lawful old lawful

  within : p ≤ length (waits_of old)
  within = let le : place_for w.distance (waits_of old) ≤ length (waits_of old) = place_for-within w.distance (waits_of old) in omega arith

  below : (k : ℕ) → k < p → place_in (insert (waits_of old) p w) k ≡ place_in (waits_of old) k
  below k lt = get_or-insert_below (waits_of old) p w no_task k lt within

  here : (k : ℕ) → k ≡ p → place_in (insert (waits_of old) p w) k ≡ w
  here k e = ap (place_in (insert (waits_of old) p w)) e ∙ get_or-insert_at (waits_of old) p w no_task within

  above : (m k : ℕ) → p ≤ m → k ≡ m + 1 → place_in (insert (waits_of old) p w) k ≡ place_in (waits_of old) m
  above m k le e = ap (place_in (insert (waits_of old) p w)) e ∙ get_or-insert_above (waits_of old) p w no_task m le within

  len : length (insert (waits_of old) p w) ≡ length (waits_of old) + 1
  len = length-insert (waits_of old) p w within

  -- a fact of each task
  each : (P : Waiting → Type 0) → P w → ((m : ℕ) → P (place_in (waits_of old) m)) → (k : ℕ) → P (place_in (insert (waits_of old) p w) k)
  each P one all k = elim (cases_place k p) [
    | inl lt ↦ rw (below k lt) (all k)
    | inr (inl e) ↦ rw (here k e) one
    | inr (inr more) ↦ rw (above more.0 k more.1 more.2) (all more.0)
  ]

  each_within : (P : Waiting → Type 0) → P w → ((m : ℕ) → m < length (waits_of old) → P (place_in (waits_of old) m)) → (k : ℕ) → k < length (insert (waits_of old) p w) → P (place_in (insert (waits_of old) p w) k)
  each_within P one all k lt_k = elim (cases_place k p) [
    | inl lt ↦ rw (below k lt) (all k (let i : p ≤ length (waits_of old) = within in omega arith))
    | inr (inl e) ↦ rw (here k e) one
    | inr (inr more) ↦ rw (above more.0 k more.1 more.2) (all more.0 (let n : length (insert (waits_of old) p w) ≡ length (waits_of old) + 1 = len in let e : k ≡ more.0 + 1 = more.2 in omega arith))
  ]

  at_is : (k : ℕ) → k < 9 → at_in new k ≡ (place_in (insert (waits_of old) p w) k).task.at
  at_is k lt_k = elim (cases_place k p) [
    | inl lt ↦ put.at_kept k lt ∙ carries.at k lt_k ∙ sym (ap (λ (v : Waiting). v.task.at) (below k lt))
    | inr (inl e) ↦ ap (at_in new) e ∙ put.at ∙ sym (ap (λ (v : Waiting). v.task.at) (here k e))
    | inr (inr more) ↦
        let e : k ≡ more.0 + 1 = more.2 in
        ap (at_in new) e ∙ put.at_moved more.0 more.1 (omega arith) ∙ carries.at more.0 (omega arith) ∙ sym (ap (λ (v : Waiting). v.task.at) (above more.0 k more.1 e))
  ]

  bank_is : (k : ℕ) → k < 9 → bank_in new k ≡ (place_in (insert (waits_of old) p w) k).task.bank
  bank_is k lt_k = elim (cases_place k p) [
    | inl lt ↦ put.bank_kept k lt ∙ carries.bank k lt_k ∙ sym (ap (λ (v : Waiting). v.task.bank) (below k lt))
    | inr (inl e) ↦ ap (bank_in new) e ∙ put.bank ∙ sym (ap (λ (v : Waiting). v.task.bank) (here k e))
    | inr (inr more) ↦
        let e : k ≡ more.0 + 1 = more.2 in
        ap (bank_in new) e ∙ put.bank_moved more.0 more.1 (omega arith) ∙ carries.bank more.0 (omega arith) ∙ sym (ap (λ (v : Waiting). v.task.bank) (above more.0 k more.1 e))
  ]

  bank_word : w.task.bank < 32768 → (k : ℕ) → k < 9 → bank_in new k < 32768
  bank_word low k lt_k = elim (cases_place k p) [
    | inl lt ↦ subst (λ (n : ℕ). n < 32768) (sym (put.bank_kept k lt)) (lawful.word (layout.lst2 + 1 + 2 * k) (omega arith, omega arith))
    | inr (inl e) ↦ subst (λ (n : ℕ). n < 32768) (sym (ap (bank_in new) e ∙ put.bank)) low
    | inr (inr more) ↦
        let e : k ≡ more.0 + 1 = more.2 in
        let le : p ≤ more.0 = more.1 in
        subst (λ (n : ℕ). n < 32768) (sym (ap (bank_in new) e ∙ put.bank_moved more.0 le (omega arith))) (lawful.word (layout.lst2 + 1 + 2 * more.0) (omega arith, omega arith))
  ]

  -- the gap after the new task
  next_is : p < length (waits_of old) → lst1 new p ≡ gap_word ((place_in (waits_of old) p).distance - w.distance)
  next_is lt = put.gap_after (omega arith) ∙ gap_to_next-is old p w.distance lt

  -- the task before it is due no later, the one after it later
  passed : (k : ℕ) → k < p → (place_in (waits_of old) k).distance ≤ w.distance
  passed k lt = place_for-passed w.distance (waits_of old) k (omega arith)

  later_than : p < length (waits_of old) → w.distance ≤ (place_in (waits_of old) p).distance
  later_than lt =
      let more : w.distance < (place_in (waits_of old) (place_for w.distance (waits_of old))).distance = place_for-next w.distance (waits_of old) (omega arith) in
      let same : (place_in (waits_of old) p).distance ≡ (place_in (waits_of old) (place_for w.distance (waits_of old))).distance = ap (λ i. (place_in (waits_of old) i).distance) place in
      omega arith

  abbrev dist : ℕ → ℕ
  dist k = (place_in (insert (waits_of old) p w) k).distance

  next_gap : (k : ℕ) → k < length (waits_of old) → (dist (k + 1) ≡ dist k + gap_of (lst1 new k)) × ((lst1 new k ≤ 1) ⊎ (16384 ≤ lst1 new k))
  next_gap k lt_k =
      let small : p ≤ length (waits_of old) = within in
      elim (cases_place (k + 1) p) [
        | inl lt ↦
            let there : dist (k + 1) ≡ (place_in (waits_of old) (k + 1)).distance = ap (λ (v : Waiting). v.distance) (below (k + 1) lt) in
            let this : dist k ≡ (place_in (waits_of old) k).distance = ap (λ (v : Waiting). v.distance) (below k (omega arith)) in
            let word : lst1 new k ≡ lst1 old k = put.gap_kept k lt in
            let gap : gap_of (lst1 new k) ≡ gap_of (lst1 old k) = ap gap_of word in
            let step : (place_in (waits_of old) (k + 1)).distance ≡ (place_in (waits_of old) k).distance + gap_of (lst1 old k) = carries.next k (omega arith) in
            (omega arith, rw word (carries.gaps k (omega arith)))
        | inr (inl e) ↦
            let there : dist (k + 1) ≡ w.distance = ap (λ (v : Waiting). v.distance) (here (k + 1) e) in
            let this : dist k ≡ (place_in (waits_of old) k).distance = ap (λ (v : Waiting). v.distance) (below k (omega arith)) in
            let le : (place_in (waits_of old) k).distance ≤ w.distance = passed k (omega arith) in
            let word : lst1 new k ≡ gap_word (w.distance - (place_in (waits_of old) k).distance) = put.gap_before k e in
            let gap : gap_of (lst1 new k) ≡ w.distance - (place_in (waits_of old) k).distance = ap gap_of word ∙ gap_of-gap_word (w.distance - (place_in (waits_of old) k).distance) (omega arith) in
            (omega arith, rw word (gap_word-legal (w.distance - (place_in (waits_of old) k).distance) (omega arith)))
        | inr (inr more) ↦
            let at_k : k + 1 ≡ more.0 + 1 = more.2 in
            let le_k : p ≤ more.0 = more.1 in
            let there : dist (k + 1) ≡ (place_in (waits_of old) k).distance = ap (λ (v : Waiting). v.distance) (above k (k + 1) (omega arith) refl) in
            elim (cases_place k p) [
              | inl lt ↦ absurd (omega arith)
              | inr (inl e) ↦
                  let this : dist k ≡ w.distance = ap (λ (v : Waiting). v.distance) (here k e) in
                  let near : (place_in (waits_of old) k).distance ≤ 16250 = carries.near k in
                  let same : (place_in (waits_of old) p).distance ≡ (place_in (waits_of old) k).distance = ap (λ j. (place_in (waits_of old) j).distance) (sym e) in
                  let le : w.distance ≤ (place_in (waits_of old) p).distance = later_than (omega arith) in
                  let word : lst1 new k ≡ gap_word ((place_in (waits_of old) p).distance - w.distance) = ap (lst1 new) e ∙ next_is (omega arith) in
                  let gap : gap_of (lst1 new k) ≡ (place_in (waits_of old) p).distance - w.distance = ap gap_of word ∙ gap_of-gap_word ((place_in (waits_of old) p).distance - w.distance) (omega arith) in
                  (omega arith, rw word (gap_word-legal ((place_in (waits_of old) p).distance - w.distance) (omega arith)))
              | inr (inr far) ↦
                  let e : k ≡ far.0 + 1 = far.2 in
                  let le : p ≤ far.0 = far.1 in
                  let this : dist k ≡ (place_in (waits_of old) far.0).distance = ap (λ (v : Waiting). v.distance) (above far.0 k le e) in
                  let same : (place_in (waits_of old) (far.0 + 1)).distance ≡ (place_in (waits_of old) k).distance = ap (λ j. (place_in (waits_of old) j).distance) (sym e) in
                  let word : lst1 new k ≡ lst1 old far.0 = ap (lst1 new) e ∙ put.gap_moved far.0 le (omega arith) in
                  let gap : gap_of (lst1 new k) ≡ gap_of (lst1 old far.0) = ap gap_of word in
                  let step : (place_in (waits_of old) (far.0 + 1)).distance ≡ (place_in (waits_of old) far.0).distance + gap_of (lst1 old far.0) = carries.next far.0 (omega arith) in
                  (omega arith, rw word (carries.gaps far.0 (omega arith)))
            ]
      ]

  rest_is : (k : ℕ) → length (waits_of old) ≤ k → k < 8 → lst1 new k ≡ blank_gap
  rest_is k le lt = elim (cases_place k p) [
    | inl less ↦ absurd (let i : p ≤ length (waits_of old) = within in omega arith)
    | inr (inl e) ↦ ap (lst1 new) e ∙ put.gap_after (omega arith) ∙ gap_to_next-none old p w.distance (omega arith)
    | inr (inr more) ↦
        let e : k ≡ more.0 + 1 = more.2 in
        ap (lst1 new) e ∙ put.gap_moved more.0 more.1 (omega arith) ∙ carries.rest more.0 (omega arith) (omega arith)
  ]

  first_is : (distance_of (time3 new) ≡ dist 0) × (time3 new < 16384)
  first_is = elim (cases_eq p 0) [
    | inl e ↦
        let t : time3 new ≡ counter_at w.distance = put.counter ∙ same_word p 0 _ _ e in
        let d : dist 0 ≡ w.distance = ap (λ (v : Waiting). v.distance) (here 0 (sym e)) in
        (ap distance_of t ∙ distance_of-counter_at w.distance near_w ∙ sym d, rw t (counter_at-low w.distance))
    | inr ne ↦
        let t : time3 new ≡ time3 old = put.counter ∙ other_word p 0 _ _ ne in
        let d : dist 0 ≡ (place_in (waits_of old) 0).distance = ap (λ (v : Waiting). v.distance) (below 0 (omega arith)) in
        (ap distance_of t ∙ carries.first ∙ sym d, rw t carries.counter)
  ]

  gap_is : (k : ℕ) → k < 8 → lst1 new k < 32768
  gap_is k lt = elim (cases_place (k + 1) p) [
    | inl less ↦ subst (λ (n : ℕ). n < 32768) (sym (put.gap_kept k less)) (lawful.word (layout.lst1 + k) (omega arith, omega arith))
    | inr (inl e) ↦ subst (λ (n : ℕ). n < 32768) (sym (put.gap_before k e)) (gap_word-word _)
    | inr (inr more) ↦ elim (cases_place k p) [
      | inl less ↦ absurd (let at_k : k + 1 ≡ more.0 + 1 = more.2 in let le_k : p ≤ more.0 = more.1 in omega arith)
      | inr (inl e) ↦ elim (cases_lt p (length (waits_of old))) [
        | inl some ↦ subst (λ (n : ℕ). n < 32768) (sym (ap (lst1 new) e ∙ next_is some)) (gap_word-word _)
        | inr none ↦ let is : lst1 new k ≡ blank_gap = rest_is k (omega arith) lt in omega arith
      ]
      | inr (inr far) ↦
          let e : k ≡ far.0 + 1 = far.2 in
          subst (λ (n : ℕ). n < 32768) (sym (ap (lst1 new) e ∙ put.gap_moved far.0 far.1 (omega arith))) (lawful.word (layout.lst1 + far.0) (omega arith, omega arith))
    ]
  ]

  pub Carries-put : 1 ≤ w.task.at → w.task.at ≤ 16383 → w.task.bank < 32768 → Carries new (insert (waits_of old) p w)
  Carries-put low high word =
      let n : length (insert (waits_of old) p w) ≡ length (waits_of old) + 1 = len in
      let high_all : (k : ℕ) → (place_in (insert (waits_of old) p w) k).task.at < 16384 = each (λ v. v.task.at < 16384) (omega arith) carries.high in
      record {
        word = at_each_place (λ i. slice_index new i < 32768)
            (let c : time3 new < 16384 = first_is.1 in omega arith)
            gap_is
            (λ k lt. let is : at_in new k ≡ (place_in (insert (waits_of old) p w) k).task.at = at_is k lt in let h : (place_in (insert (waits_of old) p w) k).task.at < 16384 = high_all k in omega arith)
            (bank_word word);
        nine = omega arith;
        at = at_is;
        bank = bank_is;
        low = each_within (λ v. 1 ≤ v.task.at) low carries.low;
        high = high_all;
        counter = first_is.1;
        idle = λ none. absurd (let zero_is : length (insert (waits_of old) p w) ≡ 0 = ap (λ (l : List Waiting). length l) none in omega arith);
        first = first_is.0;
        next = λ k lt. (next_gap k (omega arith)).0;
        gaps = λ k lt. (next_gap k (omega arith)).1;
        rest = λ k le lt. rest_is k (omega arith) lt;
        near = each (λ v. v.distance ≤ 16250) near_w carries.near;
      }

  pub IsTidy-put : IsTidy old → IsTidy new
  IsTidy-put tidy k lt e = elim (cases_place (k + 1) p) [
    | inl before ↦ tidy k lt (sym (put.gap_kept k before) ∙ e)
    | inr (inl is) ↦ gap_word-tidy _ (sym (put.gap_before k is) ∙ e)
    | inr (inr more) ↦ elim (cases_place k p) [
      | inl less ↦ absurd (let at_k : k + 1 ≡ more.0 + 1 = more.2 in let le_k : p ≤ more.0 = more.1 in omega arith)
      | inr (inl is) ↦ elim (cases_lt p (length (waits_of old))) [
        | inl some ↦ gap_word-tidy _ (sym (ap (lst1 new) is ∙ next_is some) ∙ e)
        | inr none ↦ let blank : lst1 new k ≡ blank_gap = rest_is k (omega arith) lt in omega arith
      ]
      | inr (inr far) ↦
          let is : k ≡ far.0 + 1 = far.2 in
          tidy far.0 (omega arith) (sym (ap (lst1 new) is ∙ put.gap_moved far.0 far.1 (omega arith)) ∙ e)
    ]
  ]
