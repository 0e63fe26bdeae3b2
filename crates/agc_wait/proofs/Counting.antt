-- The words after a count of TIME3.
use Rattle.std.proofs.Common.{◌≡◌, ◌≢◌, ℕ, zero, suc, ◌+◌, ◌-◌, ◌*◌, ◌<◌, ◌≤◌, ◌==◌, Bool, false, cond, List, [], ◌∷◌, map, length, slice_index, slice_set, refl, ap, sym, subst, ◌∙◌, inl, inr, arith, add-one}
use Rattle.std.proofs.lemmas.Bool.{cases_eq}
use Rattle.std.proofs.lemmas.List.{length-map, length-set}
use Rattle.std.proofs.lemmas.Grind.{common_steps}
use Rattle.agc_word.specs.Layout as layout
use Rattle.agc_word.specs.Layout.{OutsideWaitlist}
use Rattle.agc_word.proofs.Keeping.{kept, kept_set, kept_also}
use Rattle.agc_plan.specs.Tasks.{Waiting, Agenda, StandsFor, later}
use Rattle.agc_wait.specs.Waits.{is_due, due_now}
use Rattle.agc_wait.proofs.Spreading.{nearer}
use Rattle.agc_wait.specs.Table.{IsLawfulTable, waits_of, time3, lst1, at_in, gap_of}
use Rattle.agc_wait.specs.Parts.{distance_of}
use Rattle.agc_wait.specs.Writing.{place_in, IsCounted}
use Rattle.agc_wait.specs.Calls.{Counts}
use Rattle.agc_wait.proofs.Distances.{StandsFor-counted, is_due-iff}
use Rattle.agc_wait.proofs.Dues.{due_now-within}
use Rattle.agc_wait.proofs.Gaps.{distance_of-zero}
use Rattle.agc_wait.proofs.Standing.{shown}
use Rattle.agc_wait.proofs.Tables.{Carries, Carries-lawful, waits_of-carried, IsLawfulTable-carried}
use Rattle.agc_wait.proofs.Writes.{get-set, other_word, same_word}

place_in-nearer : (waits : List Waiting) (k : ℕ) → place_in (map nearer waits) k ≡ nearer (place_in waits k)
place_in-nearer [] k = refl
place_in-nearer (w ∷ ws) zero = refl
place_in-nearer (w ∷ ws) (suc k) = place_in-nearer ws k

pub Carries-none : (words : List ℕ) (waits : List Waiting) → Carries words waits → at_in words 0 ≡ 0 → waits ≡ []
Carries-none words [] carries e = refl
Carries-none words (w ∷ ws) carries e =
    let low : 1 ≤ w.task.at = carries.low 0 (omega arith) in
    let at : at_in words 0 ≡ w.task.at = carries.at 0 (omega arith) in
    absurd (omega arith)

Carries-some : (words : List ℕ) (waits : List Waiting) → Carries words waits → at_in words 0 ≢ 0 → 0 < length waits
Carries-some words [] carries ne = absurd (ne (carries.at 0 (omega arith)))
Carries-some words (w ∷ ws) carries ne = omega arith

-- the first is due where there is one and TIME3 is zero
pub is_due-carried : (words : List ℕ) (waits : List Waiting) → Carries words waits → at_in words 0 ≢ 0 → is_due waits ≡ (time3 words == 0)
is_due-carried words [] carries ne = absurd (ne (carries.at 0 (omega arith)))
is_due-carried words (w ∷ ws) carries ne =
    let first : distance_of (time3 words) ≡ w.distance = carries.first in
    ap (λ d. d == 0) (sym first) ∙ distance_of-zero (time3 words) carries.counter

-- the first is the nearest
least_first : (words : List ℕ) (waits : List Waiting) → Carries words waits → (k : ℕ) → k < length waits → (place_in waits 0).distance ≤ (place_in waits k).distance
least_first words waits carries zero lt = omega arith
least_first words waits carries (suc k) lt =
    let before : (place_in waits 0).distance ≤ (place_in waits k).distance = least_first words waits carries k (omega arith) in
    let more : k + 1 < length waits = omega arith in
    let step : (place_in waits (k + 1)).distance ≡ (place_in waits k).distance + gap_of (lst1 words k) = carries.next k more in
    let same : (place_in waits (k + 1)).distance ≡ (place_in waits (suc k)).distance = ap (λ i. (place_in waits i).distance) (add-one k) in
    omega arith

Carries-counted : (old new : List ℕ) (waits : List Waiting) → Carries old waits → 0 < length waits → 0 < (place_in waits 0).distance → ((i : ℕ) → i ≢ layout.time3 → slice_index new i ≡ slice_index old i) → time3 new < 16384 → distance_of (time3 new) ≡ distance_of (time3 old) - 1 → Carries new (map nearer waits)
Carries-counted old new waits carries some far same counter less = record {
  word = λ i within. elim (cases_eq i layout.time3) [
    | inl e ↦ let c : time3 new < 16384 = counter in let is : slice_index new i ≡ time3 new = ap (slice_index new) e in omega arith
    | inr ne ↦ subst (λ (n : ℕ). n < 32768) (sym (same i ne)) (carries.word i within)
  ];
  nine = rw len carries.nine;
  at = λ k lt. same (layout.lst2 + 2 * k) (λ e. omega arith) ∙ carries.at k lt ∙ sym (ap (λ (w : Waiting). w.task.at) (place_in-nearer waits k));
  bank = λ k lt. same (layout.lst2 + 1 + 2 * k) (λ e. omega arith) ∙ carries.bank k lt ∙ sym (ap (λ (w : Waiting). w.task.bank) (place_in-nearer waits k));
  low = λ k lt. rw (place_in-nearer waits k) (carries.low k (rw len at lt));
  high = λ k. rw (place_in-nearer waits k) (carries.high k);
  counter = counter;
  idle = λ none. absurd (let zero_is : length (map nearer waits) ≡ 0 = ap (λ (l : List Waiting). length l) none in let l : length (map nearer waits) ≡ length waits = len in omega arith);
  first = less ∙ ap (λ d. d - 1) carries.first ∙ sym (ap (λ (w : Waiting). w.distance) (place_in-nearer waits 0));
  next = λ k lt.
      let more : k + 1 < length waits = rw len at lt in
      let here : (place_in (map nearer waits) k).distance ≡ (place_in waits k).distance - 1 = ap (λ (w : Waiting). w.distance) (place_in-nearer waits k) in
      let there : (place_in (map nearer waits) (k + 1)).distance ≡ (place_in waits (k + 1)).distance - 1 = ap (λ (w : Waiting). w.distance) (place_in-nearer waits (k + 1)) in
      let step : (place_in waits (k + 1)).distance ≡ (place_in waits k).distance + gap_of (lst1 old k) = carries.next k more in
      let low : (place_in waits 0).distance ≤ (place_in waits k).distance = least_first old waits carries k (omega arith) in
      let gap : gap_of (lst1 new k) ≡ gap_of (lst1 old k) = ap gap_of (same (layout.lst1 + k) (λ e. omega arith)) in
      omega arith;
  gaps = λ k lt. rw (same (layout.lst1 + k) (λ e. omega arith)) (carries.gaps k (rw len at lt));
  rest = λ k le lt. same (layout.lst1 + k) (λ e. omega arith) ∙ carries.rest k (rw len at le) lt;
  near = λ k.
      let is : (place_in (map nearer waits) k).distance ≡ (place_in waits k).distance - 1 = ap (λ (w : Waiting). w.distance) (place_in-nearer waits k) in
      let before : (place_in waits k).distance ≤ 16250 = carries.near k in
      omega arith;
}
  where
    len : length (map nearer waits) ≡ length waits
    len = length-map waits nearer

far_first : (waits : List Waiting) → 0 < length waits → is_due waits ≡ false → 0 < (place_in waits 0).distance
far_first [] lt apart = absurd (omega arith)
far_first (w ∷ ws) lt apart = let ne : w.distance ≢ 0 = grind (arith, common_steps) in omega arith

-- whatever the words are now: their tasks are one centisecond nearer
counts-by : (old new : List ℕ) (answer : Bool) → IsLawfulTable old → is_due (waits_of old) ≡ false → IsLawfulTable new → waits_of new ≡ map nearer (waits_of old) → answer ≡ is_due (waits_of new) → IsCounted old new → Counts old answer new
counts-by old new answer lawful apart lawful_new waits value words =
    let becomes : (agenda : Agenda) → StandsFor (waits_of old) agenda → StandsFor (waits_of new) (later agenda) =
    (λ agenda stands. subst (λ (ws : List Waiting). StandsFor ws (later agenda)) (sym waits) (StandsFor-counted (waits_of old) agenda apart stands)) in
    let within : due_now (waits_of new) ≤ length (waits_of new) = due_now-within (waits_of new) in
    let nine : length (waits_of new) ≤ 9 = (Carries-lawful new lawful_new).nine in
    record {
      shown = shown old lawful;
      counted = becomes;
      due = λ agenda stands. rw value (is_due-iff (waits_of new) (later agenda) (becomes agenda stands));
      value = value;
      few_due = omega arith;
      lawful = lawful_new;
      tidy = λ tidy k lt e. tidy k lt (sym (words.others.words (layout.lst1 + k) (λ s. omega arith)) ∙ e);
      others = kept_also _ OutsideWaitlist old new outside words.others;
      words = words;
    }
  where
    outside : (i : ℕ) → OutsideWaitlist i → (i ≡ layout.time3) → ⊥
    outside i (inl lt) e = omega arith
    outside i (inr le) e = omega arith

-- no task waits
pub counts-none : (old : List ℕ) → IsLawfulTable old → is_due (waits_of old) ≡ false → at_in old 0 ≡ 0 → Counts old false old
counts-none old lawful apart empty =
    let none : waits_of old ≡ [] = Carries-none old (waits_of old) (Carries-lawful old lawful) empty in
    counts-by old old false lawful apart lawful (none ∙ sym (ap (map nearer) none)) (sym apart)
    (record { counter = sym (same_word (at_in old 0) 0 _ _ empty); others = kept _ old })

-- TIME3 went up by one, or over
pub counts-some : (old : List ℕ) (t : ℕ) → IsLawfulTable old → layout.phase_words ≤ length old → is_due (waits_of old) ≡ false → at_in old 0 ≢ 0 → t ≡ cond (time3 old == 16383) 0 (time3 old + 1) → Counts old (t == 0) (slice_set old layout.time3 t)
counts-some old t lawful len apart ne is =
    let carries : Carries old (waits_of old) = Carries-lawful old lawful in
    let new = slice_set old layout.time3 t in
    let len_new : length new ≡ length old = length-set old layout.time3 t in
    let get : (j : ℕ) → slice_index new j ≡ cond (j == layout.time3) t (slice_index old j) = get-set old layout.time3 t (omega arith) in
    let at_90 : time3 new ≡ t = get layout.time3 in
    let far : 0 < (place_in (waits_of old) 0).distance = far_first (waits_of old) (Carries-some old (waits_of old) carries ne) apart in
    let first : distance_of (time3 old) ≡ (place_in (waits_of old) 0).distance = carries.first in
    let counter : time3 old < 16384 = carries.counter in
    let started : time3 old ≢ 0 = λ e. (let z : distance_of (time3 old) ≡ 0 = ap distance_of e in omega arith) in
    let step : (distance_of t ≡ distance_of (time3 old) - 1) × (t < 16384) = nearer_by t (time3 old) started counter is in
    let carried : Carries new (map nearer (waits_of old)) =
    Carries-counted old new (waits_of old) carries (Carries-some old (waits_of old) carries ne) far (λ i other. get i ∙ other_word i layout.time3 _ _ other)
    (rw at_90 step.1) (ap distance_of at_90 ∙ step.0) in
    counts-by old new (t == 0) lawful apart (IsLawfulTable-carried new (map nearer (waits_of old)) carried) (waits_of-carried new (map nearer (waits_of old)) carried)
    (ap (λ d. d == 0) (sym at_90) ∙ sym (is_due-carried new (map nearer (waits_of old)) carried (λ e. ne (sym (get layout.lst2) ∙ e))) ∙ sym (ap is_due (waits_of-carried new (map nearer (waits_of old)) carried)))
    (record {
      counter = at_90 ∙ is ∙ sym (other_word (at_in old 0) 0 _ _ ne);
      others = kept_set (λ i. (i ≡ layout.time3) → ⊥) old layout.time3 t (λ outside. outside refl);
    })
  where
    nearer_by : (t s : ℕ) → s ≢ 0 → s < 16384 → t ≡ cond (s == 16383) 0 (s + 1) → (distance_of t ≡ distance_of s - 1) × (t < 16384)
    nearer_by t s ne lt e = elim (cases_eq s 16383) [
      | inl full ↦
          let z : t ≡ 0 = e ∙ same_word s 16383 _ _ full in
          let dt : distance_of t ≡ 0 = ap distance_of z in
          let ds : distance_of s ≡ 1 = ap distance_of full in
          (omega arith, omega arith)
      | inr not ↦
          let up : t ≡ s + 1 = e ∙ other_word s 16383 _ _ not in
          let some : t ≢ 0 = λ z. omega arith in
          let dt : distance_of t ≡ 16384 - t = other_word t 0 _ _ some in
          let ds : distance_of s ≡ 16384 - s = other_word s 0 _ _ ne in
          (omega arith, omega arith)
    ]
