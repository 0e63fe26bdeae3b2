-- Tables that are in order, tidy, and stand for one agenda have the same words.
use Rattle.std.proofs.Common.{◌≡◌, ◌≢◌, ◌⊎◌, ℕ, ◌+◌, ◌-◌, ◌<◌, ◌≤◌, List, [], ◌∷◌, length, slice_index, refl, ap, sym, subst, ◌∙◌, inl, inr, arith}
use Rattle.std.proofs.lemmas.Bool.{cases_eq, cases_lt}
use Rattle.std.proofs.lemmas.Grind.{common_steps}
use Rattle.agc_word.specs.Layout as layout
use Rattle.agc_plan.specs.declared.request.Task.{Task}
use Rattle.agc_plan.specs.Tasks.{Pending, Waiting, Agenda, StandsFor, timed}
use Rattle.agc_wait.specs.Table.{Shows, SameTable, IsTidy, waits_of, time3, lst1, gap_of}
use Rattle.agc_wait.specs.Parts.{distance_of}
use Rattle.agc_wait.specs.Writing.{place_in}
use Rattle.agc_wait.proofs.Orders.{InOrder-one}
use Rattle.agc_wait.proofs.Distances.{timed_at}
use Rattle.agc_wait.proofs.Tables.{Carries, Carries-lawful}
use Rattle.agc_wait.proofs.Places.{at_each_place}

timed-one : (now : ℕ) (ws vs : List Waiting) → timed now ws ≡ timed now vs → ws ≡ vs
timed-one now [] [] e = refl
timed-one now [] (v ∷ vs) e = absurd (cc)
timed-one now (w ∷ ws) [] e = absurd (cc)
timed-one now (w ∷ ws) (v ∷ vs) e =
    let tails : timed now ws ≡ timed now vs = cc in
    let heads : timed_at now w ≡ timed_at now v = cc in
    let task : w.task ≡ v.task = ap (λ (p : Pending). p.task) heads in
    let due : now + w.distance ≡ now + v.distance = ap (λ (p : Pending). p.due) heads in
    let distance : w.distance ≡ v.distance = omega arith in
    let first : w ≡ v = same w.task v.task w.distance v.distance task distance in
    let rest : ws ≡ vs = timed-one now ws vs tails in
    cc
  where
    same : (task other : Task) (distance far : ℕ) → task ≡ other → distance ≡ far → ◌≡◌ {A = Waiting} (record { task = task; distance = distance }) (record { task = other; distance = far })
    same task other distance far is at = cc

-- one agenda has one list of waiting tasks
StandsFor-one : (ws vs : List Waiting) (agenda : Agenda) → StandsFor ws agenda → StandsFor vs agenda → ws ≡ vs
StandsFor-one ws vs agenda these those =
    timed-one agenda.time ws vs (InOrder-one agenda.tasks (timed agenda.time ws) (timed agenda.time vs) these those)

-- one distance has one counter
distance_of-one : (u v : ℕ) → u < 16384 → v < 16384 → distance_of u ≡ distance_of v → u ≡ v
distance_of-one u v u_low v_low same = elim (cases_eq u 0) [
  | inl u_is ↦ elim (cases_eq v 0) [ inl v_is ↦ u_is ∙ sym v_is | inr v_not ↦ absurd (apart v u v_low v_not u_is (sym same)) ]
  | inr u_not ↦ elim (cases_eq v 0) [
    | inl v_is ↦ absurd (apart u v u_low u_not v_is same)
    | inr v_not ↦
        let u_far : distance_of u ≡ 16384 - u = grind (arith, common_steps) in
        let v_far : distance_of v ≡ 16384 - v = grind (arith, common_steps) in
        omega arith
  ]
]
  where
    apart : (far near : ℕ) → far < 16384 → far ≢ 0 → near ≡ 0 → distance_of far ≢ distance_of near
    apart far near low not is e =
        let d : distance_of far ≡ 16384 - far = grind (arith, common_steps) in
        let z : distance_of near ≡ 0 = grind (arith, common_steps) in
        omega arith

-- one gap has one word
gap_of-one : (u v : ℕ) → (u ≤ 1) ⊎ (16384 ≤ u) → (v ≤ 1) ⊎ (16384 ≤ v) → u < 32768 → v < 32768 → u ≢ 32767 → v ≢ 32767 → gap_of u ≡ gap_of v → u ≡ v
gap_of-one u v (inl u_low) (inl v_low) u_word v_word u_tidy v_tidy same =
    let u_gap : gap_of u ≡ 1 - u = grind (arith, common_steps) in
    let v_gap : gap_of v ≡ 1 - v = grind (arith, common_steps) in omega arith
gap_of-one u v (inl u_low) (inr v_high) u_word v_word u_tidy v_tidy same =
    let u_gap : gap_of u ≡ 1 - u = grind (arith, common_steps) in
    let v_gap : gap_of v ≡ 32768 - v = grind (arith, common_steps) in omega arith
gap_of-one u v (inr u_high) (inl v_low) u_word v_word u_tidy v_tidy same =
    let u_gap : gap_of u ≡ 32768 - u = grind (arith, common_steps) in
    let v_gap : gap_of v ≡ 1 - v = grind (arith, common_steps) in omega arith
gap_of-one u v (inr u_high) (inr v_high) u_word v_word u_tidy v_tidy same =
    let u_gap : gap_of u ≡ 32768 - u = grind (arith, common_steps) in
    let v_gap : gap_of v ≡ 32768 - v = grind (arith, common_steps) in omega arith

-- one list of waiting tasks has one word k of LST1
lst1-one : (a b : List ℕ) (ws : List Waiting) → Carries a ws → Carries b ws → IsTidy a → IsTidy b → (k : ℕ) → k < 8 → lst1 a k ≡ lst1 b k
lst1-one a b ws in_a in_b a_tidy b_tidy k lt = elim (cases_lt (k + 1) (length ws)) [
  | inl more ↦
      let a_next : (place_in ws (k + 1)).distance ≡ (place_in ws k).distance + gap_of (lst1 a k) = in_a.next k more in
      let b_next : (place_in ws (k + 1)).distance ≡ (place_in ws k).distance + gap_of (lst1 b k) = in_b.next k more in
      let same : gap_of (lst1 a k) ≡ gap_of (lst1 b k) = omega arith in
      gap_of-one (lst1 a k) (lst1 b k) (in_a.gaps k more) (in_b.gaps k more) (in_a.word (layout.lst1 + k) (omega arith, omega arith)) (in_b.word (layout.lst1 + k) (omega arith, omega arith)) (a_tidy k lt) (b_tidy k lt) same
  | inr last ↦ in_a.rest k last lt ∙ sym (in_b.rest k last lt)
]

-- and one table
Carries-one : (a b : List ℕ) (ws : List Waiting) → Carries a ws → Carries b ws → IsTidy a → IsTidy b → SameTable a b
Carries-one a b ws in_a in_b a_tidy b_tidy =
    at_each_place (λ i. slice_index a i ≡ slice_index b i)
    (distance_of-one (time3 a) (time3 b) in_a.counter in_b.counter (in_a.first ∙ sym in_b.first))
    (lst1-one a b ws in_a in_b a_tidy b_tidy)
    (λ k lt. in_a.at k lt ∙ sym (in_b.at k lt))
    (λ k lt. in_a.bank k lt ∙ sym (in_b.bank k lt))

pub Shows-one : (agenda : Agenda) (these those : List ℕ) → Shows these agenda → Shows those agenda → SameTable these those
Shows-one agenda these those a b =
    let one : waits_of those ≡ waits_of these = StandsFor-one (waits_of those) (waits_of these) agenda b.stands a.stands in
    Carries-one these those (waits_of these) (Carries-lawful these a.lawful) (subst (Carries those) one (Carries-lawful those b.lawful)) a.tidy b.tidy
