-- What is read from a table, and whether it is in order, depends on its own words alone.
use Rattle.std.proofs.Common.{◌≡◌, ◌⊎◌, ℕ, zero, suc, ◌+◌, ◌*◌, ◌<◌, ◌≤◌, List, length, refl, ap, sym, subst, ◌∙◌, arith}
use Rattle.std.specs.List.{All}
use Rattle.agc_word.specs.Layout as layout
use Rattle.agc_plan.specs.Tasks.{Waiting}
use Rattle.agc_wait.specs.Table.{SameTable, IsLawfulTable, IsTidy, waits_of, waits_from, time3, lst1, at_in, bank_in, gap_of}
use Rattle.agc_wait.specs.Parts.{distance_of}
use Rattle.agc_wait.proofs.Tables.{Carries-lawful}

lst1-same : (new old : List ℕ) → SameTable new old → (k : ℕ) → k < 9 → lst1 new k ≡ lst1 old k
lst1-same new old same k lt = same (layout.lst1 + k) (omega arith, omega arith)

at_in-same : (new old : List ℕ) → SameTable new old → (k : ℕ) → k < 9 → at_in new k ≡ at_in old k
at_in-same new old same k lt = same (layout.lst2 + 2 * k) (omega arith, omega arith)

bank_in-same : (new old : List ℕ) → SameTable new old → (k : ℕ) → k < 9 → bank_in new k ≡ bank_in old k
bank_in-same new old same k lt = same (layout.lst2 + 1 + 2 * k) (omega arith, omega arith)

waits_from-same : (left k distance : ℕ) (new old : List ℕ) → SameTable new old → k + left ≡ 9 → waits_from left k distance new ≡ waits_from left k distance old
waits_from-same zero k distance new old same end = refl
waits_from-same (suc left) k distance new old same end =
    let at : at_in new k ≡ at_in old k = at_in-same new old same k (omega arith) in
    let bank : bank_in new k ≡ bank_in old k = bank_in-same new old same k (omega arith) in
    let gap : lst1 new k ≡ lst1 old k = lst1-same new old same k (omega arith) in
    let rest : waits_from left (k + 1) (distance + gap_of (lst1 new k)) new ≡ waits_from left (k + 1) (distance + gap_of (lst1 new k)) old = waits_from-same left (k + 1) (distance + gap_of (lst1 new k)) new old same (omega arith) in
    cc

pub waits_of-same : (new old : List ℕ) → SameTable new old → waits_of new ≡ waits_of old
unfolding waits_of
waits_of-same new old same =
    waits_from-same 9 0 (distance_of (time3 new)) new old same refl
    ∙ ap (λ (c : ℕ). waits_from 9 0 (distance_of c) old) (same layout.time3 (omega arith, omega arith))

pub IsLawfulTable-same : (new old : List ℕ) → SameTable new old → IsLawfulTable old → IsLawfulTable new
IsLawfulTable-same new old same lawful =
    let is : waits_of new ≡ waits_of old = waits_of-same new old same in
    let long : length (waits_of new) ≡ length (waits_of old) = ap (λ (l : List Waiting). length l) is in
    let counter : time3 new ≡ time3 old = same layout.time3 (omega arith, omega arith) in
    record {
      word = λ i within. subst (λ (w : ℕ). w < 32768) (sym (same i within)) (lawful.word i within);
      counter = subst (λ (w : ℕ). w < 16384) (sym counter) lawful.counter;
      idle = λ none. counter ∙ lawful.idle (sym is ∙ none);
      near = subst (All (λ (w : Waiting). w.distance ≤ 16250)) (sym is) lawful.near;
      address = λ k lt. subst (λ (w : ℕ). w < 16384) (sym (at_in-same new old same k lt)) (lawful.address k lt);
      gap = λ k lt.
          let nine : length (waits_of old) ≤ 9 = (Carries-lawful old lawful).nine in
          subst (λ (w : ℕ). (w ≤ 1) ⊎ (16384 ≤ w)) (sym (lst1-same new old same k (omega arith))) (lawful.gap k (omega arith));
      no_gap = λ k le lt. lst1-same new old same k (omega arith) ∙ lawful.no_gap k (omega arith) lt;
      no_task = λ k le lt.
          (at_in-same new old same k lt ∙ (lawful.no_task k (omega arith) lt).0, bank_in-same new old same k lt ∙ (lawful.no_task k (omega arith) lt).1);
    }

pub IsTidy-same : (new old : List ℕ) → SameTable new old → IsTidy old → IsTidy new
IsTidy-same new old same tidy k lt e = tidy k lt (sym (lst1-same new old same k (omega arith)) ∙ e)
