-- What a lawful table's words are read as: tasks in order, which stand for an agenda.
use Rattle.std.proofs.Common.{◌≡◌, ℕ, ◌+◌, ◌<◌, ◌≤◌, suc, nat_lt, Bool, List, [], ◌∷◌, length, ap, arith}
use Rattle.agc_plan.specs.Tasks.{Waiting, timed}
use Rattle.agc_wait.specs.Waits.{is_due, due_now}
use Rattle.agc_wait.proofs.Spreading.{Spreads, IsLawful}
use Rattle.agc_wait.specs.Table.{IsLawfulTable, waits_of, lst1, gap_of}
use Rattle.agc_wait.specs.Writing.{place_in}
use Rattle.agc_wait.specs.Calls.{ShownAgenda, TellsDue}
use Rattle.agc_wait.proofs.Distances.{StandsFor-itself, is_due-iff}
use Rattle.agc_wait.proofs.Dues.{is_due-some}
use Rattle.agc_wait.proofs.Tables.{Carries, Carries-lawful}

Spreads_by : (least most : ℕ) (ws : List Waiting) → least ≤ (place_in ws 0).distance → ((k : ℕ) → k + 1 < length ws → (place_in ws k).distance ≤ (place_in ws (k + 1)).distance) → ((k : ℕ) → (place_in ws k).distance ≤ most) → Spreads least most ws
Spreads_by least most [] low steps near = tt
Spreads_by least most (w ∷ []) low steps near = (low, near 0, tt)
Spreads_by least most (w ∷ v ∷ vs) low steps near = (low, near 0, Spreads_by w.distance most (v ∷ vs) (steps 0 (omega arith)) more (λ k. near (suc k)))
  where
    more : (k : ℕ) → k + 1 < length (v ∷ vs) → (place_in (v ∷ vs) k).distance ≤ (place_in (v ∷ vs) (k + 1)).distance
    more k lt =
        let step : (place_in (w ∷ v ∷ vs) (suc k)).distance ≤ (place_in (w ∷ v ∷ vs) (suc k + 1)).distance = steps (suc k) (omega arith) in
        let e : (place_in (w ∷ v ∷ vs) (suc k + 1)).distance ≡ (place_in (v ∷ vs) (k + 1)).distance = ap (λ i. (place_in (w ∷ v ∷ vs) i).distance) (let s : suc k + 1 ≡ suc (k + 1) = omega arith in s) in
        omega arith

Spreads-carried : (words : List ℕ) (ws : List Waiting) → Carries words ws → Spreads 0 16250 ws
Spreads-carried words ws carries =
    Spreads_by 0 16250 ws (omega arith)
    (λ k lt. let step : (place_in ws (k + 1)).distance ≡ (place_in ws k).distance + gap_of (lst1 words k) = carries.next k lt in omega arith) carries.near

-- the tasks of a table are lawful
pub IsLawful-table : (words : List ℕ) → IsLawfulTable words → IsLawful (waits_of words)
IsLawful-table words lawful =
    let carries : Carries words (waits_of words) = Carries-lawful words lawful in
    record { spreads = Spreads-carried words (waits_of words) carries; nine = carries.nine }

-- and stand for an agenda
pub shown : (words : List ℕ) → IsLawfulTable words → ShownAgenda words
shown words lawful =
    (record { tasks = timed 0 (waits_of words); time = 0 }, StandsFor-itself 0 16250 (waits_of words) (IsLawful-table words lawful).spreads)

-- the first is due where some are
pub is_due-table : (words : List ℕ) → IsLawfulTable words → is_due (waits_of words) ≡ nat_lt 0 (due_now (waits_of words))
is_due-table words lawful = is_due-some (waits_of words) (IsLawful-table words lawful).spreads

-- an answer that says whether the first is due
pub tells : (words : List ℕ) (answer : Bool) → IsLawfulTable words → answer ≡ is_due (waits_of words) → TellsDue words answer
tells words answer lawful value = record {
  shown = shown words lawful;
  due = λ agenda stands. rw value (is_due-iff (waits_of words) agenda stands);
  value = value;
}
