-- The walk to the place of a new task.
use Rattle.std.proofs.Common.{IsTrue, true, false, ◌≡◌, ◌≢◌, ◌⊎◌, ℕ, zero, suc, ◌+◌, ◌<◌, ◌≤◌, List, [], ◌∷◌, drop, length, refl, ap, sym, ◌∙◌, inl, inr, arith}
use Rattle.std.proofs.lemmas.Bool.{cases_lt}
use Rattle.std.proofs.lemmas.List.{get_or_past, drop_all, drop_more}
use Rattle.std.proofs.lemmas.Grind.{common_steps}
use Rattle.agc_plan.specs.Tasks.{Waiting}
use Rattle.agc_wait.specs.Waits.{place_for}
use Rattle.agc_wait.specs.Table.{IsLawfulTable, waits_of, at_in, lst1, time3, gap_of, blank_gap}
use Rattle.agc_wait.specs.Parts.{distance_of}
use Rattle.agc_wait.specs.Writing.{place_in, no_task}
use Rattle.agc_wait.specs.Moving.{IsSpot, IsWalked}
use Rattle.agc_wait.proofs.Tables.{Carries, Carries-lawful}

pub Carries-occupied : (words : List ℕ) (waits : List Waiting) → Carries words waits → (k : ℕ) → k < 9 → at_in words k ≢ 0 → k < length waits
Carries-occupied words waits carries k lt ne = elim (cases_lt k (length waits)) [
  | inl within ↦ within
  | inr past ↦
      let none : place_in waits k ≡ no_task = get_or_past waits k no_task past in
      absurd (ne (carries.at k lt ∙ ap (λ (w : Waiting). w.task.at) none))
]

pub Carries-empty : (words : List ℕ) (waits : List Waiting) → Carries words waits → (k : ℕ) → k < 9 → at_in words k ≡ 0 → length waits ≤ k
Carries-empty words waits carries k lt e = elim (cases_lt k (length waits)) [
  | inl within ↦
      let low : 1 ≤ (place_in waits k).task.at = carries.low k within in
      let at : at_in words k ≡ (place_in waits k).task.at = carries.at k lt in
      absurd (omega arith)
  | inr past ↦ past
]

pub walked-end : (words : List ℕ) (waits : List Waiting) (d p b h : ℕ) → Carries words waits → IsWalked waits d p b h → p < 9 → at_in words p ≡ 0 → IsSpot waits d p b h
walked-end words waits d p b h carries walked lt e =
    let past : length waits ≤ p = Carries-empty words waits carries p lt e in
    let none : drop p waits ≡ [] = drop_all p waits past in
    let end : place_for d (drop p waits) ≡ 0 = ap (place_for d) none in
    let passed : place_for d (drop p waits) + p ≡ place_for d waits = walked.passed in
    record { place_is = omega arith; before_is = walked.before_is; none_before = walked.none_before; after_is = walked.here_is }

pub walked-here : (words : List ℕ) (waits : List Waiting) (d p b h : ℕ) → Carries words waits → IsWalked waits d p b h → p < 9 → at_in words p ≢ 0 → d < h → IsSpot waits d p b h
walked-here words waits d p b h carries walked lt ne less =
    let within : p < length waits = Carries-occupied words waits carries p lt ne in
    let here : h ≡ (place_in waits p).distance = walked.here_is within in
    let open_up : drop p waits ≡ place_in waits p ∷ drop (p + 1) waits = drop_more waits p no_task within in
    let stop : place_for d (place_in waits p ∷ drop (p + 1) waits) ≡ 0 = grind (arith, common_steps) in
    let end : place_for d (drop p waits) ≡ 0 = ap (place_for d) open_up ∙ stop in
    let passed : place_for d (drop p waits) + p ≡ place_for d waits = walked.passed in
    record { place_is = omega arith; before_is = walked.before_is; none_before = walked.none_before; after_is = walked.here_is }

pub walked-more : (words : List ℕ) (waits : List Waiting) (d p b h : ℕ) → Carries words waits → IsWalked waits d p b h → p < 9 → at_in words p ≢ 0 → h ≤ d → IsWalked waits d (p + 1) h (h + gap_of (lst1 words p))
walked-more words waits d p b h carries walked lt ne le =
    let within : p < length waits = Carries-occupied words waits carries p lt ne in
    let here : h ≡ (place_in waits p).distance = walked.here_is within in
    let open_up : drop p waits ≡ place_in waits p ∷ drop (p + 1) waits = drop_more waits p no_task within in
    let go_on : place_for d (place_in waits p ∷ drop (p + 1) waits) ≡ suc (place_for d (drop (p + 1) waits)) = grind (arith, common_steps) in
    let end : place_for d (drop p waits) ≡ suc (place_for d (drop (p + 1) waits)) = ap (place_for d) open_up ∙ go_on in
    let passed : place_for d (drop p waits) + p ≡ place_for d waits = walked.passed in
    record {
      within = omega arith;
      passed = omega arith;
      before_is = λ k e. here ∙ ap (λ i. (place_in waits i).distance) (let s : p ≡ k = omega arith in s);
      none_before = λ e. absurd (omega arith);
      here_is = λ more. ap (λ x. x + gap_of (lst1 words p)) here ∙ sym (carries.next p more);
    }

pub walked-near : (words : List ℕ) (waits : List Waiting) (d p b h : ℕ) → Carries words waits → IsWalked waits d p b h → p < 9 → at_in words p ≢ 0 → h ≤ 16250
walked-near words waits d p b h carries walked lt ne =
    let here : h ≡ (place_in waits p).distance = walked.here_is (Carries-occupied words waits carries p lt ne) in
    let near : (place_in waits p).distance ≤ 16250 = carries.near p in omega arith

-- those before the place are due no later, the one after it is due later
pub place_for-passed : (d : ℕ) (waits : List Waiting) (k : ℕ) → k < place_for d waits → (place_in waits k).distance ≤ d
place_for-passed d [] k lt = absurd (omega arith)
place_for-passed d (w ∷ ws) k lt = elim (cases_lt d w.distance) [
  | inl less ↦ let stop : place_for d (w ∷ ws) ≡ 0 = grind (arith, common_steps) in absurd (omega arith)
  | inr le ↦ let go_on : place_for d (w ∷ ws) ≡ suc (place_for d ws) = grind (arith, common_steps) in at (λ j. place_for-passed d ws j) k (omega arith) le
]
  where
    at : ((j : ℕ) → j < place_for d ws → (place_in ws j).distance ≤ d) → (k : ℕ) → k < suc (place_for d ws) → w.distance ≤ d → (place_in (w ∷ ws) k).distance ≤ d
    at rest zero lt le = le
    at rest (suc k) lt le = rest k (omega arith)

pub place_for-next : (d : ℕ) (waits : List Waiting) → place_for d waits < length waits → d < (place_in waits (place_for d waits)).distance
place_for-next d [] lt = absurd (omega arith)
place_for-next d (w ∷ ws) lt = elim (cases_lt d w.distance) [
  | inl less ↦ let stop : place_for d (w ∷ ws) ≡ 0 = grind (arith, common_steps) in rw stop less
  | inr le ↦
      let go_on : place_for d (w ∷ ws) ≡ suc (place_for d ws) = grind (arith, common_steps) in
      rw go_on (place_for-next d ws (omega arith))
]

pub place_for-within : (d : ℕ) (waits : List Waiting) → place_for d waits ≤ length waits
place_for-within d [] = omega arith
place_for-within d (w ∷ ws) =
    let rest : place_for d ws ≤ length ws = place_for-within d ws in grind (arith, common_steps)

-- the task at the spot is due later than the new one
pub spot-after : (words : List ℕ) (waits : List Waiting) (d p b a : ℕ) → Carries words waits → IsSpot waits d p b a → p < length waits → (d ≤ a) × (a ≤ 16250)
spot-after words waits d p b a carries spot within =
    let is : p ≡ place_for d waits = spot.place_is in
    let here : a ≡ (place_in waits p).distance = spot.after_is within in
    let near : (place_in waits p).distance ≤ 16250 = carries.near p in
    let more : d < (place_in waits (place_for d waits)).distance = place_for-next d waits (omega arith) in
    let same : (place_in waits p).distance ≡ (place_in waits (place_for d waits)).distance = ap (λ i. (place_in waits i).distance) is in
    (omega arith, omega arith)

pub spot-before : (waits : List Waiting) (d p b a : ℕ) → IsSpot waits d p b a → b ≤ d
spot-before waits d zero b a spot = let none : b ≡ 0 = spot.none_before refl in omega arith
spot-before waits d (suc k) b a spot =
    let is : suc k ≡ place_for d waits = spot.place_is in
    let before : b ≡ (place_in waits k).distance = spot.before_is k (omega arith) in
    let le : (place_in waits k).distance ≤ d = place_for-passed d waits k (omega arith) in
    omega arith

pub spot-within : (waits : List Waiting) (d p b a : ℕ) → IsSpot waits d p b a → p ≤ length waits
spot-within waits d p b a spot =
    let is : p ≡ place_for d waits = spot.place_is in
    let le : place_for d waits ≤ length waits = place_for-within d waits in omega arith

pub walked-start : (words : List ℕ) (waits : List Waiting) (d : ℕ) → Carries words waits → IsWalked waits d 0 0 (distance_of (time3 words))
walked-start words waits d carries = record {
  within = omega arith;
  passed = omega arith;
  before_is = λ k e. absurd (omega arith);
  none_before = λ e. refl;
  here_is = λ some. carries.first;
}

-- where the last place is empty
pub few_wait : (words : List ℕ) (bits : ℕ) → IsLawfulTable words → bits ≡ at_in words 8 → bits ≡ 0 → length (waits_of words) ≤ 8
few_wait words bits lawful is empty = Carries-empty words (waits_of words) (Carries-lawful words lawful) 8 (omega arith) (sym is ∙ empty)

-- the spot is one of nine places
pub spot-small : (words : List ℕ) (d p b a : ℕ) → length (waits_of words) ≤ 8 → IsSpot (waits_of words) d p b a → p ≤ 8
spot-small words d p b a few spot =
    let within : p ≤ length (waits_of words) = spot-within (waits_of words) d p b a spot in omega arith

-- the word behind a task is one that a gap may have
pub walked-gap : (words : List ℕ) (waits : List Waiting) → Carries words waits → length waits ≤ 8 → (k : ℕ) → k < length waits → (lst1 words k ≤ 1) ⊎ (16384 ≤ lst1 words k)
walked-gap words waits carries few k lt = elim (cases_lt (k + 1) (length waits)) [
  | inl more ↦ carries.gaps k more
  | inr last ↦ inr (let blank : lst1 words k ≡ blank_gap = carries.rest k last (omega arith) in omega arith)
]

-- an address that isn't one or more is none
pub none_there : (at : ℕ) → (1 ≤ at → IsTrue false) → at ≡ 0
none_there zero none = refl
none_there (suc at) none = absurd (let e : false ≡ true = none (omega arith) in cc)
