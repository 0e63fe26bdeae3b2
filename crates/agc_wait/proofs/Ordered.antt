-- The tasks that wait, one after the other.
use Rattle.std.proofs.Common.{◌≡◌, ◌≢◌, ℕ, zero, suc, ◌+◌, ◌-◌, ◌<◌, ◌≤◌, ◌==◌, false, List, [], ◌∷◌, ◌++◌, length, refl, sym, ap, ◌∙◌, append_assoc, append-nil, arith}
use Rattle.std.proofs.lemmas.Grind.{common_steps}
use Rattle.agc_plan.specs.Tasks.{Waiting}
use Rattle.agc_wait.specs.Table.{waits_from, waits_of, at_in, bank_in, lst1, gap_of, time3}
use Rattle.agc_wait.specs.Parts.{distance_of}

abbrev pub wait_at : ℕ → ℕ → List ℕ → Waiting
wait_at place distance words = record { task = record { at = at_in words place; bank = bank_in words place }; distance = distance }

ends : (left place distance : ℕ) (words : List ℕ) → at_in words place ≡ 0 → waits_from left place distance words ≡ []
ends zero place distance words none = refl
ends (suc left) place distance words none = rw none refl

goes_on : (left place distance : ℕ) (words : List ℕ) → at_in words place ≢ 0 → waits_from (suc left) place distance words ≡ wait_at place distance words ∷ waits_from left (place + 1) (distance + gap_of (lst1 words place)) words
goes_on left place distance words some =
    let there : (at_in words place == 0) ≡ false = grind (arith, common_steps) in
    rw there refl

-- the first is no further than this
pub far : (counter : ℕ) → distance_of counter ≤ 16384
far counter = grind (arith, common_steps)

pub none_found : (found : List Waiting) → found ≡ [] → length found ≡ 0
none_found found empty = ap length empty

-- none were found yet
pub begins : (words : List ℕ) (found : List Waiting) (distance : ℕ) → found ≡ [] → distance ≡ distance_of (time3 words) → found ++ waits_from (9 - 0) 0 distance words ≡ waits_of words
unfolding waits_of
begins words found distance empty is =
    ap (λ (l : List Waiting). l ++ waits_from (9 - 0) 0 distance words) empty ∙ ap (λ (d : ℕ). waits_from (9 - 0) 0 d words) is

-- all were found
pub ended : (place distance : ℕ) (words : List ℕ) (found whole : List Waiting) → at_in words place ≡ 0 → found ++ waits_from (9 - place) place distance words ≡ whole → found ≡ whole
ended place distance words found whole none rest =
    sym (append-nil found) ∙ ap (λ (l : List Waiting). found ++ l) (sym (ends (9 - place) place distance words none)) ∙ rest

-- one more was found
pub one : (place distance : ℕ) (words : List ℕ) (found more whole : List Waiting) (next : ℕ) → place < 9 → at_in words place ≢ 0 → more ≡ found ++ wait_at place distance words ∷ [] → next ≡ distance + gap_of (lst1 words place) → found ++ waits_from (9 - place) place distance words ≡ whole → more ++ waits_from (9 - (place + 1)) (place + 1) next words ≡ whole
one place distance words found more whole next within some made is rest =
    let left : 9 - place ≡ suc (9 - (place + 1)) = omega arith in
    ap (λ (l : List Waiting). l ++ waits_from (9 - (place + 1)) (place + 1) next words) made
    ∙ ap (λ (n : ℕ). (found ++ wait_at place distance words ∷ []) ++ waits_from (9 - (place + 1)) (place + 1) n words) is
    ∙ append_assoc found (wait_at place distance words ∷ []) (waits_from (9 - (place + 1)) (place + 1) (distance + gap_of (lst1 words place)) words)
    ∙ ap (λ (l : List Waiting). found ++ l) (sym (goes_on (9 - (place + 1)) place distance words some))
    ∙ ap (λ (n : ℕ). found ++ waits_from n place distance words) (sym left) ∙ rest
