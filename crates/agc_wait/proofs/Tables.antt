-- What words that carry a list of tasks read as.
use Rattle.std.proofs.Common.{◌≡◌, ◌≢◌, ℕ, zero, suc, ◌+◌, ◌<◌, ◌≤◌, List, [], ◌∷◌, drop, length, slice_index, refl, ap, sym, subst, ◌⊎◌, ◌∙◌, inl, inr, arith}
use Rattle.std.specs.List.{All}
use Rattle.std.proofs.lemmas.Bool.{cases_eq, cases_lt}
use Rattle.std.proofs.lemmas.List.{get_or_past, drop_all, drop_more}
use Rattle.std.proofs.lemmas.List.Elements.{All-get_or, All-from_get_or}
use Rattle.std.proofs.lemmas.Grind.{common_steps}
use Rattle.agc_plan.specs.Tasks.{Waiting}
use Rattle.agc_wait.specs.Table.{blank_gap, InTable, waits_of, waits_from, time3, lst1, at_in, bank_in, gap_of, IsLawfulTable}
use Rattle.agc_wait.specs.Parts.{distance_of}
use Rattle.agc_wait.specs.Writing.{place_in, no_task}

-- the words hold these tasks, at most nine and none further than the longest delay, and all else in
-- the table is blank
pub record Carries (words : List ℕ) (waits : List Waiting) : Type 0 where
  pub word : (i : ℕ) → InTable i → slice_index words i < 32768
  pub nine : length waits ≤ 9
  pub at : (k : ℕ) → k < 9 → at_in words k ≡ (place_in waits k).task.at
  pub bank : (k : ℕ) → k < 9 → bank_in words k ≡ (place_in waits k).task.bank
  pub low : (k : ℕ) → k < length waits → 1 ≤ (place_in waits k).task.at
  pub high : (k : ℕ) → (place_in waits k).task.at < 16384
  pub counter : time3 words < 16384
  pub idle : waits ≡ [] → time3 words ≡ 0
  pub first : distance_of (time3 words) ≡ (place_in waits 0).distance
  pub next : (k : ℕ) → k + 1 < length waits → (place_in waits (k + 1)).distance ≡ (place_in waits k).distance + gap_of (lst1 words k)
  pub gaps : (k : ℕ) → k + 1 < length waits → (lst1 words k ≤ 1) ⊎ (16384 ≤ lst1 words k)
  pub rest : (k : ℕ) → length waits ≤ k + 1 → k < 8 → lst1 words k ≡ blank_gap
  pub near : (k : ℕ) → (place_in waits k).distance ≤ 16250

-- place k and those after it
waits_from-carried : (left k : ℕ) (words : List ℕ) (waits : List Waiting) → Carries words waits → k + left ≡ 9 → (distance : ℕ) → (k < length waits → distance ≡ (place_in waits k).distance) → waits_from left k distance words ≡ drop k waits
waits_from-carried zero k words waits carries end distance is =
    let nine : length waits ≤ 9 = carries.nine in
    sym (drop_all k waits (omega arith))
waits_from-carried (suc left) k words waits carries end distance is = elim (cases_lt k (length waits)) [
  | inl lt ↦
      let at : at_in words k ≡ (place_in waits k).task.at = carries.at k (omega arith) in
      let bank : bank_in words k ≡ (place_in waits k).task.bank = carries.bank k (omega arith) in
      let low : 1 ≤ (place_in waits k).task.at = carries.low k lt in
      let here : distance ≡ (place_in waits k).distance = is lt in
      let apart : at_in words k ≢ 0 = λ e. omega arith in
      let rest : waits_from left (k + 1) (distance + gap_of (lst1 words k)) words ≡ drop (k + 1) waits =
      waits_from-carried left (k + 1) words waits carries (omega arith) (distance + gap_of (lst1 words k)) (λ more. ap (λ d. d + gap_of (lst1 words k)) here ∙ sym (carries.next k more)) in
      let open_up : waits_from (suc left) k distance words ≡ (record { task = record { at = at_in words k; bank = bank_in words k }; distance = distance } ∷ waits_from left (k + 1) (distance + gap_of (lst1 words k)) words) = grind (arith, common_steps) in
      open_up ∙ rw (rest, at, bank, here) (sym (drop_more waits k no_task lt))
  | inr past ↦
      let at : at_in words k ≡ (place_in waits k).task.at = carries.at k (omega arith) in
      let none : place_in waits k ≡ no_task = get_or_past waits k no_task past in
      let empty : at_in words k ≡ 0 = at ∙ ap (λ (w : Waiting). w.task.at) none in
      let shut : waits_from (suc left) k distance words ≡ [] = grind (arith, common_steps) in
      shut ∙ sym (drop_all k waits past)
]

-- what words carry is what is read from them
pub waits_of-carried : (words : List ℕ) (waits : List Waiting) → Carries words waits → waits_of words ≡ waits
unfolding waits_of
waits_of-carried words waits carries =
    waits_from-carried 9 0 words waits carries refl (distance_of (time3 words)) (λ some. carries.first)

-- so the table is in order
pub IsLawfulTable-carried : (words : List ℕ) (waits : List Waiting) → Carries words waits → IsLawfulTable words
IsLawfulTable-carried words waits carries =
    let is : waits_of words ≡ waits = waits_of-carried words waits carries in
    let long : length (waits_of words) ≡ length waits = ap (λ (l : List Waiting). length l) is in
    record {
      word = carries.word;
      counter = carries.counter;
      idle = λ none. carries.idle (sym is ∙ none);
      near = subst (All (λ (w : Waiting). w.distance ≤ 16250)) (sym is) (All-from_get_or (λ (w : Waiting). w.distance ≤ 16250) waits no_task (λ k lt. carries.near k));
      address = λ k lt. let at : at_in words k ≡ (place_in waits k).task.at = carries.at k lt in let high : (place_in waits k).task.at < 16384 = carries.high k in omega arith;
      gap = λ k lt. carries.gaps k (omega arith);
      no_gap = λ k le lt. carries.rest k (omega arith) lt;
      no_task = λ k le lt.
          let none : place_in waits k ≡ no_task = get_or_past waits k no_task (omega arith) in
          (carries.at k lt ∙ ap (λ (w : Waiting). w.task.at) none, carries.bank k lt ∙ ap (λ (w : Waiting). w.task.bank) none);
    }

-- what is read from place k on: so many tasks at most, the first at this distance
record Reads (left k distance : ℕ) (words : List ℕ) (waits : List Waiting) : Type 0 where
  short : length waits ≤ left
  first : 1 ≤ length waits → (place_in waits 0).distance ≡ distance
  at : (j : ℕ) → j < length waits → at_in words (k + j) ≡ (place_in waits j).task.at
  bank : (j : ℕ) → j < length waits → bank_in words (k + j) ≡ (place_in waits j).task.bank
  low : (j : ℕ) → j < length waits → 1 ≤ at_in words (k + j)
  next : (j : ℕ) → j + 1 < length waits → (place_in waits (j + 1)).distance ≡ (place_in waits j).distance + gap_of (lst1 words (k + j))
  end : length waits < left → at_in words (k + length waits) ≡ 0

Reads-none : (left k distance : ℕ) (words : List ℕ) → (0 < left → at_in words k ≡ 0) → Reads left k distance words []
Reads-none left k distance words none = record {
  short = omega arith;
  first = λ lt. absurd (omega arith);
  at = λ j lt. absurd (omega arith);
  bank = λ j lt. absurd (omega arith);
  low = λ j lt. absurd (omega arith);
  next = λ j lt. absurd (omega arith);
  end = λ lt. ap (at_in words) (let s : k + 0 ≡ k = omega arith in s) ∙ none lt;
}

Reads-more : (left k distance : ℕ) (words : List ℕ) (waits : List Waiting) → 1 ≤ at_in words k → Reads left (k + 1) (distance + gap_of (lst1 words k)) words waits → Reads (suc left) k distance words (record { task = record { at = at_in words k; bank = bank_in words k }; distance = distance } ∷ waits)
Reads-more left k distance words waits some more =
    let w : Waiting = record { task = record { at = at_in words k; bank = bank_in words k }; distance = distance } in
    record {
      short = let s : length waits ≤ left = more.short in omega arith;
      first = λ lt. refl;
      at = at;
      bank = bank;
      low = low;
      next = next;
      end = λ lt. ap (at_in words) (let s : k + suc (length waits) ≡ k + 1 + length waits = omega arith in s) ∙ more.end (omega arith);
    }
  where
    first : Waiting
    first = record { task = record { at = at_in words k; bank = bank_in words k }; distance = distance }

    start : k + 0 ≡ k
    start = omega arith

    moved : (j : ℕ) → k + suc j ≡ k + 1 + j
    moved j = omega arith

    at : (j : ℕ) → j < length (first ∷ waits) → at_in words (k + j) ≡ (place_in (first ∷ waits) j).task.at
    at zero lt = ap (at_in words) start
    at (suc j) lt = ap (at_in words) (moved j) ∙ more.at j (omega arith)

    bank : (j : ℕ) → j < length (first ∷ waits) → bank_in words (k + j) ≡ (place_in (first ∷ waits) j).task.bank
    bank zero lt = ap (bank_in words) start
    bank (suc j) lt = ap (bank_in words) (moved j) ∙ more.bank j (omega arith)

    low : (j : ℕ) → j < length (first ∷ waits) → 1 ≤ at_in words (k + j)
    low zero lt = subst (λ (n : ℕ). 1 ≤ at_in words n) (sym start) some
    low (suc j) lt = subst (λ (n : ℕ). 1 ≤ at_in words n) (sym (moved j)) (more.low j (omega arith))

    next : (j : ℕ) → j + 1 < length (first ∷ waits) → (place_in (first ∷ waits) (j + 1)).distance ≡ (place_in (first ∷ waits) j).distance + gap_of (lst1 words (k + j))
    next zero lt = more.first (omega arith) ∙ ap (λ (n : ℕ). distance + gap_of (lst1 words n)) (sym start)
    next (suc j) lt =
        ap (λ (n : ℕ). (place_in (first ∷ waits) n).distance) (let s : suc j + 1 ≡ suc (j + 1) = omega arith in s)
        ∙ more.next j (omega arith) ∙ ap (λ (n : ℕ). (place_in waits j).distance + gap_of (lst1 words n)) (sym (moved j))

reads : (left k distance : ℕ) (words : List ℕ) → Reads left k distance words (waits_from left k distance words)
reads zero k distance words = Reads-none zero k distance words (λ lt. absurd (omega arith))
reads (suc left) k distance words = elim (cases_eq (at_in words k) 0) [
  | inl none ↦
      let shut : waits_from (suc left) k distance words ≡ [] = grind (arith, common_steps) in
      subst (Reads (suc left) k distance words) (sym shut) (Reads-none (suc left) k distance words (λ lt. none))
  | inr some ↦
      let open_up : waits_from (suc left) k distance words ≡ (record { task = record { at = at_in words k; bank = bank_in words k }; distance = distance } ∷ waits_from left (k + 1) (distance + gap_of (lst1 words k)) words) = grind (arith, common_steps) in
      subst (Reads (suc left) k distance words) (sym open_up) (Reads-more left k distance words (waits_from left (k + 1) (distance + gap_of (lst1 words k)) words) (omega arith) (reads left (k + 1) (distance + gap_of (lst1 words k)) words))
]

reads-all : (words : List ℕ) → Reads 9 0 (distance_of (time3 words)) words (waits_of words)
unfolding waits_of
reads-all words = reads 9 0 (distance_of (time3 words)) words

-- how any words are read
pub record IsRead (words : List ℕ) : Type 0 where
  pub short : length (waits_of words) ≤ 9
  pub some : (k : ℕ) → k < length (waits_of words) → 1 ≤ at_in words k
  pub end : length (waits_of words) < 9 → at_in words (length (waits_of words)) ≡ 0
  pub first : 0 < length (waits_of words) → (place_in (waits_of words) 0).distance ≡ distance_of (time3 words)
  pub next : (k : ℕ) → k + 1 < length (waits_of words) → (place_in (waits_of words) (k + 1)).distance ≡ (place_in (waits_of words) k).distance + gap_of (lst1 words k)

pub read_as : (words : List ℕ) → IsRead words
read_as words =
    let r : Reads 9 0 (distance_of (time3 words)) words (waits_of words) = reads-all words in
    record {
      short = r.short;
      some = λ k lt. subst (λ (n : ℕ). 1 ≤ at_in words n) (zero_plus k) (r.low k lt);
      end = λ lt. ap (at_in words) (sym (zero_plus (length (waits_of words)))) ∙ r.end lt;
      first = λ lt. r.first (omega arith);
      next = λ k lt. r.next k lt ∙ ap (λ (n : ℕ). (place_in (waits_of words) k).distance + gap_of (lst1 words n)) (zero_plus k);
    }
  where
    zero_plus : (k : ℕ) → 0 + k ≡ k
    zero_plus k = omega arith

-- words in order carry what is read from them
pub Carries-lawful : (words : List ℕ) → IsLawfulTable words → Carries words (waits_of words)
Carries-lawful words lawful =
    let r : Reads 9 0 (distance_of (time3 words)) words (waits_of words) = reads-all words in
    record {
      word = lawful.word;
      nine = r.short;
      at = at;
      bank = bank;
      low = low;
      high = high;
      counter = lawful.counter;
      idle = lawful.idle;
      first = first (waits_of words) refl;
      next = λ k lt. r.next k lt ∙ ap (λ (n : ℕ). (place_in (waits_of words) k).distance + gap_of (lst1 words n)) (sym (zero_plus k));
      gaps = lawful.gap;
      rest = lawful.no_gap;
      near = near;
    }
  where
    zero_plus : (k : ℕ) → k ≡ 0 + k
    zero_plus k = omega arith

    past : (k : ℕ) → length (waits_of words) ≤ k → place_in (waits_of words) k ≡ no_task
    past k le = get_or_past (waits_of words) k no_task le

    at : (k : ℕ) → k < 9 → at_in words k ≡ (place_in (waits_of words) k).task.at
    at k lt = elim (cases_lt k (length (waits_of words))) [
      | inl some ↦ ap (at_in words) (zero_plus k) ∙ (reads-all words).at k some
      | inr none ↦ (lawful.no_task k none lt).0 ∙ sym (ap (λ (w : Waiting). w.task.at) (past k none))
    ]

    bank : (k : ℕ) → k < 9 → bank_in words k ≡ (place_in (waits_of words) k).task.bank
    bank k lt = elim (cases_lt k (length (waits_of words))) [
      | inl some ↦ ap (bank_in words) (zero_plus k) ∙ (reads-all words).bank k some
      | inr none ↦ (lawful.no_task k none lt).1 ∙ sym (ap (λ (w : Waiting). w.task.bank) (past k none))
    ]

    low : (k : ℕ) → k < length (waits_of words) → 1 ≤ (place_in (waits_of words) k).task.at
    low k lt =
        let is : at_in words (0 + k) ≡ (place_in (waits_of words) k).task.at = (reads-all words).at k lt in
        let some : 1 ≤ at_in words (0 + k) = (reads-all words).low k lt in
        omega arith

    high : (k : ℕ) → (place_in (waits_of words) k).task.at < 16384
    high k = elim (cases_lt k (length (waits_of words))) [
      | inl some ↦
          let nine : length (waits_of words) ≤ 9 = (reads-all words).short in
          let is : at_in words k ≡ (place_in (waits_of words) k).task.at = at k (omega arith) in
          let low : at_in words k < 16384 = lawful.address k (omega arith) in
          omega arith
      | inr none ↦ let is : (place_in (waits_of words) k).task.at ≡ 0 = ap (λ (w : Waiting). w.task.at) (past k none) in omega arith
    ]

    near : (k : ℕ) → (place_in (waits_of words) k).distance ≤ 16250
    near k = elim (cases_lt k (length (waits_of words))) [
      | inl some ↦ All-get_or (λ (w : Waiting). w.distance ≤ 16250) (waits_of words) k no_task some lawful.near
      | inr none ↦ let is : (place_in (waits_of words) k).distance ≡ 0 = ap (λ (w : Waiting). w.distance) (past k none) in omega arith
    ]

    first : (ws : List Waiting) → ws ≡ waits_of words → distance_of (time3 words) ≡ (place_in (waits_of words) 0).distance
    first [] is = ap distance_of (lawful.idle (sym is)) ∙ ap (λ (l : List Waiting). (place_in l 0).distance) is
    first (w ∷ ws) is =
        let long : length (w ∷ ws) ≡ length (waits_of words) = ap (λ (l : List Waiting). length l) is in
        sym ((reads-all words).first (omega arith))
