-- Ranks: the greatest is the best job's, or the first sleeper's.
use Rattle.std.proofs.Common.{◌≡◌, ◌≢◌, ◌⊎◌, ℕ, ◌+◌, ◌-◌, ◌*◌, ◌%◌, ◌<◌, ◌≤◌, ◌==◌, nat_lt, cond, Bool, true, false, List, Option, Some, None, length, slice_index, slice_index_or, slice_set, is_some, replicate, refl, ap, sym, ◌∙◌, inl, inr, arith}
use Rattle.std.proofs.lemmas.Bool.{cases_Bool, cases_eq, cases_lt}
use Rattle.std.proofs.lemmas.List.{get_or-set_same, get_or-set_other, get_or-replicate, length-set}
use Rattle.std.proofs.lemmas.Option.{same_Some}
use Rattle.std.proofs.lemmas.Grind.{common_steps}
use Rattle.agc_word.specs.Layout.{sets_in, set_place, area_of}
use Rattle.agc_word.specs.Words.{complement}
use Rattle.agc_plan.specs.Jobs.{Job, is_sleeper}
use Rattle.agc_exec.specs.HeldJob.{HeldJob}
use Rattle.agc_exec.specs.Blocks.{block_in}
use Rattle.agc_exec.specs.Image.{minus_zero, priority_unit, record_of, held_by, held_of, sets_of}
use Rattle.agc_exec.specs.Stages.{sign}
use Rattle.agc_exec.specs.Sets.{job_of, job_numbered, number_in, Holds, IsLawful}
use Rattle.agc_exec.specs.Stages.{sleeper_rank, IsMost, IsSleeperRank, IsMarked, FirstBelow, IsFirstBelow}
use Rattle.agc_exec.proofs.Decoding.{held_at, length-sets}
use Rattle.agc_exec.proofs.Slots.{job_numbered-none, None-job_numbered}
use Rattle.agc_exec.proofs.Swaps.{Holds-within}
use Rattle.agc_exec.proofs.Reading.{get-block_in}

-- what a set holds, by its PRIORITY word
pub at_words : (words : List ℕ) (k : ℕ) → k < sets_in words → slice_index_or (sets_of words) k None ≡ held_by (block_in words k) (slice_index words (set_place k + 11))
unfolding held_of
at_words words k lt = sym (held_at words k None lt) ∙ ap (held_by (block_in words k)) (get-block_in words k 11 0 (omega arith))

pub held_by-free : (block : List ℕ) (w : ℕ) → w ≡ minus_zero → held_by block w ≡ None
held_by-free block w e = rw e

pub held_by-awake : (block : List ℕ) (w : ℕ) → w < sign → held_by block w ≡ Some (record_of block w false)
held_by-awake block w lt =
    let z : (w == 32767) ≡ false = grind (arith, common_steps) in
    let y : nat_lt w 16384 ≡ true = grind (arith, common_steps) in
    rw (z, y)

pub held_by-asleep : (block : List ℕ) (w : ℕ) → sign ≤ w → w ≢ minus_zero → held_by block w ≡ Some (record_of block (complement w) true)
held_by-asleep block w ge ne =
    let z : (w == 32767) ≡ false = grind (arith, common_steps) in
    let y : nat_lt w 16384 ≡ false = grind (arith, common_steps) in
    rw (z, y)

-- the number of a set's job is its first word
pub number_in-held : (block : List ℕ) (w : ℕ) → w ≢ minus_zero → number_in (held_by block w) ≡ slice_index block 0
number_in-held block w ne = elim (cases_lt w 16384) [
  | inl lt ↦ ap number_in (held_by-awake block w lt)
  | inr ge ↦ ap number_in (held_by-asleep block w ge ne)
]

-- a job with this PRIORITY word sleeps
pub held_asleep : (block : List ℕ) (w : ℕ) (r : HeldJob) → sign ≤ w → held_by block w ≡ Some r → r.asleep ≡ true
held_asleep block w r ge e = elim (cases_eq w 32767) [
  | inl free ↦ absurd (let no : None ≡ Some r = sym (held_by-free block w free) ∙ e in cc)
  | inr ne ↦ ap (λ h. h.asleep) (same_Some r _ (sym e ∙ held_by-asleep block w ge ne))
]

-- a living job's number, as its set's first word
pub lives_number : (words : List ℕ) (k : ℕ) → IsLawful (sets_of words) → k < sets_in words → slice_index words (set_place k + 11) ≢ minus_zero → (1 ≤ slice_index words (set_place k + 0)) × (slice_index words (set_place k + 0) ≤ sets_in words)
lives_number words k lawful lt ne =
    let len : length (sets_of words) ≡ sets_in words = length-sets words in
    let first : number_in (slice_index_or (sets_of words) k None) ≡ slice_index words (set_place k + 0) = ap number_in (at_words words k lt) ∙ number_in-held (block_in words k) (slice_index words (set_place k + 11)) ne ∙ get-block_in words k 0 0 (omega arith) in
    let (r, at) = lives in
    let number : r.number ≡ slice_index words (set_place k + 0) = sym (ap number_in at) ∙ first in
    let low : 1 ≤ r.number = lawful.low k r at in
    let high : r.number ≤ length (sets_of words) = lawful.high k r at in
    (omega arith, omega arith)
  where
    lives : (r : HeldJob) × Holds (sets_of words) k r
    lives = elim (cases_lt (slice_index words (set_place k + 11)) 16384) [
      | inl awake ↦ (record_of (block_in words k) (slice_index words (set_place k + 11)) false, at_words words k lt ∙ held_by-awake (block_in words k) (slice_index words (set_place k + 11)) awake)
      | inr asleep ↦ (record_of (block_in words k) (complement (slice_index words (set_place k + 11))) true, at_words words k lt ∙ held_by-asleep (block_in words k) (slice_index words (set_place k + 11)) asleep ne)
    ]

-- one more number
pub IsMost-more : (f : ℕ → ℕ) (n most next : ℕ) → next ≡ f n → IsMost f n most → IsMost f (n + 1) (cond (nat_lt most next) next most)
IsMost-more f n most next e h = elim (cases_lt most next) [
  | inl lt ↦
      let yes : nat_lt most next ≡ true = grind (arith, common_steps) in
      rw yes (record {
        bound = λ j lt_j. elim (cases_eq j n) [ inl same ↦ rw same (omega arith) | inr ne ↦ let b : f j ≤ most = h.bound j (omega arith) in omega arith ];
        found = inr (n, omega arith, e);
      })
  | inr ge ↦
      let no : nat_lt most next ≡ false = grind (arith, common_steps) in
      rw no (record {
        bound = λ j lt_j. elim (cases_eq j n) [ inl same ↦ rw same (omega arith) | inr ne ↦ h.bound j (omega arith) ];
        found = elim h.found [ inl z ↦ inl z | inr (j, lt_j, at) ↦ inr (j, omega arith, at) ];
      })
]

sleeper_rank-is : (at k : ℕ) (o : Option HeldJob) (r : HeldJob) → o ≡ Some r → is_sleeper at (job_of r) ≡ true → sleeper_rank at k o ≡ 8 * (9 - r.number) + k
sleeper_rank-is at k o r e a = rw (e, a)

-- with greatest rank 0 nobody sleeps there
pub first_nobody : (sets : List (Option HeldJob)) (at first : ℕ) → IsLawful sets → length sets ≤ 8 → IsSleeperRank sets at (length sets) first → first ≡ 0 → FirstBelow sets at (length sets) None
first_nobody sets at first lawful few is zero_is j s lt here = elim (cases_Bool (is_sleeper at (job_of s))) [
  | inl sleeps ↦
      let high : s.number ≤ length sets = lawful.high j s here in
      let rank : sleeper_rank at j (slice_index_or sets j None) ≡ 8 * (9 - s.number) + j = sleeper_rank-is at j (slice_index_or sets j None) s here sleeps in
      let bound : sleeper_rank at j (slice_index_or sets j None) ≤ first = is.bound j lt in
      absurd (omega arith)
  | inr no_sleeper ↦ no_sleeper
]

-- the set of the least-numbered sleeper, by its rank
pub first_found : (sets : List (Option HeldJob)) (at first : ℕ) → IsLawful sets → length sets ≤ 8 → IsSleeperRank sets at (length sets) first → 0 < first → (r : HeldJob) × IsFirstBelow sets at (length sets) (first % 8) r
first_found sets at first lawful few is positive = elim is.found [
  | inl z ↦ absurd (omega arith)
  | inr (j, lt, found) ↦ go j lt (slice_index_or sets j None) refl found
] where
  by : (j : ℕ) (r : HeldJob) → j < length sets → Holds sets j r → first ≡ sleeper_rank at j (Some r) → (b : Bool) → is_sleeper at (job_of r) ≡ b → (r : HeldJob) × IsFirstBelow sets at (length sets) (first % 8) r
  by j r lt here found false sleeps = let none : first ≡ 0 = rw sleeps at found in absurd (omega arith)
  by j r lt here found true sleeps =
      let is_rank : first ≡ 8 * (9 - r.number) + j = rw sleeps at found in
      let place : first % 8 ≡ j = omega arith in (
        r,
        rw place (record {
          here = here;
          sleeps = sleeps;
          first = λ i s lt_i here_i sleeps_i.
              let rank : sleeper_rank at i (slice_index_or sets i None) ≡ 8 * (9 - s.number) + i = sleeper_rank-is at i (slice_index_or sets i None) s here_i sleeps_i in
              let bound : sleeper_rank at i (slice_index_or sets i None) ≤ first = is.bound i lt_i in
              let high_r : r.number ≤ length sets = lawful.high j r here in
              let high_s : s.number ≤ length sets = lawful.high i s here_i in
              omega arith;
        }),
      )

  go : (j : ℕ) → j < length sets → (o : Option HeldJob) → slice_index_or sets j None ≡ o → first ≡ sleeper_rank at j o → (r : HeldJob) × IsFirstBelow sets at (length sets) (first % 8) r
  go j lt None e found = absurd (omega arith)
  go j lt (Some r) e found = by j r lt e found (is_sleeper at (job_of r)) refl

-- the rank of a sleeper, by its words
pub sleeper_rank-words : (words : List ℕ) (at k : ℕ) → k < sets_in words → slice_index words (set_place k + 8) ≡ at → sign ≤ slice_index words (set_place k + 11) → slice_index words (set_place k + 11) ≢ minus_zero → sleeper_rank at k (slice_index_or (sets_of words) k None) ≡ 8 * (9 - slice_index words (set_place k + 0)) + k
sleeper_rank-words words at k lt loc asleep ne =
    let loc_is : slice_index (block_in words k) 8 ≡ at = get-block_in words k 8 0 (omega arith) ∙ loc in
    let there : (slice_index (block_in words k) 8 == at) ≡ true = grind (arith, common_steps) in
    sleeper_rank-is at k (slice_index_or (sets_of words) k None) (record_of (block_in words k) (complement (slice_index words (set_place k + 11))) true) (at_words words k lt ∙ held_by-asleep (block_in words k) (slice_index words (set_place k + 11)) asleep ne) there
    ∙ ap (λ n. 8 * (9 - n) + k) (get-block_in words k 0 0 (omega arith))

-- with another LOC
pub sleeper_rank-elsewhere : (words : List ℕ) (at k : ℕ) → k < sets_in words → slice_index words (set_place k + 8) ≢ at → sleeper_rank at k (slice_index_or (sets_of words) k None) ≡ 0
sleeper_rank-elsewhere words at k lt ne =
    ap (sleeper_rank at k) (at_words words k lt) ∙ go (slice_index words (set_place k + 11))
  where
    other : (slice_index (block_in words k) 8 == at) ≡ false
    other = let loc_is : slice_index (block_in words k) 8 ≡ slice_index words (set_place k + 8) = get-block_in words k 8 0 (omega arith) in grind (arith, common_steps)

    go : (w : ℕ) → sleeper_rank at k (held_by (block_in words k) w) ≡ 0
    go w = elim (cases_eq w 32767) [
      | inl free ↦ ap (sleeper_rank at k) (held_by-free (block_in words k) w free)
      | inr lives ↦ elim (cases_lt w 16384) [
        | inl awake ↦ ap (sleeper_rank at k) (held_by-awake (block_in words k) w awake)
        | inr asleep ↦ ap (sleeper_rank at k) (held_by-asleep (block_in words k) w asleep lives) ∙ rw other
      ]
    ]

-- with PRIORITY of a free set, or of an awake job
pub sleeper_rank-none : (words : List ℕ) (at k : ℕ) → k < sets_in words → (slice_index words (set_place k + 11) < sign) ⊎ (slice_index words (set_place k + 11) ≡ minus_zero) → sleeper_rank at k (slice_index_or (sets_of words) k None) ≡ 0
sleeper_rank-none words at k lt (inl awake) = ap (sleeper_rank at k) (at_words words k lt ∙ held_by-awake (block_in words k) (slice_index words (set_place k + 11)) awake)
sleeper_rank-none words at k lt (inr free) = ap (sleeper_rank at k) (at_words words k lt ∙ held_by-free (block_in words k) (slice_index words (set_place k + 11)) free)

-- a set with entry 0 is free
pub free_entry : (sets : List (Option HeldJob)) (k : ℕ) → IsLawful sets → number_in (slice_index_or sets k None) ≡ 0 → slice_index_or sets k None ≡ None
free_entry sets k lawful zero_is = go (slice_index_or sets k None) refl zero_is where
  go : (o : Option HeldJob) → slice_index_or sets k None ≡ o → number_in o ≡ 0 → o ≡ None
  go None e z = refl
  go (Some r) e z = let low : 1 ≤ r.number = lawful.low k r e in absurd (omega arith)

-- and one with another entry isn't
pub held_entry : (sets : List (Option HeldJob)) (k : ℕ) → number_in (slice_index_or sets k None) ≢ 0 → slice_index_or sets k None ≢ None
held_entry sets k ne e = ne (ap number_in e)

-- the number of an entry is in range
pub entry_range : (sets : List (Option HeldJob)) (k : ℕ) → IsLawful sets → number_in (slice_index_or sets k None) ≤ length sets
entry_range sets k lawful = go (slice_index_or sets k None) refl where
  go : (o : Option HeldJob) → slice_index_or sets k None ≡ o → number_in o ≤ length sets
  go None e = omega arith
  go (Some r) e = lawful.high k r e

-- one more number is marked
pub IsMarked-more : (sets : List (Option HeldJob)) (n number : ℕ) (used : List Bool) → number ≡ number_in (slice_index_or sets n None) → number < 9 → IsMarked sets n used → IsMarked sets (n + 1) (slice_set used number true)
IsMarked-more sets n number used is lt m = record {
  nine = length-set used number true ∙ m.nine;
  marked = λ j lt_j. elim (cases_eq (number_in (slice_index_or sets j None)) number) [
    | inl same ↦ rw same (get_or-set_same used number true false (let e : length used ≡ 9 = m.nine in omega arith))
    | inr ne ↦ elim (cases_eq j n) [
      | inl at_n ↦ absurd (ne (ap (λ i. number_in (slice_index_or sets i None)) at_n ∙ sym is))
      | inr before ↦ get_or-set_other used number (number_in (slice_index_or sets j None)) true false ne ∙ m.marked j (omega arith)
    ]
  ];
  only = λ other lt_other yes_used. elim (cases_eq other number) [
    | inl same ↦ (n, omega arith, sym is ∙ sym same)
    | inr ne ↦
        let (j, lt_j, at) = m.only other lt_other (sym (get_or-set_other used number other true false ne) ∙ yes_used) in
        (j, omega arith, at)
  ];
}

pub IsMarked-none : (sets : List (Option HeldJob)) → IsMarked sets 0 (replicate 9 false)
IsMarked-none sets = record {
  nine = refl;
  marked = λ j lt. absurd (omega arith);
  only = λ number lt yes_used. absurd (let no : false ≡ true = sym (get_or-replicate 9 number false false lt) ∙ yes_used in cc);
}

-- a number that is marked is a job's, and one that isn't is nobody's
pub marked_used : (sets : List (Option HeldJob)) (used : List Bool) (number : ℕ) → 1 ≤ number → number < 9 → IsMarked sets (length sets) used → slice_index_or used number false ≡ true → is_some (job_numbered sets number) ≡ true
marked_used sets used number low lt m yes_used =
    let (j, lt_j, at) = m.only number lt yes_used in
    go j at (slice_index_or sets j None) refl (job_numbered sets number) refl
  where
    go : (j : ℕ) → number_in (slice_index_or sets j None) ≡ number → (o : Option HeldJob) → slice_index_or sets j None ≡ o → (found : Option Job) → job_numbered sets number ≡ found → is_some found ≡ true
    go j at None e found f = absurd (let z : number_in (slice_index_or sets j None) ≡ 0 = ap number_in e in omega arith)
    go j at (Some r) e None f = absurd (None-job_numbered sets number f j r e (sym (ap number_in e) ∙ at))
    go j at (Some r) e (Some job) f = refl

pub unmarked_unused : (sets : List (Option HeldJob)) (used : List Bool) (number : ℕ) → IsMarked sets (length sets) used → slice_index_or used number false ≡ false → job_numbered sets number ≡ None
unmarked_unused sets used number m no_used = job_numbered-none sets number (λ i r at same.
    let marked : slice_index_or used (number_in (slice_index_or sets i None)) false ≡ true = m.marked i (Holds-within sets i r at) in
    let is : number_in (slice_index_or sets i None) ≡ number = ap number_in at ∙ same in
    let no : true ≡ false = sym marked ∙ ap (λ n. slice_index_or used n false) is ∙ no_used in
    cc)

-- the area of an awake job in set 0, by its PRIORITY word
pub front_area_word : (words : List ℕ) (job : HeldJob) → 0 < sets_in words → Holds (sets_of words) 0 job → job.asleep ≡ false → area_of (slice_index words (set_place 0 + 11) % priority_unit) ≡ job.area
front_area_word words job lt here awake = elim (cases_lt (slice_index words (set_place 0 + 11)) 16384) [
  | inl low ↦ ap (λ h. h.area) (same_Some _ job (sym (held_by-awake (block_in words 0) (slice_index words (set_place 0 + 11)) low) ∙ sym (at_words words 0 lt) ∙ here))
  | inr high ↦ absurd (let sleeps : job.asleep ≡ true = held_asleep (block_in words 0) (slice_index words (set_place 0 + 11)) job high (sym (at_words words 0 lt) ∙ here) in let no : true ≡ false = sym sleeps ∙ awake in cc)
]
