-- What the tests of words that come from outside find.
use Rattle.std.proofs.Common.{◌≡◌, ◌≢◌, ℕ, zero, suc, ◌∷◌, ◌+◌, ◌/◌, ◌%◌, ◌<◌, ◌≤◌, ◌==◌, nat_lt, true, false, List, [], Option, Some, None, length, slice_index, slice_index_or, refl, ap, sym, ◌∙◌, inl, inr, arith}
use Rattle.std.proofs.lemmas.Bool.{cases_eq, cases_lt}
use Rattle.std.proofs.lemmas.Option.{same_Some}
use Rattle.std.proofs.lemmas.Grind.{common_steps}
use Rattle.agc_word.specs.Layout.{IsSized, sets_in, set_place, area_of}
use Rattle.agc_word.specs.Words.{complement}
use Rattle.agc_exec.specs.HeldJob.{HeldJob}
use Rattle.agc_exec.specs.Blocks.{block_in, blocks_of}
use Rattle.agc_exec.specs.Image.{minus_zero, record_of, held_by, sets_of, IsCoded, IsSet}
use Rattle.agc_exec.specs.Stages.{sign}
use Rattle.agc_exec.specs.Sets.{number_in, Holds, IsFronted, running_in}
use Rattle.agc_exec.specs.Stages.{unsigned, AreSound, IsSoundAt, AreSoundSets, area_held, AllApart, NobodyAwake, FrontRuns, owned_in}
use Rattle.agc_exec.proofs.Bests.{running_in-awake}
use Rattle.agc_exec.proofs.Decoding.{held_at, length-sets, urgency_word-parts}
use Rattle.agc_exec.proofs.Ranks.{at_words, held_by-free, held_by-awake, held_by-asleep, held_asleep}
use Rattle.agc_exec.proofs.Reading.{length-block_in, length-blocks_of, get-block_in, get-blocks_of}
use Rattle.agc_exec.proofs.Swaps.{Holds-within}
use Rattle.agc_exec.proofs.Turning.{block_held}

unsigned-low : (w : ℕ) → w < sign → unsigned w ≡ w
unsigned-low w lt = let y : nat_lt w 16384 ≡ true = grind (arith, common_steps) in rw y

unsigned-high : (w : ℕ) → sign ≤ w → unsigned w ≡ complement w
unsigned-high w ge = let y : nat_lt w 16384 ≡ false = grind (arith, common_steps) in rw y

-- the area of a set's job, by its PRIORITY word
pub area_held-word : (block : List ℕ) (w : ℕ) → w ≢ minus_zero → area_held (held_by block w) ≡ area_of (unsigned w % 512)
area_held-word block w ne = elim (cases_lt w 16384) [
  | inl lt ↦ ap area_held (held_by-awake block w lt) ∙ ap (λ u. area_of (u % 512)) (sym (unsigned-low w lt))
  | inr ge ↦ ap area_held (held_by-asleep block w ge ne) ∙ ap (λ u. area_of (u % 512)) (sym (unsigned-high w ge))
]

-- what a job's words are
pub record IsJob (sets : ℕ) (block : List ℕ) (r : HeldJob) : Type 0 where
  pub coded : IsCoded block r
  pub low : 1 ≤ r.number
  pub high : r.number ≤ sets

awake_job : (words : List ℕ) (k : ℕ) → let w = slice_index words (set_place k + 11) in w < sign → AreSound (sets_in words) (slice_index words (set_place k + 0)) (slice_index words (set_place k + 8)) w → IsJob (sets_in words) (block_in words k) (record_of (block_in words k) w false)
awake_job words k lt s =
    let number : slice_index (block_in words k) 0 ≡ slice_index words (set_place k + 0) = get-block_in words k 0 0 (omega arith) in
    let at : slice_index (block_in words k) 8 ≡ slice_index words (set_place k + 8) = get-block_in words k 8 0 (omega arith) in
    let priority : slice_index (block_in words k) 11 ≡ slice_index words (set_place k + 11) = get-block_in words k 11 0 (omega arith) in
    record {
      coded = record { twelve = length-block_in words k; word = priority ∙ (omega arith); low = omega arith; high = omega arith; five = s.five; at_low = omega arith; at_high = omega arith };
      low = omega arith;
      high = omega arith;
    }

asleep_job : (words : List ℕ) (k : ℕ) → let w = slice_index words (set_place k + 11) in sign ≤ w → AreSound (sets_in words) (slice_index words (set_place k + 0)) (slice_index words (set_place k + 8)) (complement w) → IsJob (sets_in words) (block_in words k) (record_of (block_in words k) (complement w) true)
asleep_job words k ge s =
    let number : slice_index (block_in words k) 0 ≡ slice_index words (set_place k + 0) = get-block_in words k 0 0 (omega arith) in
    let at : slice_index (block_in words k) 8 ≡ slice_index words (set_place k + 8) = get-block_in words k 8 0 (omega arith) in
    let priority : slice_index (block_in words k) 11 ≡ slice_index words (set_place k + 11) = get-block_in words k 11 0 (omega arith) in
    record {
      coded = record { twelve = length-block_in words k; word = priority ∙ (omega arith); low = omega arith; high = omega arith; five = s.five; at_low = omega arith; at_high = omega arith };
      low = omega arith;
      high = omega arith;
    }

-- a set whose words are sound is free, or its words are a job's
pub sound_job : (words : List ℕ) (k : ℕ) → k < sets_in words → IsSoundAt words k → (r : HeldJob) → Holds (sets_of words) k r → IsJob (sets_in words) (block_in words k) r
sound_job words k lt sound r here =
    let held : held_by (block_in words k) (slice_index words (set_place k + 11)) ≡ Some r = sym (at_words words k lt) ∙ here in
    elim (cases_eq (slice_index words (set_place k + 11)) 32767) [
      | inl free ↦ absurd (let no : None ≡ Some r = sym (held_by-free (block_in words k) (slice_index words (set_place k + 11)) free) ∙ held in cc)
      | inr ne ↦ elim (cases_lt (slice_index words (set_place k + 11)) 16384) [
        | inl low ↦
            let is : record_of (block_in words k) (slice_index words (set_place k + 11)) false ≡ r = same_Some _ r (sym (held_by-awake (block_in words k) (slice_index words (set_place k + 11)) low) ∙ held) in
            rw (← is) (awake_job words k low (rw (unsigned-low (slice_index words (set_place k + 11)) low) at (sound ne)))
        | inr high ↦
            let is : record_of (block_in words k) (complement (slice_index words (set_place k + 11))) true ≡ r = same_Some _ r (sym (held_by-asleep (block_in words k) (slice_index words (set_place k + 11)) high ne) ∙ held) in
            rw (← is) (asleep_job words k high (rw (unsigned-high (slice_index words (set_place k + 11)) high) at (sound ne)))
      ]
    ]

-- and the other way round
job_sound : (words : List ℕ) (k : ℕ) → k < sets_in words → ((r : HeldJob) → Holds (sets_of words) k r → IsJob (sets_in words) (block_in words k) r) → IsSoundAt words k
job_sound words k lt jobs ne =
    let number : slice_index (block_in words k) 0 ≡ slice_index words (set_place k + 0) = get-block_in words k 0 0 (omega arith) in
    let at : slice_index (block_in words k) 8 ≡ slice_index words (set_place k + 8) = get-block_in words k 8 0 (omega arith) in
    let priority : slice_index (block_in words k) 11 ≡ slice_index words (set_place k + 11) = get-block_in words k 11 0 (omega arith) in
    elim (cases_lt (slice_index words (set_place k + 11)) 16384) [
      | inl low ↦
          let job : IsJob (sets_in words) (block_in words k) (record_of (block_in words k) (slice_index words (set_place k + 11)) false) = jobs _ (at_words words k lt ∙ held_by-awake (block_in words k) (slice_index words (set_place k + 11)) low) in
          let coded : IsCoded (block_in words k) (record_of (block_in words k) (slice_index words (set_place k + 11)) false) = job.coded in
          rw (unsigned-low (slice_index words (set_place k + 11)) low) (record {
            number_low = omega arith;
            number_high = omega arith;
            at_low = omega arith;
            at_high = omega arith;
            low = omega arith;
            five = coded.five;
            address = omega arith;
          })
      | inr high ↦
          let job : IsJob (sets_in words) (block_in words k) (record_of (block_in words k) (complement (slice_index words (set_place k + 11))) true) = jobs _ (at_words words k lt ∙ held_by-asleep (block_in words k) (slice_index words (set_place k + 11)) high ne) in
          let coded : IsCoded (block_in words k) (record_of (block_in words k) (complement (slice_index words (set_place k + 11))) true) = job.coded in
          let (p, a, below) = urgency_word-parts (complement (slice_index words (set_place k + 11)) / 512) (area_of (complement (slice_index words (set_place k + 11)) % 512)) coded.five coded.high in
          rw (unsigned-high (slice_index words (set_place k + 11)) high) (record {
            number_low = omega arith;
            number_high = omega arith;
            at_low = omega arith;
            at_high = omega arith;
            low = omega arith;
            five = coded.five;
            address = omega arith;
          })
    ]

-- lawful core sets are sound
pub set_sound : (words : List ℕ) → IsSized words → IsSet words → AreSoundSets words
set_sound words all set k lt =
    let len : length (sets_of words) ≡ sets_in words = length-sets words in
    job_sound words k (omega arith) (λ r here.
    let high : r.number ≤ length (sets_of words) = set.standing.lawful.high k r here in
    record { coded = (block_held words k r set here).1; low = set.standing.lawful.low k r here; high = omega arith })

-- and share nothing
pub set_apart : (words : List ℕ) → IsSet words → AllApart (sets_of words)
set_apart words set k lt j lt_j = record {
  numbers = λ positive same. numbers (slice_index_or (sets_of words) j None) (slice_index_or (sets_of words) k None) refl refl positive same;
  areas = λ positive same. areas (slice_index_or (sets_of words) j None) (slice_index_or (sets_of words) k None) refl refl positive same;
}
  where
    numbers : (o p : Option HeldJob) → slice_index_or (sets_of words) j None ≡ o → slice_index_or (sets_of words) k None ≡ p → 0 < number_in o → number_in o ≡ number_in p → ⊥
    numbers None p at_j at_k positive same = omega arith
    numbers (Some r) None at_j at_k positive same = omega arith
    numbers (Some r) (Some s) at_j at_k positive same = let is : j ≡ k = set.standing.lawful.distinct j k r s at_j at_k same in omega arith

    areas : (o p : Option HeldJob) → slice_index_or (sets_of words) j None ≡ o → slice_index_or (sets_of words) k None ≡ p → 0 < area_held o → area_held o ≡ area_held p → ⊥
    areas None p at_j at_k positive same = omega arith
    areas (Some r) None at_j at_k positive same = omega arith
    areas (Some r) (Some s) at_j at_k positive same = let is : j ≡ k = set.standing.lawful.areas j k r s at_j at_k positive same in omega arith

-- with nobody in set 0 nobody is awake
pub set_awake : (words : List ℕ) → IsSized words → IsSet words → running_in (sets_of words) ≡ None → NobodyAwake words
set_awake words all set idle k lt = elim (cases_lt (slice_index words (set_place k + 11)) 16384) [
  | inr high ↦ high
  | inl low ↦
      let here : Holds (sets_of words) k (record_of (block_in words k) (slice_index words (set_place k + 11)) false) = at_words words k (omega arith) ∙ held_by-awake (block_in words k) (slice_index words (set_place k + 11)) low in
      let (s, at, awake) = set.standing.in_front k _ here refl in
      let no : None ≡ Some s.number = sym idle ∙ running_in-awake (sets_of words) s at awake in
      absurd (cc)
]

-- sets in which nobody is awake, or the job in set 0 is
pub fronted_runs : (sets : List (Option HeldJob)) → FrontRuns sets → IsFronted sets
fronted_runs sets runs i r at awake = runs

pub fronted_nobody : (words : List ℕ) → IsSized words → NobodyAwake words → IsFronted (sets_of words)
fronted_nobody words all nobody i r at awake =
    let lt : i < length (sets_of words) = Holds-within (sets_of words) i r at in
    let len : length (sets_of words) ≡ sets_in words = length-sets words in
    let sleeps : r.asleep ≡ true = held_asleep (block_in words i) (slice_index words (set_place i + 11)) r (nobody i (omega arith)) (sym (at_words words i (omega arith)) ∙ at) in
    let no : true ≡ false = sym sleeps ∙ awake in
    absurd (cc)

-- sound sets that share nothing, with set 0 awake where anybody is, are lawful
pub lawful_sets : (words : List ℕ) → IsSized words → AreSoundSets words → AllApart (sets_of words) → IsFronted (sets_of words) → IsSet words
lawful_sets words all sound apart fronted =
    let len : length (sets_of words) ≡ sets_in words = length-sets words in
    record {
      sized = all;
      coded = λ k lt.
          let len_blocks : length (blocks_of words) ≡ sets_in words = length-blocks_of words in
          let is : slice_index_or (blocks_of words) k [] ≡ block_in words k = get-blocks_of words k [] (omega arith) in
          rw is (λ r held. (sound_job words k (omega arith) (sound k (omega arith)) r (sym (held_at words k None (omega arith)) ∙ held)).coded);
      standing = record {
        lawful = record {
          distinct = λ i j r s at_i at_j same. distinct i j r s at_i at_j same;
          low = λ i r at. (job i r at).low;
          high = λ i r at. let high : r.number ≤ sets_in words = (job i r at).high in omega arith;
          areas = λ i j r s at_i at_j positive same. areas i j r s at_i at_j positive same;
        };
        in_front = fronted;
      };
    }
  where
    within : (i : ℕ) (r : HeldJob) → Holds (sets_of words) i r → i < sets_in words
    within i r at = let lt : i < length (sets_of words) = Holds-within (sets_of words) i r at in let len : length (sets_of words) ≡ sets_in words = length-sets words in omega arith

    job : (i : ℕ) (r : HeldJob) → Holds (sets_of words) i r → IsJob (sets_in words) (block_in words i) r
    job i r at = let lt : i < sets_in words = within i r at in sound_job words i (omega arith) (sound i lt) r at

    number : (i j : ℕ) (r s : HeldJob) → Holds (sets_of words) i r → Holds (sets_of words) j s → r.number ≡ s.number → i < j → ⊥
    number i j r s at_i at_j same lt =
        let low : 1 ≤ r.number = (job i r at_i).low in
        let x : number_in (slice_index_or (sets_of words) i None) ≡ r.number = ap number_in at_i in
        (apart j (let at : j < sets_in words = within j s at_j in let len : length (sets_of words) ≡ sets_in words = length-sets words in omega arith) i lt).numbers (omega arith) (x ∙ same ∙ sym (ap number_in at_j))

    distinct : (i j : ℕ) (r s : HeldJob) → Holds (sets_of words) i r → Holds (sets_of words) j s → r.number ≡ s.number → i ≡ j
    distinct i j r s at_i at_j same = elim (cases_lt i j) [
      | inl lt ↦ absurd (number i j r s at_i at_j same lt)
      | inr ge ↦ elim (cases_lt j i) [ inl lt ↦ absurd (number j i s r at_j at_i (sym same) lt) | inr le ↦ omega arith ]
    ]

    area : (i j : ℕ) (r s : HeldJob) → Holds (sets_of words) i r → Holds (sets_of words) j s → 0 < r.area → r.area ≡ s.area → i < j → ⊥
    area i j r s at_i at_j positive same lt =
        let x : area_held (slice_index_or (sets_of words) i None) ≡ r.area = ap area_held at_i in
        (apart j (let at : j < sets_in words = within j s at_j in let len : length (sets_of words) ≡ sets_in words = length-sets words in omega arith) i lt).areas (omega arith) (x ∙ same ∙ sym (ap area_held at_j))

    areas : (i j : ℕ) (r s : HeldJob) → Holds (sets_of words) i r → Holds (sets_of words) j s → 0 < r.area → r.area ≡ s.area → i ≡ j
    areas i j r s at_i at_j positive same = elim (cases_lt i j) [
      | inl lt ↦ absurd (area i j r s at_i at_j positive same lt)
      | inr ge ↦ elim (cases_lt j i) [ inl lt ↦ absurd (area j i s r at_j at_i (let p : 0 < s.area = omega arith in p) (sym same) lt) | inr le ↦ omega arith ]
    ]

-- whether a set's job owns an area
pub owned_at : (area : ℕ) (sets : List (Option HeldJob)) (k : ℕ) → 1 ≤ area → area_held (slice_index_or sets k None) ≡ area → owned_in area sets ≡ true
owned_at area [] k low is = absurd (omega arith)
owned_at area (None ∷ sets) zero low is = absurd (omega arith)
owned_at area (Some r ∷ sets) zero low is = let yes_own : (r.area == area) ≡ true = grind (arith, common_steps) in rw yes_own
owned_at area (None ∷ sets) (suc k) low is = owned_at area sets k low is
owned_at area (Some r ∷ sets) (suc k) low is = elim (cases_eq r.area area) [
  | inl same ↦ let yes_own : (r.area == area) ≡ true = grind (arith, common_steps) in rw yes_own
  | inr ne ↦ let no_own : (r.area == area) ≡ false = grind (arith, common_steps) in rw no_own (owned_at area sets k low is)
]

pub owned_nowhere : (area : ℕ) (sets : List (Option HeldJob)) → ((k : ℕ) → k < length sets → area_held (slice_index_or sets k None) ≢ area) → owned_in area sets ≡ false
owned_nowhere area [] h = refl
owned_nowhere area (None ∷ sets) h = owned_nowhere area sets (λ k lt. h (suc k) (omega arith))
owned_nowhere area (Some r ∷ sets) h =
    let ne : r.area ≢ area = h 0 (omega arith) in
    let no_own : (r.area == area) ≡ false = grind (arith, common_steps) in
    rw no_own (owned_nowhere area sets (λ k lt. h (suc k) (omega arith)))
