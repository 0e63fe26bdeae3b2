-- Words of seven core sets, and a free set behind them.
use Rattle.std.proofs.Common.{◌≡◌, ℕ, ◌+◌, ◌-◌, ◌/◌, ◌<◌, List, [], ◌∷◌, ◌++◌, Some, None, length, slice_index, slice_index_or, slice_set, replicate, refl, ap, sym, subst, ◌∙◌, inl, inr, arith}
use Rattle.std.proofs.lemmas.Bool.{cases_lt}
use Rattle.std.proofs.lemmas.List.{length-append, get_or_append_left, get_or-append_right, same_lists, set-append_right}
use Rattle.agc_word.specs.Layout as layout
use Rattle.agc_word.specs.Layout.{sets_in, set_place, use_place, padded}
use Rattle.agc_plan.specs.Tasks.{Waiting, StandsFor}
use Rattle.agc_exec.specs.Blocks.{block_in, blocks_of}
use Rattle.agc_exec.specs.Sets.{slots_of}
use Rattle.agc_exec.specs.Image.{minus_zero, held_of, sets_of, Each, IsLawfulBlock, IsTidyBlock, jobs_in, entries_in}
use Rattle.agc_exec.specs.Image as cores
use Rattle.agc_exec.proofs.Decoding.{held_of-free, held_at, length-sets}
use Rattle.agc_exec.proofs.Reading.{length-blocks_of, get-blocks_of, get-block_in, block_in-same}
use Rattle.agc_wait.specs.Table.{SameTable}
use Rattle.agc_wait.specs.Waits.{is_due}
use Rattle.agc_wait.proofs.Same.{waits_of-same, IsLawfulTable-same, IsTidy-same}
use Rattle.agc_phase.specs.Image.{IsFailreg, base_of}
use Rattle.agc_phase.specs.Image.{IsCodeWord}
use Rattle.agc_phase.specs.Image as phases
use Rattle.agc_phase.specs.Writing.{minus_place}
use Rattle.agc_phase.proofs.Reading.{ArePairs-are, ArePairs-at}
use Rattle.agc_phase.proofs.Kept.{codes_in-same, phases_in-same}
use Rattle.agc_machine.specs.Image.{IsLawfulImage, IsTidyImage}
use Rattle.agc_machine.specs.Migration.{roomier, Migrates}
use Rattle.agc_machine.proofs.Roomier.{slots_of-roomier, is_owned-roomier, jobs_of-roomier, entries_of-roomier, IsStanding-roomier, newjob_of-roomier}

-- the twelve words of a core set that nobody has: PRIORITY, the last, is minus zero
abbrev free_set : List ℕ
free_set = replicate 11 0 ++ minus_zero ∷ []

-- the new words begin with the old ones, and PRIORITY of set 7 is minus zero
pub record Grown (old new : List ℕ) : Type 0 where
  pub seven : length old ≡ 132
  pub eight : length new ≡ 144
  pub same : (place : ℕ) → place < 132 → slice_index new place ≡ slice_index old place
  pub free : slice_index new 143 ≡ 32767

pub grown : (old : List ℕ) → length old ≡ 132 → Grown old (old ++ free_set)
grown old seven = record {
  seven = seven;
  eight = let long : length (old ++ free_set) ≡ length old + 12 = length-append old free_set in omega arith;
  same = λ place lt. get_or_append_left old free_set 0 place (omega arith);
  free = get_or-append_right old free_set 132 143 0 seven (omega arith);
}

-- what is written into the padded words
pub padded-grown : (old : List ℕ) → length old ≡ 132 → slice_set (padded old) 143 32767 ≡ old ++ free_set
padded-grown old seven =
    ap (λ (n : ℕ). slice_set (old ++ replicate (144 - n) 0) 143 32767) seven
    ∙ set-append_right old (replicate 12 0) 132 143 32767 seven (omega arith)

-- sets 0 to 6 have the same words, and set 7 is free
block_same : (old new : List ℕ) → Grown old new → (k : ℕ) → k < 7 → block_in new k ≡ block_in old k
block_same old new g k lt = block_in-same old new k (λ i lt_i. g.same (set_place k + i) (omega arith))

last_free : (old new : List ℕ) → Grown old new → held_of (block_in new 7) ≡ None
last_free old new g = held_of-free (block_in new 7) (get-block_in new 7 11 0 (omega arith) ∙ g.free)

seven_sets : (old new : List ℕ) → Grown old new → sets_in old ≡ 7
seven_sets old new g = ap (λ (n : ℕ). (n - 48) / 12) g.seven

eight_sets : (old new : List ℕ) → Grown old new → sets_in new ≡ 8
eight_sets old new g = ap (λ (n : ℕ). (n - 48) / 12) g.eight

sets_of-grown : (old new : List ℕ) → Grown old new → sets_of new ≡ sets_of old ++ None ∷ []
sets_of-grown old new g =
    let count_old : length (sets_of old) ≡ 7 = length-sets old ∙ seven_sets old new g in
    let count_new : length (sets_of new) ≡ 8 = length-sets new ∙ eight_sets old new g in
    let count_more : length (sets_of old ++ None ∷ []) ≡ length (sets_of old) + 1 = length-append (sets_of old) (None ∷ []) in
    let sevens : sets_in old ≡ 7 = seven_sets old new g in
    let eights : sets_in new ≡ 8 = eight_sets old new g in
    same_lists (sets_of new) (sets_of old ++ None ∷ []) (omega arith) (λ k d lt.
    elim (cases_lt k 7) [
      | inl low ↦
          sym (held_at new k d (omega arith)) ∙ ap held_of (block_same old new g k low) ∙ held_at old k d (omega arith)
          ∙ sym (get_or_append_left (sets_of old) (None ∷ []) d k (omega arith))
      | inr high ↦
          let last : k ≡ 7 = omega arith in
          rw last (sym (held_at new 7 d (omega arith)) ∙ last_free old new g ∙ sym (get_or-append_right (sets_of old) (None ∷ []) 7 7 d count_old (omega arith)))
    ])

-- what holds of each block that has a job holds still
each_grown : (P : List ℕ → Type 0) (old new : List ℕ) → Grown old new → ((block : List ℕ) → held_of block ≡ None → P block) → Each P (blocks_of old) → Each P (blocks_of new)
each_grown P old new g free each k lt =
    let sevens : sets_in old ≡ 7 = seven_sets old new g in
    let eights : sets_in new ≡ 8 = eight_sets old new g in
    let count_old : length (blocks_of old) ≡ sets_in old = length-blocks_of old in
    let count_new : length (blocks_of new) ≡ sets_in new = length-blocks_of new in
    let is : slice_index_or (blocks_of new) k [] ≡ block_in new k = get-blocks_of new k [] (omega arith) in
    elim (cases_lt k 7) [
      | inl low ↦
          let was : slice_index_or (blocks_of old) k [] ≡ block_in old k = get-blocks_of old k [] (omega arith) in
          subst P (was ∙ sym (block_same old new g k low) ∙ sym is) (each k (omega arith))
      | inr high ↦
          let last : k ≡ 7 = omega arith in
          subst P (sym is) (free (block_in new k) (ap (λ (s : ℕ). held_of (block_in new s)) last ∙ last_free old new g))
    ]

IsLawfulBlock-free : (block : List ℕ) → held_of block ≡ None → IsLawfulBlock block
IsLawfulBlock-free block free r held = absurd (let no : None ≡ Some r = sym free ∙ held in cc)

IsTidyBlock-free : (block : List ℕ) → held_of block ≡ None → IsTidyBlock block
IsTidyBlock-free block free r held = absurd (let no : None ≡ Some r = sym free ∙ held in cc)

cores_grown : (old new : List ℕ) → Grown old new → cores.IsLawfulWords old → cores.IsLawfulWords new
cores_grown old new g lawful =
    let is : sets_of new ≡ sets_of old ++ None ∷ [] = sets_of-grown old new g in
    let slots : slots_of (sets_of old ++ None ∷ []) ≡ slots_of (sets_of old) ++ None ∷ [] = slots_of-roomier (sets_of old) lawful.sets.standing.lawful in
    record {
      sets = record {
        sized = inr g.eight;
        coded = each_grown IsLawfulBlock old new g IsLawfulBlock-free lawful.sets.coded;
        standing = rw is (IsStanding-roomier (sets_of old) lawful.sets.standing);
      };
      uses = rw (is, slots) (λ area low high.
          rw (is_owned-roomier area (slots_of (sets_of old))) (g.same (use_place area) (omega arith) ∙ lawful.uses area low high));
      newjob = rw (is, newjob_of-roomier (sets_of old) lawful.sets.standing) (g.same layout.newjob (omega arith) ∙ lawful.newjob);
    }

-- the other tables have the same words
table_grown : (old new : List ℕ) → Grown old new → SameTable new old
table_grown old new g i within = g.same i (omega arith)

base_grown : (old new : List ℕ) → Grown old new → base_of new ≡ base_of old
base_grown old new g =
    rw (phases_in-same old new (λ k lt. g.same (minus_place k + 1) (omega arith)), codes_in-same old new (λ k lt. g.same (layout.failreg + k) (omega arith))) refl

phases_grown : (old new : List ℕ) → Grown old new → phases.IsLawfulTable old → phases.IsLawfulTable new
phases_grown old new g lawful = record {
  pairs = ArePairs-are new (λ k lt. rw (g.same (minus_place k) (omega arith), g.same (minus_place k + 1) (omega arith)) (ArePairs-at old lawful.pairs k lt));
  spelled = λ k lt. subst IsCodeWord (sym (g.same (layout.failreg + k) (omega arith))) (lawful.spelled k lt);
  failreg = subst IsFailreg (sym (codes_in-same old new (λ k lt. g.same (layout.failreg + k) (omega arith)))) lawful.failreg;
}

lawful_grown : (old new : List ℕ) → Grown old new → IsLawfulImage old → IsLawfulImage new
lawful_grown old new g lawful = record {
  tables = record {
    size = inr g.eight;
    cores = cores_grown old new g lawful.tables.cores;
    waits = IsLawfulTable-same new old (table_grown old new g) lawful.tables.waits;
    phases = phases_grown old new g lawful.tables.phases;
  };
  none_due = ap is_due (waits_of-same new old (table_grown old new g)) ∙ lawful.none_due;
}

tidy_grown : (old new : List ℕ) → Grown old new → IsTidyImage old → IsTidyImage new
tidy_grown old new g tidy = record {
  cores = each_grown IsTidyBlock old new g IsTidyBlock-free tidy.cores;
  waits = IsTidy-same new old (table_grown old new g) tidy.waits;
}

jobs_grown : (old new : List ℕ) → Grown old new → cores.IsLawfulWords old → jobs_in new ≡ roomier (jobs_in old)
jobs_grown old new g lawful = rw (sets_of-grown old new g) (jobs_of-roomier (sets_of old) lawful.sets.standing.lawful)

-- what the words stand for, with a core set more
pub migrates : (old new : List ℕ) → length old ≡ 132 → IsLawfulImage old → new ≡ old ++ free_set → Migrates old new
migrates old new seven lawful is =
    let g : Grown old new = subst (λ (words : List ℕ). Grown old words) (sym is) (grown old seven) in
    record {
      words = is;
      lawful = lawful_grown old new g lawful;
      tidy = tidy_grown old new g;
      placed = rw (sets_of-grown old new g) (entries_of-roomier (sets_of old));
      stands = λ plain stands. record {
        jobs = jobs_grown old new g lawful.tables.cores ∙ ap roomier stands.jobs;
        tasks = subst (λ (waits : List Waiting). StandsFor waits plain.work.agenda) (sym (waits_of-same new old (table_grown old new g))) stands.tasks;
        base = base_grown old new g ∙ stands.base;
      };
    }
