-- All sets free.
use Rattle.std.proofs.Common.{◌≡◌, ℕ, zero, suc, ◌+◌, ◌<◌, ◌≤◌, false, List, [], ◌∷◌, Option, Some, None, length, map, replicate, slice_index, slice_index_or, slice_set, refl, ap, sym, ◌∙◌, inl, inr, arith}
use Rattle.agc_word.specs.Layout as layout
use Rattle.agc_word.specs.Layout.{address_of, IsSized, sets_in, use_place, OutsideCores, Keeps}
use Rattle.agc_exec.specs.Frames.{OutsideSets}
use Rattle.agc_word.proofs.Keeping.{kept_twice, kept_set}
use Rattle.agc_exec.specs.Calls.{Clears, freed_block}
use Rattle.agc_exec.specs.Stages.{AllFree}
use Rattle.std.proofs.lemmas.Bool.{cases_eq, cases_lt}
use Rattle.std.proofs.lemmas.List.{get_or-set_same, get_or-set_other, get_or_past, get_or-map, length-map, length-set, ext_get_or}
use Rattle.agc_plan.specs.Jobs.{is_owned, no_jobs}
use Rattle.agc_exec.specs.HeldJob.{HeldJob}
use Rattle.agc_exec.specs.Blocks.{blocks_of}
use Rattle.agc_exec.specs.Sets.{Holds, IsStanding, slots_of, entries_of, running_in, job_numbered}
use Rattle.agc_exec.specs.Image.{minus_zero, sets_of, IsLawfulWords, jobs_in, entries_in}
use Rattle.agc_exec.proofs.Decoding.{length-sets, length-sets_of, get-sets_of, IsSized-kept, held_of-free}
use Rattle.agc_exec.proofs.Finishing.{newjob_of-none, sets_kept}
use Rattle.agc_exec.proofs.Reading.{blocks_of-kept, get-blocks_of, length-block_in, length-blocks_of}
use Rattle.agc_exec.proofs.Slots.{slots_from}

-- no set holds a job
abbrev pub Empty : List (Option HeldJob) → Type 0
Empty sets = (i : ℕ) (r : HeldJob) → Holds sets i r → ⊥

Empty-free : (words : List ℕ) → AllFree words → Empty (sets_of words)
Empty-free words free i r at = elim (cases_lt i (length (blocks_of words))) [
  | inl lt ↦ let no : None ≡ Some r = sym (get-sets_of words i None lt ∙ free i lt) ∙ at in cc
  | inr past ↦ let len : length (sets_of words) ≡ length (blocks_of words) = length-sets_of words in let no : None ≡ Some r = sym (get_or_past (sets_of words) i None (omega arith)) ∙ at in cc
]

empty-numbered : (sets : List (Option HeldJob)) (n : ℕ) → Empty sets → job_numbered sets n ≡ None
empty-numbered [] n e = refl
empty-numbered (None ∷ sets) n e = empty-numbered sets n (λ i. e (suc i))
empty-numbered (Some r ∷ sets) n e = absurd (e 0 r refl)

empty-slots : (more from : ℕ) (sets : List (Option HeldJob)) → Empty sets → slots_from more from sets ≡ replicate more None
empty-slots zero from sets e = refl
empty-slots (suc more) from sets e = rw (empty-numbered sets from e, empty-slots more (from + 1) sets e)

empty-entries : (sets : List (Option HeldJob)) → Empty sets → entries_of sets ≡ replicate (length sets) 0
empty-entries [] e = refl
empty-entries (None ∷ sets) e = rw (empty-entries sets (λ i. e (suc i)))
empty-entries (Some r ∷ sets) e = absurd (e 0 r refl)

empty-running : (sets : List (Option HeldJob)) → Empty sets → running_in sets ≡ None
empty-running [] e = refl
empty-running (None ∷ sets) e = refl
empty-running (Some r ∷ sets) e = absurd (e 0 r refl)

unowned : (n area : ℕ) → is_owned area (replicate n None) ≡ false
unowned zero area = refl
unowned (suc n) area = unowned n area

empty-standing : (sets : List (Option HeldJob)) → Empty sets → IsStanding sets
empty-standing sets e = record {
  lawful = record {
    distinct = λ i j r s at_i at_j same. absurd (e i r at_i);
    low = λ i r at. absurd (e i r at);
    high = λ i r at. absurd (e i r at);
    areas = λ i j r s at_i at_j own same. absurd (e i r at_i);
  };
  in_front = λ i r at awake. absurd (e i r at);
}

pub cleared-jobs : (words : List ℕ) → AllFree words → jobs_in words ≡ no_jobs (sets_in words)
cleared-jobs words free =
    let e : Empty (sets_of words) = Empty-free words free in
    rw (empty-running (sets_of words) e, empty-slots (length (sets_of words)) 1 (sets_of words) e, length-sets words)

pub cleared-entries : (words : List ℕ) → AllFree words → entries_in words ≡ replicate (sets_in words) 0
cleared-entries words free = empty-entries (sets_of words) (Empty-free words free) ∙ ap (λ n. replicate n 0) (length-sets words)

pub cleared-lawful : (words : List ℕ) → IsSized words → AllFree words → ((a : ℕ) → 1 ≤ a → a ≤ 5 → slice_index words (use_place a) ≡ address_of a) → slice_index words layout.newjob ≡ 32767 → IsLawfulWords words
cleared-lawful words sized free uses newjob =
    let e : Empty (sets_of words) = Empty-free words free in
    record {
      sets = record { sized = sized; coded = λ k lt r is. absurd (let no : None ≡ Some r = sym (free k lt) ∙ is in cc); standing = empty-standing (sets_of words) e };
      uses = λ a low high. let no : is_owned a (slots_of (sets_of words)) ≡ false = ap (is_owned a) (empty-slots (length (sets_of words)) 1 (sets_of words) e) ∙ unowned (length (sets_of words)) a in rw no (uses a low high);
      newjob = newjob ∙ sym (newjob_of-none (sets_of words) (empty-standing (sets_of words) e).lawful (λ j s lt at. absurd (e j s at)));
    }

-- of these sets the first k were freed
pub record FreedBelow (k : ℕ) (old new : List (List ℕ)) : Type 0 where
  pub same_length : length new ≡ length old
  pub freed : (j : ℕ) → j < k → slice_index_or new j [] ≡ freed_block (slice_index_or old j [])
  pub left : (j : ℕ) → k ≤ j → slice_index_or new j [] ≡ slice_index_or old j []

-- one more set
pub FreedBelow-more : (old mid new : List (List ℕ)) (k w : ℕ) (block : List ℕ) → k < length mid → block ≡ slice_index_or mid k [] → w ≡ minus_zero → new ≡ slice_set mid k (slice_set block 11 w) → FreedBelow k old mid → FreedBelow (k + 1) old new
FreedBelow-more old mid new k w block lt is word written before = rw written (record {
  same_length = length-set mid k (slice_set block 11 w) ∙ before.same_length;
  freed = λ j low. elim (cases_eq j k) [
    | inl same ↦ rw same (get_or-set_same mid k (slice_set block 11 w) [] lt ∙ ap (slice_set block 11) word ∙ ap freed_block (is ∙ before.left k (omega arith)))
    | inr ne ↦ get_or-set_other mid k j (slice_set block 11 w) [] ne ∙ before.freed j (omega arith)
  ];
  left = λ j past. get_or-set_other mid k j (slice_set block 11 w) [] (λ same. absurd (omega arith)) ∙ before.left j (omega arith);
})

pub FreedBelow-all : (old new : List (List ℕ)) (k : ℕ) → length old ≤ k → FreedBelow k old new → new ≡ map freed_block old
FreedBelow-all old new k all below = ext_get_or [] new (map freed_block old) (below.same_length ∙ sym (length-map old freed_block)) (λ j lt.
    let lt_old : j < length old = let len : length new ≡ length old = below.same_length in omega arith in
    below.freed j (omega arith) ∙ sym (get_or-map freed_block old j [] [] lt_old))

freed-free : (old new : List ℕ) → blocks_of new ≡ map freed_block (blocks_of old) → AllFree new
freed-free old new freed k lt =
    let lt_old : k < length (blocks_of old) = let len : length (blocks_of new) ≡ length (blocks_of old) = ap length freed ∙ length-map (blocks_of old) freed_block in omega arith in
    let twelve : length (slice_index_or (blocks_of old) k []) ≡ 12 = ap length (get-blocks_of old k [] (let len : length (blocks_of old) ≡ sets_in old = length-blocks_of old in omega arith)) ∙ length-block_in old k in
    rw (freed, get_or-map freed_block (blocks_of old) k [] [] lt_old) (held_of-free (freed_block (slice_index_or (blocks_of old) k [])) (get_or-set_same (slice_index_or (blocks_of old) k []) 11 minus_zero 0 (omega arith)))

-- the sets were freed, then the areas, and NEWJOB was set
pub cleared : (old sets areas new : List ℕ) (w : ℕ) → IsSized old → blocks_of sets ≡ map freed_block (blocks_of old) → Keeps OutsideSets old sets → blocks_of areas ≡ blocks_of sets → Keeps OutsideCores sets areas → ((a : ℕ) → 1 ≤ a → a ≤ 5 → slice_index areas (use_place a) ≡ address_of a) → w ≡ minus_zero → new ≡ slice_set areas layout.newjob w → Clears old new
cleared old sets areas new w sized freed kept_sets blocks kept_areas uses is written =
    let kept : Keeps OutsideCores old areas = kept_twice OutsideCores old sets areas (sets_kept old sets kept_sets) kept_areas in
    let sized_areas : IsSized areas = IsSized-kept old areas kept.same_length sized in
    let others : Keeps OutsideCores old new = rw written (kept_twice OutsideCores old areas (slice_set areas layout.newjob w) kept (kept_set OutsideCores areas layout.newjob w (λ at. omega arith))) in
    let words : blocks_of new ≡ map freed_block (blocks_of old) = rw (written, blocks_of-kept areas layout.newjob w sized_areas (omega arith) (omega arith)) (blocks ∙ freed) in
    let free_new : AllFree new = freed-free old new words in
    record {
      lawful = cleared-lawful new (IsSized-kept old new others.same_length sized) free_new (λ a low high. ap (λ ws. slice_index ws (use_place a)) written ∙ get_or-set_other areas layout.newjob (use_place a) w 0 (omega arith) ∙ uses a low high) (ap (λ ws. slice_index ws layout.newjob) written ∙ get_or-set_same areas layout.newjob w 0 (omega arith) ∙ is);
      jobs = cleared-jobs new free_new;
      placed = cleared-entries new free_new;
      words = words;
      tidy = λ k lt r is. absurd (let no : None ≡ Some r = sym (free_new k lt) ∙ is in cc);
      others = others;
    }
