-- The end of a job on the words.
use Rattle.std.proofs.Common.{◌≡◌, ◌≢◌, ℕ, ◌-◌, ◌<◌, ◌≤◌, ◌==◌, true, false, cond, List, [], Option, Some, None, length, slice_index, slice_index_or, slice_set, ap, sym, ◌∙◌, inl, inr, arith}
use Rattle.agc_exec.specs.Stages.{BringsBest, Gives}
use Rattle.agc_word.specs.Layout.{address_of, IsSized, OutsideCores, use_place, Keeps}
use Rattle.agc_exec.specs.Frames.{OutsideSets}
use Rattle.agc_word.proofs.Keeping.{kept_twice}
use Rattle.agc_exec.proofs.Finishing.{sets_kept}
use Rattle.agc_exec.specs.Calls.{fronted_blocks, blocks_end, front_block}
use Rattle.std.proofs.lemmas.Bool.{cases_eq, cases_lt}
use Rattle.std.proofs.lemmas.List.{get_or-set_same, get_or-set_other, get_or_past, map-set}
use Rattle.std.proofs.lemmas.Option.{same_Some}
use Rattle.std.proofs.lemmas.Grind.{common_steps}
use Rattle.agc_plan.specs.declared.reply.Reply.{Reply}
use Rattle.agc_plan.specs.declared.reply.Reply.TheVariants.{Left}
use Rattle.agc_plan.specs.Jobs.{Job, Outcome, best, end_of_job, is_owned, with_job}
use Rattle.agc_plan.specs.Places.{place_of, without, placed_end}
use Rattle.agc_exec.specs.HeldJob.{HeldJob}
use Rattle.agc_exec.specs.Blocks.{block_in, blocks_of}
use Rattle.agc_exec.specs.Sets.{Holds, IsLawful, slots_of, entries_of, running_in, job_of, number_in}
use Rattle.agc_exec.specs.Stages.{jobs_of}
use Rattle.agc_exec.specs.Image.{held_of, sets_of, IsLawfulBlock, IsTidyBlock, Each, IsSet, IsLawfulWords, jobs_in, entries_in}
use Rattle.agc_exec.specs.Stages.{UsesAgree}
use Rattle.agc_exec.specs.Stages.{use_word}
use Rattle.agc_exec.proofs.Bests.{place_of_number, running_in-awake, slot_of, slot_found}
use Rattle.agc_exec.proofs.Leaving.{Gives-end, cleared-lawful}
use Rattle.agc_exec.proofs.Areas.{is_owned-false}
use Rattle.agc_exec.proofs.Reading.{length-block_in, get-blocks_of}
use Rattle.agc_exec.proofs.Decoding.{held_of-free, sets_of-set, Each-fronted, Each-set}
use Rattle.agc_exec.proofs.Finishing.{Near, sets_of-same}
use Rattle.agc_exec.proofs.Owners.{is_owned-other, area_in}

-- the running job's set was freed
pub record Freed (old mid : List ℕ) (job : HeldJob) : Type 0 where
  pub set : IsSet old
  pub here : Holds (sets_of old) 0 job
  pub awake : job.asleep ≡ false
  pub sets : sets_of mid ≡ slice_set (sets_of old) 0 None
  pub blocks : blocks_of mid ≡ slice_set (blocks_of old) 0 (slice_set (front_block (blocks_of old)) 11 32767)
  pub free : held_of (slice_set (front_block (blocks_of old)) 11 32767) ≡ None

pub front-is : (words : List ℕ) → IsSized words → block_in words 0 ≡ front_block (blocks_of words)
front-is words sized = sym (get-blocks_of words 0 [] (omega arith))

pub Freed-made : (old mid : List ℕ) (job : HeldJob) (block : List ℕ) (w : ℕ) → IsSet old → (Holds (sets_of old) 0 job) × (job.asleep ≡ false) → block ≡ block_in old 0 → w ≡ 32767 → blocks_of mid ≡ slice_set (blocks_of old) 0 (slice_set block 11 w) → Freed old mid job
Freed-made old mid job block w set runs is free written =
    let front : block ≡ front_block (blocks_of old) = is ∙ front-is old set.sized in
    let twelve : length (front_block (blocks_of old)) ≡ 12 = ap length (sym front) ∙ ap length is ∙ length-block_in old 0 in
    let blocks : blocks_of mid ≡ slice_set (blocks_of old) 0 (slice_set (front_block (blocks_of old)) 11 32767) = written ∙ rw (front, free) in
    let none : held_of (slice_set (front_block (blocks_of old)) 11 32767) ≡ None = held_of-free (slice_set (front_block (blocks_of old)) 11 32767) (get_or-set_same (front_block (blocks_of old)) 11 32767 0 (omega arith)) in
    record {
      set = set;
      here = runs.0;
      awake = runs.1;
      sets = sets_of-set old mid 0 (slice_set (front_block (blocks_of old)) 11 32767) blocks ∙ ap (λ v. slice_set (sets_of old) 0 v) none;
      blocks = blocks;
      free = none;
    }

pub freed-lawful : (old mid : List ℕ) (job : HeldJob) → Freed old mid job → IsLawful (sets_of mid)
freed-lawful old mid job f = rw f.sets (cleared-lawful (sets_of old) 0 f.set.standing.lawful)

pub freed-gives : (old mid new : List ℕ) (job : HeldJob) → Freed old mid job → BringsBest (sets_of mid) (sets_of new) → Gives (end_of_job (jobs_of (sets_of old))) (placed_end (running_in (sets_of old)) (running_in (sets_of new)) (entries_of (sets_of old))) (sets_of new) (Left (running_in (sets_of new)))
freed-gives old mid new job f brings =
    let brings_set : BringsBest (slice_set (sets_of old) 0 None) (sets_of new) = rw (← f.sets) brings in
    Gives-end (sets_of old) (sets_of new) job f.set.standing f.here f.awake brings_set

pub freed-words : (old mid new : List ℕ) (job : HeldJob) → Freed old mid job → BringsBest (sets_of mid) (sets_of new) → blocks_of new ≡ fronted_blocks (best (slots_of (sets_of mid))) (entries_of (sets_of mid)) (blocks_of mid) → blocks_of new ≡ blocks_end (running_in (sets_of old)) (running_in (sets_of new)) (entries_of (sets_of old)) (blocks_of old)
freed-words old mid new job f brings words =
    let ran : running_in (sets_of old) ≡ Some job.number = running_in-awake (sets_of old) job f.here f.awake in
    let place : place_of job.number (entries_of (sets_of old)) ≡ 0 = place_of_number (sets_of old) 0 job f.set.standing.lawful f.here in
    let entries : entries_of (sets_of mid) ≡ without job.number (entries_of (sets_of old)) = ap entries_of f.sets ∙ rw place (map-set number_in (sets_of old) 0 None) in
    rw (ran, brings.running, ← entries, ← f.blocks) words

pub Each-freed : (P : List ℕ → Type 0) (old new : List ℕ) (job : HeldJob) (mid : List ℕ) → Freed old mid job → Each P (blocks_of old) → P (slice_set (front_block (blocks_of old)) 11 32767) → (running : Option ℕ) → Each P (blocks_end (running_in (sets_of old)) running (entries_of (sets_of old)) (blocks_of old))
Each-freed P old new job mid f each here running =
    let ran : running_in (sets_of old) ≡ Some job.number = running_in-awake (sets_of old) job f.here f.awake in
    rw ran (Each-fronted P running (without job.number (entries_of (sets_of old))) _ (Each-set P (blocks_of old) 0 (slice_set (front_block (blocks_of old)) 11 32767) each here))

pub lawful-freed : (block : List ℕ) → held_of block ≡ None → IsLawfulBlock block
lawful-freed block e r is = absurd (cc)

pub tidy-freed : (block : List ℕ) → held_of block ≡ None → IsTidyBlock block
tidy-freed block e r is = absurd (cc)

-- with the job of set 0 gone, its area is owned no more
pub owners-end : (sets : List (Option HeldJob)) (job : HeldJob) (area : ℕ) → IsLawful sets → Holds sets 0 job → 1 ≤ area → is_owned area (with_job (slots_of sets) job.number None) ≡ cond (area == job.area) false (is_owned area (slots_of sets))
owners-end sets job area lawful here low = elim (cases_eq area job.area) [
  | inr ne ↦
      let slot : slice_index_or (slots_of sets) (job.number - 1) None ≡ Some (job_of job) = slot_of sets 0 job lawful here in
      let no : (area == job.area) ≡ false = grind (arith, common_steps) in
      let other : area_in (slice_index_or (slots_of sets) (job.number - 1) None) ≢ area = λ e. let x : job.area ≡ area = ap area_in (sym slot) ∙ e in ne (sym x) in
      rw no (is_owned-other (slots_of sets) (job.number - 1) None area low other (λ e. let x : 0 ≡ area = e in omega arith))
  | inl same ↦
      let yes : (area == job.area) ≡ true = grind (arith, common_steps) in
      rw yes (is_owned-false area (with_job (slots_of sets) job.number None) (λ j other at is. nobody j other at is same))
]
  where
    nobody : (j : ℕ) (other : Job) → slice_index_or (with_job (slots_of sets) job.number None) j None ≡ Some other → other.area ≡ area → area ≡ job.area → ⊥
    nobody j other at is same = elim (cases_eq j (job.number - 1)) [
      | inl e ↦
          let slot : slice_index_or (slots_of sets) (job.number - 1) None ≡ Some (job_of job) = slot_of sets 0 job lawful here in
          let within : job.number - 1 < length (slots_of sets) = elim (cases_lt (job.number - 1) (length (slots_of sets))) [ inl lt ↦ lt | inr past ↦ absurd (let none : slice_index_or (slots_of sets) (job.number - 1) None ≡ None = get_or_past (slots_of sets) (job.number - 1) None past in let no : None ≡ Some (job_of job) = sym none ∙ slot in cc) ] in
          let none : slice_index_or (with_job (slots_of sets) job.number None) j None ≡ None = ap (λ i. slice_index_or (with_job (slots_of sets) job.number None) i None) e ∙ get_or-set_same (slots_of sets) (job.number - 1) None None within in
          let no : None ≡ Some other = sym none ∙ at in
          cc
      | inr ne ↦
          let there : slice_index_or (slots_of sets) j None ≡ Some other = sym (get_or-set_other (slots_of sets) (job.number - 1) j None None ne) ∙ at in
          let (i, r, at_i, number, is_job) = slot_found sets j other there in
          let area_r : r.area ≡ other.area = ap (λ x. x.area) is_job in
          let z : i ≡ 0 = lawful.areas i 0 r job at_i here (omega arith) (area_r ∙ is ∙ same) in
          let r_is : r ≡ job = same_Some r job (sym at_i ∙ ap (λ k. slice_index_or sets k None) z ∙ here) in
          let n : r.number ≡ job.number = ap (λ q. q.number) r_is in
          ne (omega arith)
    ]

pub uses-end : (old mid new : List ℕ) (job : HeldJob) → IsLawfulWords old → Holds (sets_of old) 0 job → slots_of (sets_of new) ≡ with_job (slots_of (sets_of old)) job.number None → Keeps OutsideSets old mid → ((a : ℕ) → 1 ≤ a → a ≤ 5 → slice_index new (use_place a) ≡ cond (a == job.area) (address_of job.area) (slice_index mid (use_place a))) → UsesAgree new (slots_of (sets_of new))
uses-end old mid new job lawful here slots others written area low high =
    let owned : is_owned area (slots_of (sets_of new)) ≡ cond (area == job.area) false (is_owned area (slots_of (sets_of old))) = ap (is_owned area) slots ∙ owners-end (sets_of old) job area lawful.sets.standing.lawful here low in
    let before : slice_index mid (use_place area) ≡ use_word area (slots_of (sets_of old)) = others.words (use_place area) (omega arith, omega arith) ∙ lawful.uses area low high in
    elim (cases_eq area job.area) [
      | inl same ↦
          let yes : (area == job.area) ≡ true = grind (arith, common_steps) in
          let free : is_owned area (slots_of (sets_of new)) ≡ false = rw yes at owned in
          rw (free, same) (rw (yes, same) at (written area low high))
      | inr ne ↦
          let no : (area == job.area) ≡ false = grind (arith, common_steps) in
          let kept : is_owned area (slots_of (sets_of new)) ≡ is_owned area (slots_of (sets_of old)) = rw no at owned in
          let word : slice_index new (use_place area) ≡ slice_index mid (use_place area) = rw no at (written area low high) in
          rw kept (word ∙ before)
    ]

pub Near-end : (old mid new : List ℕ) (job : HeldJob) (reply : Reply) → IsLawfulWords old → (Holds (sets_of old) 0 job) × (job.asleep ≡ false) → Gives (end_of_job (jobs_in old)) (placed_end (running_in (sets_of old)) (running_in (sets_of mid)) (entries_in old)) (sets_of mid) reply → blocks_of mid ≡ blocks_end (running_in (sets_of old)) (running_in (sets_of mid)) (entries_in old) (blocks_of old) → Each IsLawfulBlock (blocks_of mid) → Keeps OutsideSets old mid → blocks_of new ≡ blocks_of mid → ((a : ℕ) → 1 ≤ a → a ≤ 5 → slice_index new (use_place a) ≡ cond (a == job.area) (address_of job.area) (slice_index mid (use_place a))) → Keeps OutsideCores mid new → Near (end_of_job (jobs_in old)) (placed_end (running_in (sets_of old)) (running_in (sets_of new)) (entries_in old)) (blocks_end (running_in (sets_of old)) (running_in (sets_of new)) (entries_in old) (blocks_of old)) old new reply
Near-end old mid new job reply lawful runs gives words coded others kept uses later =
    let same : sets_of new ≡ sets_of mid = sets_of-same mid new kept in
    let ran : running_in (sets_of old) ≡ Some job.number = running_in-awake (sets_of old) job runs.0 runs.1 in
    let slots_mid : slots_of (sets_of mid) ≡ (end_of_job (jobs_in old)).jobs.slots = ap (λ (o : Outcome). o.jobs.slots) gives.outcome_is in
    let slots_old : (end_of_job (jobs_in old)).jobs.slots ≡ with_job (slots_of (sets_of old)) job.number None = rw ran in
    let slots : slots_of (sets_of new) ≡ with_job (slots_of (sets_of old)) job.number None = ap slots_of same ∙ slots_mid ∙ slots_old in
    record {
      gives = rw same gives;
      words = rw same (kept ∙ words);
      coded = rw kept coded;
      uses = uses-end old mid new job lawful runs.0 slots others uses;
      tidy = λ t. rw (kept, words, ran) (Each-fronted IsTidyBlock (running_in (sets_of mid)) (without job.number (entries_in old)) _ (Each-set IsTidyBlock (blocks_of old) 0 (slice_set (front_block (blocks_of old)) 11 32767) t (tidy-front old lawful.sets.sized)));
      others = kept_twice OutsideCores old mid new (sets_kept old mid others) later;
    }
  where
    tidy-front : (old : List ℕ) → IsSized old → IsTidyBlock (slice_set (front_block (blocks_of old)) 11 32767)
    tidy-front old sized =
        let twelve : length (front_block (blocks_of old)) ≡ 12 = ap length (sym (front-is old sized)) ∙ length-block_in old 0 in
        tidy-freed (slice_set (front_block (blocks_of old)) 11 32767) (held_of-free (slice_set (front_block (blocks_of old)) 11 32767) (get_or-set_same (front_block (blocks_of old)) 11 32767 0 (omega arith)))
