-- A change of the running job's words.
use Rattle.std.proofs.Common.{◌≡◌, ℕ, zero, suc, ◌+◌, ◌-◌, ◌<◌, ◌≤◌, Bool, true, false, List, [], ◌∷◌, Option, Some, None, length, slice_index, slice_index_or, slice_set, refl, ap, sym, ◌∙◌, arith}
use Rattle.agc_word.specs.Words.{complement}
use Rattle.agc_word.specs.Layout as layout
use Rattle.agc_word.specs.Layout.{IsSized, sets_in, Keeps}
use Rattle.agc_exec.specs.Frames.{OutsideSets}
use Rattle.agc_exec.proofs.Finishing.{sets_kept}
use Rattle.agc_exec.specs.Calls.{Does, fronted_blocks, front_block, slept_block, blocks_changed}
use Rattle.agc_exec.specs.Stages.{SameOwners, BringsBest, Gives}
use Rattle.std.proofs.lemmas.List.{get_or-set_same, get_or-set_other, length-set}
use Rattle.std.proofs.lemmas.Option.{same_Some}
use Rattle.agc_plan.specs.declared.reply.Reply.{Reply}
use Rattle.agc_plan.specs.declared.reply.Reply.TheVariants.{Left, Stored}
use Rattle.agc_plan.specs.Jobs.{Job, Outcome, Ready, best, best_from, sleep, store, with_job, job_in}
use Rattle.agc_plan.specs.Places.{fronted}
use Rattle.agc_exec.specs.HeldJob.{HeldJob}
use Rattle.agc_exec.specs.Blocks.{block_in, blocks_of}
use Rattle.agc_exec.specs.Sets.{Holds, IsLawful, slots_of, entries_of, running_in, job_of}
use Rattle.agc_exec.specs.Stages.{jobs_of}
use Rattle.agc_exec.specs.Image.{held_of, sets_of, IsCoded, IsLawfulBlock, IsTidyBlock, Each, IsTidy, IsSet, IsLawfulWords, priority_word, urgency_word, jobs_in, entries_in, newjob_for, front_priority}
use Rattle.agc_exec.specs.Stages.{newjob_of}
use Rattle.agc_exec.proofs.Bests.{running_in-awake, slot_of}
use Rattle.agc_exec.proofs.Leaving.{Gives-sleep, changed-lawful, changed-entries}
use Rattle.agc_exec.proofs.Reading.{length-block_in, get-blocks_of, blocks_of-twice}
use Rattle.agc_exec.proofs.Decoding.{job_with, held_of-made, held_of-fields, sets_of-set, held_at, Each-fronted, Each-set, length-sets, length-sets_of, IsSized-kept}
use Rattle.agc_exec.proofs.Finishing.{Near, front_priority-is}
use Rattle.agc_exec.proofs.Coming.{uses-kept, fronted-stays}
use Rattle.agc_exec.proofs.Yielding.{Gives-store}
use Rattle.agc_exec.proofs.Swaps.{slots_of-changed, Holds-within}
use Rattle.agc_exec.proofs.Owners.{SameOwners-set, area_in}

-- the words of set k became those of another job of the same number and area
pub record Turned (old mid : List ℕ) (k : ℕ) (job made : HeldJob) (block : List ℕ) : Type 0 where
  pub set : IsSet old
  pub here : Holds (sets_of old) k job
  pub sets : sets_of mid ≡ slice_set (sets_of old) k (Some made)
  pub blocks : blocks_of mid ≡ slice_set (blocks_of old) k block
  pub number : made.number ≡ job.number
  pub area : made.area ≡ job.area
  pub coded : IsLawfulBlock block

-- a job's words, as they stand
pub block_held : (words : List ℕ) (k : ℕ) (job : HeldJob) → IsSet words → Holds (sets_of words) k job → (held_of (block_in words k) ≡ Some job) × IsCoded (block_in words k) job
block_held words k job set here =
    let within : k < length (sets_of words) = Holds-within (sets_of words) k job here in
    let len : length (sets_of words) ≡ sets_in words = length-sets words in
    let len_blocks : length (sets_of words) ≡ length (blocks_of words) = length-sets_of words in
    let held : held_of (block_in words k) ≡ Some job = held_at words k None (omega arith) ∙ here in
    let is : slice_index_or (blocks_of words) k [] ≡ block_in words k = get-blocks_of words k [] (omega arith) in
    (held, rw is at (set.coded k (omega arith)) job held)

pub Turned-made : (old mid : List ℕ) (k : ℕ) (job made : HeldJob) (block : List ℕ) → IsSet old → Holds (sets_of old) k job → made.number ≡ job.number → held_of block ≡ Some made → IsCoded block made → made.area ≡ job.area → blocks_of mid ≡ slice_set (blocks_of old) k block → Turned old mid k job made block
Turned-made old mid k job made block set here number held coded area blocks = record {
  set = set;
  here = here;
  sets = sets_of-set old mid k block blocks ∙ ap (λ v. slice_set (sets_of old) k v) held;
  blocks = blocks;
  number = number;
  area = area;
  coded = λ r e. let is : made ≡ r = same_Some made r (sym held ∙ e) in rw (← is) coded;
}

slept-fields : (words : List ℕ) (k at p a : ℕ) → job_with (slept_block at (block_in words k)) p a true ≡ record (job_with (block_in words k) p a false) { asleep = true; at = at }
unfolding block_in
slept-fields words k at p a = refl

slept-word : (words : List ℕ) (k at : ℕ) → slice_index (slept_block at (block_in words k)) 11 ≡ 32767 - slice_index (block_in words k) 11
unfolding block_in
slept-word words k at = refl

slept-twelve : (words : List ℕ) (k at : ℕ) → length (slept_block at (block_in words k)) ≡ 12
unfolding block_in
slept-twelve words k at = refl

slept-same : (words : List ℕ) (k at : ℕ) → (slice_index (slept_block at (block_in words k)) 7 ≡ slice_index (block_in words k) 7) × (slice_index (slept_block at (block_in words k)) 10 ≡ slice_index (block_in words k) 10)
unfolding block_in
slept-same words k at = (refl, refl)

abbrev pub slept : ℕ → HeldJob → HeldJob
slept at job = record job { asleep = true; at = at }

pub Turned-slept : (old mid : List ℕ) (job : HeldJob) (at : ℕ) → IsSet old → Holds (sets_of old) 0 job → job.asleep ≡ false → 1 ≤ at → at ≤ 16383 → blocks_of mid ≡ slice_set (blocks_of old) 0 (slept_block at (block_in old 0)) → Turned old mid 0 job (slept at job) (slept_block at (block_in old 0))
Turned-slept old mid job at set here awake at_low at_high blocks =
    let (held, coded) = block_held old 0 job set here in
    let fields : job ≡ job_with (block_in old 0) job.priority job.area false = held_of-fields (block_in old 0) job held ∙ ap (job_with (block_in old 0) job.priority job.area) awake in
    let urgency : slice_index (block_in old 0) 11 ≡ urgency_word job.priority job.area = rw awake at coded.word in
    let word : slice_index (slept_block at (block_in old 0)) 11 ≡ priority_word job.priority job.area true = slept-word old 0 at ∙ ap (λ w. 32767 - w) urgency in
    let made : job_with (slept_block at (block_in old 0)) job.priority job.area true ≡ slept at job = slept-fields old 0 at job.priority job.area ∙ ap (slept at) (sym fields) in
    Turned-made old mid 0 job (slept at job) (slept_block at (block_in old 0)) set here refl
    (held_of-made (slept_block at (block_in old 0)) job.priority job.area true coded.low coded.high coded.five word ∙ ap Some made)
    (record { twelve = slept-twelve old 0 at; word = word; low = coded.low; high = coded.high; five = coded.five; at_low = at_low; at_high = at_high })
    refl blocks

-- PRIORITY was complemented and LOC set
pub turned-by : (old mid new : List ℕ) (job : HeldJob) (at v w : ℕ) → IsSet old → Holds (sets_of old) 0 job → job.asleep ≡ false → 1 ≤ at → at ≤ 16383 → Keeps OutsideSets old mid → blocks_of mid ≡ slice_set (blocks_of old) 0 (slice_set (block_in old 0) 11 v) → blocks_of new ≡ slice_set (blocks_of mid) 0 (slice_set (block_in mid 0) 8 w) → v ≡ complement (slice_index (block_in old 0) 11) → w ≡ at → Turned old new 0 job (slept at job) (slept_block at (block_in old 0))
turned-by old mid new job at v w set here awake low high kept first second v_is w_is =
    Turned-slept old new job at set here awake low high (rw (← v_is, ← w_is) (blocks_of-twice old mid new 0 11 8 v w set.sized kept.same_length (omega arith) first second))

pub turned-lawful : (old mid : List ℕ) (k : ℕ) (job made : HeldJob) (block : List ℕ) → Turned old mid k job made block → IsLawful (sets_of mid)
turned-lawful old mid k job made block t = rw t.sets (changed-lawful (sets_of old) k job made t.set.standing.lawful t.here t.number t.area)

pub turned-entries : (old mid : List ℕ) (k : ℕ) (job made : HeldJob) (block : List ℕ) → Turned old mid k job made block → entries_of (sets_of mid) ≡ entries_of (sets_of old)
turned-entries old mid k job made block t = ap entries_of t.sets ∙ changed-entries (sets_of old) k job made t.here t.number

pub turned-owners : (old mid : List ℕ) (k : ℕ) (job made : HeldJob) (block : List ℕ) → Turned old mid k job made block → SameOwners (slots_of (sets_of old)) (slots_of (sets_of mid))
turned-owners old mid k job made block t =
    let slots : slots_of (sets_of mid) ≡ with_job (slots_of (sets_of old)) job.number (Some (job_of made)) = ap slots_of t.sets ∙ slots_of-changed (sets_of old) k job made t.set.standing.lawful t.here t.number in
    let slot : slice_index_or (slots_of (sets_of old)) (job.number - 1) None ≡ Some (job_of job) = slot_of (sets_of old) k job t.set.standing.lawful t.here in
    rw slots (SameOwners-set (slots_of (sets_of old)) (job.number - 1) (Some (job_of made)) (ap area_in slot ∙ sym t.area))

-- the best came afterwards
pub turned-words : (old mid new : List ℕ) (k : ℕ) (job made : HeldJob) (block : List ℕ) → Turned old mid k job made block → BringsBest (sets_of mid) (sets_of new) → blocks_of new ≡ fronted_blocks (best (slots_of (sets_of mid))) (entries_of (sets_of mid)) (blocks_of mid) → blocks_of new ≡ fronted_blocks (running_in (sets_of new)) (entries_of (sets_of old)) (slice_set (blocks_of old) k block)
turned-words old mid new k job made block t brings words =
    rw (brings.running, ← turned-entries old mid k job made block t, ← t.blocks) words

pub turned-coded : (old mid : List ℕ) (k : ℕ) (job made : HeldJob) (block : List ℕ) → Turned old mid k job made block → (running : Option ℕ) → Each IsLawfulBlock (fronted_blocks running (entries_of (sets_of old)) (slice_set (blocks_of old) k block))
turned-coded old mid k job made block t running = Each-fronted IsLawfulBlock running (entries_of (sets_of old)) _ (Each-set IsLawfulBlock (blocks_of old) k block t.set.coded t.coded)

pub turned-set : (old mid new : List ℕ) (k : ℕ) (job made : HeldJob) (block : List ℕ) → Turned old mid k job made block → BringsBest (sets_of mid) (sets_of new) → blocks_of new ≡ fronted_blocks (best (slots_of (sets_of mid))) (entries_of (sets_of mid)) (blocks_of mid) → length new ≡ length old → IsSet new
turned-set old mid new k job made block t brings words len = record {
  sized = IsSized-kept old new len t.set.sized;
  coded = rw (turned-words old mid new k job made block t brings words) (turned-coded old mid k job made block t (running_in (sets_of new)));
  standing = record { lawful = brings.lawful; in_front = brings.in_front };
}

pub slept-gives : (old mid new : List ℕ) (job : HeldJob) (at : ℕ) (block : List ℕ) → Turned old mid 0 job (slept at job) block → job.asleep ≡ false → BringsBest (sets_of mid) (sets_of new) → Gives (sleep at (jobs_of (sets_of old))) (fronted (running_in (sets_of new)) (entries_of (sets_of old))) (sets_of new) (Left (running_in (sets_of new)))
slept-gives old mid new job at block t awake brings =
    let brings_set : BringsBest (slice_set (sets_of old) 0 (Some (slept at job))) (sets_of new) = rw (← t.sets) brings in
    Gives-sleep (sets_of old) (sets_of new) job (slept at job) at t.set.standing t.here awake refl refl brings_set

-- words of a job that keep MODE and PUSHLOC
pub tidy-kept : (words : List ℕ) (k : ℕ) (job : HeldJob) (block : List ℕ) → IsSet words → Holds (sets_of words) k job → (slice_index block 7 ≡ slice_index (block_in words k) 7) × (slice_index block 10 ≡ slice_index (block_in words k) 10) → IsTidy words → IsTidyBlock block
tidy-kept words k job block set here same tidy r e =
    let within : k < length (sets_of words) = Holds-within (sets_of words) k job here in
    let len : length (sets_of words) ≡ sets_in words = length-sets words in
    let len_blocks : length (sets_of words) ≡ length (blocks_of words) = length-sets_of words in
    let (held, coded) = block_held words k job set here in
    let is : slice_index_or (blocks_of words) k [] ≡ block_in words k = get-blocks_of words k [] (omega arith) in
    let both : (slice_index (block_in words k) 7 ≡ 0) × (slice_index (block_in words k) 10 ≡ 0) = rw is at (tidy k (omega arith)) job held in
    (same.0 ∙ both.0, same.1 ∙ both.1)

pub front_is : (words : List ℕ) → IsSized words → front_block (blocks_of words) ≡ block_in words 0
front_is words sized = get-blocks_of words 0 [] (omega arith)

pub Near-sleep : (old mid : List ℕ) (job : HeldJob) (at : ℕ) (reply : Reply) → IsLawfulWords old → (Holds (sets_of old) 0 job) × (job.asleep ≡ false) → Gives (sleep at (jobs_in old)) (fronted (running_in (sets_of mid)) (entries_in old)) (sets_of mid) reply → blocks_of mid ≡ fronted_blocks (running_in (sets_of mid)) (entries_in old) (slice_set (blocks_of old) 0 (slept_block at (front_block (blocks_of old)))) → Each IsLawfulBlock (blocks_of mid) → Keeps OutsideSets old mid → Near (sleep at (jobs_in old)) (fronted (running_in (sets_of mid)) (entries_in old)) (blocks_changed (running_in (sets_of old)) (slept_block at (front_block (blocks_of old))) (running_in (sets_of mid)) (entries_in old) (blocks_of old)) old mid reply
Near-sleep old mid job at reply lawful runs gives words coded others =
    let ran : running_in (sets_of old) ≡ Some job.number = running_in-awake (sets_of old) job runs.0 runs.1 in
    let slot : job_in (slots_of (sets_of old)) job.number ≡ Some (job_of job) = slot_of (sets_of old) 0 job lawful.sets.standing.lawful runs.0 in
    let slots_mid : slots_of (sets_of mid) ≡ (sleep at (jobs_in old)).jobs.slots = ap (λ (o : Outcome). o.jobs.slots) gives.outcome_is in
    let slots_old : (sleep at (jobs_in old)).jobs.slots ≡ with_job (slots_of (sets_of old)) job.number (Some (record (job_of job) { asleep = true; at = at })) = rw (ran, slot) in
    let owners : SameOwners (slots_of (sets_of old)) (slots_of (sets_of mid)) = rw (slots_mid, slots_old) (SameOwners-set (slots_of (sets_of old)) (job.number - 1) (Some (record (job_of job) { asleep = true; at = at })) (ap area_in slot)) in
    record {
      gives = gives;
      words = rw ran words;
      coded = coded;
      uses = uses-kept old mid lawful.uses owners others;
      tidy = λ t. rw words (Each-fronted IsTidyBlock (running_in (sets_of mid)) (entries_in old) _ (Each-set IsTidyBlock (blocks_of old) 0 (slept_block at (front_block (blocks_of old))) t (rw (front_is old lawful.sets.sized) (tidy-kept old 0 job (slept_block at (block_in old 0)) lawful.sets runs.0 (slept-same old 0 at) t))));
      others = sets_kept old mid others;
    }

stored-fields : (words : List ℕ) (k p a : ℕ) (s : Bool) (w place : ℕ) → 1 ≤ place → place ≤ 6 → job_with (slice_set (block_in words k) place w) p a s ≡ record (job_with (block_in words k) p a s) { work = slice_set (job_with (block_in words k) p a s).work (place - 1) w }
unfolding block_in
stored-fields words k p a s w zero low high = absurd (omega arith)
stored-fields words k p a s w (suc zero) low high = refl
stored-fields words k p a s w (suc (suc zero)) low high = refl
stored-fields words k p a s w (suc (suc (suc zero))) low high = refl
stored-fields words k p a s w (suc (suc (suc (suc zero)))) low high = refl
stored-fields words k p a s w (suc (suc (suc (suc (suc zero))))) low high = refl
stored-fields words k p a s w (suc (suc (suc (suc (suc (suc zero)))))) low high = refl
stored-fields words k p a s w (suc (suc (suc (suc (suc (suc (suc n))))))) low high = absurd (omega arith)

abbrev pub with_stored : ℕ → ℕ → HeldJob → HeldJob
with_stored place w job = record job { work = slice_set job.work (place - 1) w }

stored-other : (block : List ℕ) (place w i : ℕ) → place ≤ 6 → 7 ≤ i → slice_index (slice_set block place w) i ≡ slice_index block i
stored-other block place w i high low = get_or-set_other block place i w 0 (omega arith)

pub Turned-stored : (old mid : List ℕ) (job : HeldJob) (place w : ℕ) → IsSet old → Holds (sets_of old) 0 job → job.asleep ≡ false → 1 ≤ place → place ≤ 6 → blocks_of mid ≡ slice_set (blocks_of old) 0 (slice_set (block_in old 0) place w) → Turned old mid 0 job (with_stored place w job) (slice_set (block_in old 0) place w)
Turned-stored old mid job place w set here awake low high blocks =
    let (held, coded) = block_held old 0 job set here in
    let fields : job ≡ job_with (block_in old 0) job.priority job.area false = held_of-fields (block_in old 0) job held ∙ ap (job_with (block_in old 0) job.priority job.area) awake in
    let urgency : slice_index (block_in old 0) 11 ≡ urgency_word job.priority job.area = rw awake at coded.word in
    let word : slice_index (slice_set (block_in old 0) place w) 11 ≡ urgency_word job.priority job.area = stored-other (block_in old 0) place w 11 high (omega arith) ∙ urgency in
    let made : job_with (slice_set (block_in old 0) place w) job.priority job.area false ≡ with_stored place w job = stored-fields old 0 job.priority job.area false w place low high ∙ ap (with_stored place w) (sym fields) in
    Turned-made old mid 0 job (with_stored place w job) (slice_set (block_in old 0) place w) set here refl
    (held_of-made (slice_set (block_in old 0) place w) job.priority job.area false coded.low coded.high coded.five word ∙ ap Some made)
    (record { twelve = length-set (block_in old 0) place w ∙ length-block_in old 0; word = rw awake word; low = coded.low; high = coded.high; five = coded.five; at_low = coded.at_low; at_high = coded.at_high })
    refl blocks

-- a job's other fields don't tell who is the best
best_from-same : (from : ℕ) (slots : List (Option Job)) (i : ℕ) (old new : Job) → slice_index_or slots i None ≡ Some old → new.asleep ≡ old.asleep → new.priority ≡ old.priority → best_from from (slice_set slots i (Some new)) ≡ best_from from slots
best_from-same from [] i old new at a p = refl
best_from-same from (None ∷ slots) zero old new at a p = absurd (cc)
best_from-same from (Some j ∷ slots) zero old new at a p =
    let is : j ≡ old = same_Some j old at in
    rw (is, a, p)
best_from-same from (None ∷ slots) (suc i) old new at a p = best_from-same (from + 1) slots i old new at a p
best_from-same from (Some j ∷ slots) (suc i) old new at a p = rw (best_from-same (from + 1) slots i old new at a p)

newjob_for-same : (o : Option Ready) (s t : List (Option HeldJob)) → entries_of s ≡ entries_of t → front_priority s ≡ front_priority t → newjob_for o s ≡ newjob_for o t
newjob_for-same None s t e f = refl
newjob_for-same (Some first) s t e f = rw (e, f)

pub newjob_of-turned : (old mid : List ℕ) (job made : HeldJob) (block : List ℕ) → Turned old mid 0 job made block → made.asleep ≡ job.asleep → made.priority ≡ job.priority → newjob_of (sets_of mid) ≡ newjob_of (sets_of old)
newjob_of-turned old mid job made block t a p =
    let slots : slots_of (sets_of mid) ≡ with_job (slots_of (sets_of old)) job.number (Some (job_of made)) = ap slots_of t.sets ∙ slots_of-changed (sets_of old) 0 job made t.set.standing.lawful t.here t.number in
    let slot : slice_index_or (slots_of (sets_of old)) (job.number - 1) None ≡ Some (job_of job) = slot_of (sets_of old) 0 job t.set.standing.lawful t.here in
    let best : best_from 1 (slots_of (sets_of mid)) ≡ best_from 1 (slots_of (sets_of old)) = ap (best_from 1) slots ∙ best_from-same 1 (slots_of (sets_of old)) (job.number - 1) (job_of job) (job_of made) slot a p in
    let here : Holds (sets_of mid) 0 made = ap (λ s. slice_index_or s 0 None) t.sets ∙ get_or-set_same (sets_of old) 0 (Some made) None (Holds-within (sets_of old) 0 job t.here) in
    let front : front_priority (sets_of mid) ≡ front_priority (sets_of old) = front_priority-is (sets_of mid) made here ∙ p ∙ sym (front_priority-is (sets_of old) job t.here) in
    rw best (newjob_for-same (best_from 1 (slots_of (sets_of old))) (sets_of mid) (sets_of old) (turned-entries old mid 0 job made block t) front)

pub Does-store : (old mid : List ℕ) (job : HeldJob) (place w : ℕ) → IsLawfulWords old → (Holds (sets_of old) 0 job) × (job.asleep ≡ false) → Turned old mid 0 job (with_stored place w job) (slice_set (block_in old 0) place w) → place ≤ 6 → Keeps OutsideSets old mid → Does (store place w (jobs_in old)) (entries_in old) (blocks_changed (running_in (sets_of old)) (slice_set (front_block (blocks_of old)) place w) (running_in (sets_of mid)) (entries_in old) (blocks_of old)) old mid Stored
Does-store old mid job place w lawful runs t high others =
    let gives : Gives (store place w (jobs_in old)) (entries_in old) (sets_of mid) Stored = rw t.sets (Gives-store (sets_of old) job (with_stored place w job) place w lawful.sets.standing runs.0 runs.1 refl refl) in
    let ran : running_in (sets_of old) ≡ Some job.number = running_in-awake (sets_of old) job runs.0 runs.1 in
    let words : blocks_of mid ≡ fronted_blocks (running_in (sets_of mid)) (entries_in old) (slice_set (blocks_of old) 0 (slice_set (front_block (blocks_of old)) place w)) =
    rw (front_is old lawful.sets.sized, ← turned-entries old mid 0 job (with_stored place w job) (slice_set (block_in old 0) place w) t, ← t.blocks) (sym (fronted-stays (sets_of mid) (blocks_of mid) gives.standing.lawful)) in
    let block_is : slice_set (front_block (blocks_of old)) place w ≡ slice_set (block_in old 0) place w = ap (λ b. slice_set b place w) (front_is old lawful.sets.sized) in
    record {
      lawful = record {
        sets = record { sized = IsSized-kept old mid others.same_length lawful.sets.sized; coded = rw t.blocks (Each-set IsLawfulBlock (blocks_of old) 0 (slice_set (block_in old 0) place w) lawful.sets.coded t.coded); standing = gives.standing };
        uses = uses-kept old mid lawful.uses (turned-owners old mid 0 job (with_stored place w job) (slice_set (block_in old 0) place w) t) others;
        newjob = others.words layout.newjob (omega arith, omega arith) ∙ lawful.newjob ∙ sym (newjob_of-turned old mid job (with_stored place w job) (slice_set (block_in old 0) place w) t refl refl);
      };
      outcome_is = gives.outcome_is;
      placed = gives.entries_is;
      words = rw ran words;
      tidy = λ tidy. rw t.blocks (Each-set IsTidyBlock (blocks_of old) 0 (slice_set (block_in old 0) place w) tidy (tidy-kept old 0 job (slice_set (block_in old 0) place w) lawful.sets runs.0 (stored-other (block_in old 0) place w 7 high (omega arith), stored-other (block_in old 0) place w 10 high (omega arith)) tidy));
      others = sets_kept old mid others;
    }
