-- A sleeper's words, awake.
use Rattle.std.proofs.Common.{◌≡◌, ℕ, ◌-◌, ◌<◌, Bool, true, false, List, [], Option, Some, None, length, slice_index, slice_set, refl, ap, sym, ◌∙◌, arith}
use Rattle.agc_word.specs.Layout.{sets_in, Keeps}
use Rattle.agc_exec.specs.Frames.{OutsideSets}
use Rattle.agc_exec.proofs.Finishing.{sets_kept}
use Rattle.agc_exec.specs.Calls.{fronted_blocks, blocks_roused, woken_block, roused, Does}
use Rattle.agc_exec.specs.Stages.{SameOwners, Tells, TookOver, IsFirstBelow, FirstBelow, BringsBest, Gives}
use Rattle.std.proofs.lemmas.Grind.{common_steps}
use Rattle.agc_plan.specs.declared.reply.Reply.{Reply}
use Rattle.agc_plan.specs.declared.reply.Reply.TheVariants.{Roused, NoSleeper}
use Rattle.agc_plan.specs.Jobs.{Outcome, best, rouse, woken, sleeper_from, job_in, with_job}
use Rattle.agc_plan.specs.Places.{fronted}
use Rattle.agc_exec.specs.HeldJob.{HeldJob}
use Rattle.agc_exec.specs.Blocks.{block_in, blocks_of}
use Rattle.agc_exec.specs.Sets.{Holds, slots_of, entries_of, running_in, job_of}
use Rattle.agc_exec.specs.Stages.{jobs_of}
use Rattle.agc_exec.specs.Image.{sets_of, IsLawfulBlock, IsTidyBlock, Each, IsSet, IsLawfulWords, urgency_word, jobs_in, entries_in}
use Rattle.agc_exec.proofs.Bests.{place_of_number, running_in-awake, slot_of}
use Rattle.agc_exec.proofs.Swaps.{Holds-within}
use Rattle.agc_exec.proofs.Waking.{Wakes, Gives-rouse-idle, Gives-rouse-busy, Gives-no_sleeper, sleeper-is}
use Rattle.agc_exec.proofs.Decoding.{job_with, held_of-made, held_of-fields, length-sets, urgency_word-parts, Each-fronted, Each-set}
use Rattle.agc_exec.proofs.Coming.{fronted-stays, uses-kept}
use Rattle.agc_exec.proofs.Finishing.{Near}
use Rattle.agc_exec.proofs.Owners.{SameOwners-set, area_in}
use Rattle.agc_exec.proofs.Reading.{get-blocks_of}
use Rattle.agc_exec.proofs.Turning.{Turned, Turned-made, block_held, turned-words, turned-entries, turned-lawful, tidy-kept}

woken-fields : (words : List ℕ) (k p a : ℕ) → job_with (woken_block (block_in words k)) p a false ≡ record (job_with (block_in words k) p a true) { asleep = false }
unfolding block_in
woken-fields words k p a = refl

woken-word : (words : List ℕ) (k : ℕ) → slice_index (woken_block (block_in words k)) 11 ≡ 32767 - slice_index (block_in words k) 11
unfolding block_in
woken-word words k = refl

woken-twelve : (words : List ℕ) (k : ℕ) → length (woken_block (block_in words k)) ≡ 12
unfolding block_in
woken-twelve words k = refl

abbrev pub awake : HeldJob → HeldJob
awake job = record job { asleep = false }

pub Turned-woken : (old mid : List ℕ) (k at : ℕ) (job : HeldJob) → IsSet old → IsFirstBelow (sets_of old) at (length (sets_of old)) k job → blocks_of mid ≡ slice_set (blocks_of old) k (woken_block (block_in old k)) → Turned old mid k job (awake job) (woken_block (block_in old k))
Turned-woken old mid k at job set is blocks =
    let (held, coded) = block_held old k job set is.here in
    let sleeps : job.asleep ≡ true = grind (arith, common_steps, is.sleeps) in
    let fields : job ≡ job_with (block_in old k) job.priority job.area true = held_of-fields (block_in old k) job held ∙ ap (job_with (block_in old k) job.priority job.area) sleeps in
    let (p, a, lt) = urgency_word-parts job.priority job.area coded.five coded.high in
    let complement : slice_index (block_in old k) 11 ≡ 32767 - urgency_word job.priority job.area = rw sleeps at coded.word in
    let back : 32767 - (32767 - urgency_word job.priority job.area) ≡ urgency_word job.priority job.area = omega arith in
    let word : slice_index (woken_block (block_in old k)) 11 ≡ urgency_word job.priority job.area = woken-word old k ∙ ap (λ w. 32767 - w) complement ∙ back in
    let made : job_with (woken_block (block_in old k)) job.priority job.area false ≡ awake job = woken-fields old k job.priority job.area ∙ ap awake (sym fields) in
    Turned-made old mid k job (awake job) (woken_block (block_in old k)) set is.here refl
    (held_of-made (woken_block (block_in old k)) job.priority job.area false coded.low coded.high coded.five word ∙ ap Some made)
    (record { twelve = woken-twelve old k; word = word; low = coded.low; high = coded.high; five = coded.five; at_low = coded.at_low; at_high = coded.at_high })
    refl blocks

wakes : (old : List ℕ) (k at : ℕ) (job : HeldJob) → IsSet old → IsFirstBelow (sets_of old) at (length (sets_of old)) k job → Wakes (sets_of old) at k job (awake job)
wakes old k at job set is = record { standing = set.standing; is = is; number = refl; job = refl }

pub woken-idle : (old mid new : List ℕ) (k at : ℕ) (job : HeldJob) → Turned old mid k job (awake job) (woken_block (block_in old k)) → IsFirstBelow (sets_of old) at (length (sets_of old)) k job → running_in (sets_of old) ≡ None → BringsBest (sets_of mid) (sets_of new) → Gives (rouse at (jobs_of (sets_of old))) (fronted (running_in (sets_of new)) (entries_of (sets_of old))) (sets_of new) (Roused job.number)
woken-idle old mid new k at job t is idle brings =
    let brings_set : BringsBest (slice_set (sets_of old) k (Some (awake job))) (sets_of new) = rw (← t.sets) brings in
    Gives-rouse-idle (sets_of old) (sets_of new) at k job (awake job) (wakes old k at job t.set is) idle brings_set

pub woken-busy : (old mid : List ℕ) (k at n : ℕ) (job : HeldJob) → Turned old mid k job (awake job) (woken_block (block_in old k)) → IsFirstBelow (sets_of old) at (length (sets_of old)) k job → running_in (sets_of old) ≡ Some n → Gives (rouse at (jobs_of (sets_of old))) (fronted (running_in (sets_of mid)) (entries_of (sets_of old))) (sets_of mid) (Roused job.number)
woken-busy old mid k at n job t is busy = rw t.sets (Gives-rouse-busy (sets_of old) at k n job (awake job) (wakes old k at job t.set is) busy)

pub roused-is : (old : List ℕ) (k : ℕ) (job : HeldJob) (running : Option ℕ) → IsSet old → Holds (sets_of old) k job → blocks_roused (Some job.number) running (entries_of (sets_of old)) (blocks_of old) ≡ fronted_blocks running (entries_of (sets_of old)) (slice_set (blocks_of old) k (woken_block (block_in old k)))
roused-is old k job running set here =
    let within : k < length (sets_of old) = Holds-within (sets_of old) k job here in
    let len : length (sets_of old) ≡ sets_in old = length-sets old in
    rw (place_of_number (sets_of old) k job set.standing.lawful here, get-blocks_of old k [] (omega arith))

pub woken-words-idle : (old mid new : List ℕ) (k : ℕ) (job : HeldJob) → Turned old mid k job (awake job) (woken_block (block_in old k)) → BringsBest (sets_of mid) (sets_of new) → blocks_of new ≡ fronted_blocks (best (slots_of (sets_of mid))) (entries_of (sets_of mid)) (blocks_of mid) → blocks_of new ≡ blocks_roused (Some job.number) (running_in (sets_of new)) (entries_of (sets_of old)) (blocks_of old)
woken-words-idle old mid new k job t brings words = turned-words old mid new k job (awake job) (woken_block (block_in old k)) t brings words ∙ sym (roused-is old k job (running_in (sets_of new)) t.set t.here)

pub woken-words-busy : (old mid : List ℕ) (k : ℕ) (job : HeldJob) → Turned old mid k job (awake job) (woken_block (block_in old k)) → blocks_of mid ≡ blocks_roused (Some job.number) (running_in (sets_of mid)) (entries_of (sets_of old)) (blocks_of old)
woken-words-busy old mid k job t =
    let stays : fronted_blocks (running_in (sets_of mid)) (entries_of (sets_of mid)) (blocks_of mid) ≡ blocks_of mid = fronted-stays (sets_of mid) (blocks_of mid) (turned-lawful old mid k job (awake job) (woken_block (block_in old k)) t) in
    let entries : entries_of (sets_of mid) ≡ entries_of (sets_of old) = turned-entries old mid k job (awake job) (woken_block (block_in old k)) t in
    sym stays ∙ ap (λ es. fronted_blocks (running_in (sets_of mid)) es (blocks_of mid)) entries ∙ ap (fronted_blocks (running_in (sets_of mid)) (entries_of (sets_of old))) t.blocks ∙ sym (roused-is old k job (running_in (sets_of mid)) t.set t.here)

woken-same : (words : List ℕ) (k : ℕ) → (slice_index (woken_block (block_in words k)) 7 ≡ slice_index (block_in words k) 7) × (slice_index (woken_block (block_in words k)) 10 ≡ slice_index (block_in words k) 10)
unfolding block_in
woken-same words k = (refl, refl)

pub Near-wake : (old mid : List ℕ) (k at : ℕ) (job : HeldJob) (reply : Reply) → IsLawfulWords old → IsFirstBelow (sets_of old) at (length (sets_of old)) k job → Gives (rouse at (jobs_in old)) (fronted (running_in (sets_of mid)) (entries_in old)) (sets_of mid) reply → blocks_of mid ≡ blocks_roused (roused reply) (running_in (sets_of mid)) (entries_in old) (blocks_of old) → Each IsLawfulBlock (blocks_of mid) → Keeps OutsideSets old mid → Near (rouse at (jobs_in old)) (fronted (running_in (sets_of mid)) (entries_in old)) (blocks_roused (roused reply) (running_in (sets_of mid)) (entries_in old) (blocks_of old)) old mid reply
Near-wake old mid k at job reply lawful is gives words coded others =
    let slot : job_in (slots_of (sets_of old)) job.number ≡ Some (job_of job) = slot_of (sets_of old) k job lawful.sets.standing.lawful is.here in
    let sleeper : sleeper_from 1 at (slots_of (sets_of old)) ≡ Some job.number = sleeper-is (sets_of old) at k job lawful.sets.standing.lawful is in
    let slots_mid : slots_of (sets_of mid) ≡ (rouse at (jobs_in old)).jobs.slots = ap (λ (o : Outcome). o.jobs.slots) gives.outcome_is in
    let slots_old : (rouse at (jobs_in old)).jobs.slots ≡ with_job (slots_of (sets_of old)) job.number (Some (woken (job_of job))) = rw (sleeper, slot) in
    let reply_is : reply ≡ Roused job.number = ap (λ (o : Outcome). o.reply) gives.outcome_is ∙ rw sleeper in
    let owners : SameOwners (slots_of (sets_of old)) (slots_of (sets_of mid)) = rw (slots_mid, slots_old) (SameOwners-set (slots_of (sets_of old)) (job.number - 1) (Some (woken (job_of job))) (ap area_in slot)) in
    let blocks : blocks_of mid ≡ fronted_blocks (running_in (sets_of mid)) (entries_in old) (slice_set (blocks_of old) k (woken_block (block_in old k))) = words ∙ ap (λ r. blocks_roused (roused r) (running_in (sets_of mid)) (entries_in old) (blocks_of old)) reply_is ∙ roused-is old k job (running_in (sets_of mid)) lawful.sets is.here in
    record {
      gives = gives;
      words = words;
      coded = coded;
      uses = uses-kept old mid lawful.uses owners others;
      tidy = λ t. rw blocks (Each-fronted IsTidyBlock (running_in (sets_of mid)) (entries_in old) _ (Each-set IsTidyBlock (blocks_of old) k (woken_block (block_in old k)) t (tidy-kept old k job (woken_block (block_in old k)) lawful.sets is.here (woken-same old k) t)));
      others = sets_kept old mid others;
    }

pub Does-no_sleeper : (old : List ℕ) (at : ℕ) → IsLawfulWords old → FirstBelow (sets_of old) at (length (sets_of old)) None → Does (rouse at (jobs_in old)) (fronted (running_in (sets_of old)) (entries_in old)) (blocks_of old) old old NoSleeper
Does-no_sleeper old at lawful none =
    let gives : Gives (rouse at (jobs_in old)) (fronted (running_in (sets_of old)) (entries_in old)) (sets_of old) NoSleeper = Gives-no_sleeper (sets_of old) at lawful.sets.standing none in
    record { lawful = lawful; outcome_is = gives.outcome_is; placed = gives.entries_is; words = refl; tidy = λ t. t; others = record { same_length = refl; words = λ i is. refl } }

-- a sleeper woke, and taking over
pub record Awoke (old new : List ℕ) (at number : ℕ) : Type 0 where
  pub gives : Gives (rouse at (jobs_of (sets_of old))) (fronted (running_in (sets_of new)) (entries_of (sets_of old))) (sets_of new) (Roused number)
  pub words : blocks_of new ≡ blocks_roused (Some number) (running_in (sets_of new)) (entries_of (sets_of old)) (blocks_of old)

pub awoke : (old mid new : List ℕ) (k at : ℕ) (job : HeldJob) (ran : Bool) → Turned old mid k job (awake job) (woken_block (block_in old k)) → IsFirstBelow (sets_of old) at (length (sets_of old)) k job → Tells ran old → TookOver ran mid new → Awoke old new at job.number
awoke old mid new k at job false t is tells over = record {
  gives = woken-idle old mid new k at job t is (tells.idle refl) (over.idle refl);
  words = woken-words-idle old mid new k job t (over.idle refl) (over.idle_blocks refl);
}
awoke old mid new k at job true t is tells over =
    let (r, here, awake_r) = tells.runs refl in
    let runs : running_in (sets_of old) ≡ Some r.number = running_in-awake (sets_of old) r here awake_r in
    rw (over.busy refl) (record {
      gives = woken-busy old mid k at r.number job t is runs;
      words = woken-words-busy old mid k job t;
    })
