-- A change of the running job's priority.
use Rattle.std.proofs.Common.{◌≡◌, ℕ, ◌+◌, ◌*◌, ◌%◌, ◌≤◌, false, List, Some, length, slice_index, slice_set, refl, ap, sym, ◌∙◌, arith}
use Rattle.agc_word.specs.Layout.{OutsideCores, use_place, Keeps}
use Rattle.agc_exec.specs.Frames.{OutsideSets}
use Rattle.agc_word.proofs.Keeping.{kept_twice}
use Rattle.agc_exec.proofs.Finishing.{sets_kept}
use Rattle.agc_exec.specs.Calls.{fronted_blocks, front_block, urgent_block, blocks_changed, Does}
use Rattle.agc_plan.specs.declared.reply.Reply.{Reply}
use Rattle.agc_plan.specs.Jobs.{prio, change, with_priority}
use Rattle.agc_plan.proofs.Running.{with_running, prio_is}
use Rattle.agc_plan.specs.Places.{fronted}
use Rattle.agc_exec.specs.HeldJob.{HeldJob}
use Rattle.agc_exec.specs.Blocks.{block_in, blocks_of}
use Rattle.agc_exec.specs.Sets.{Holds, entries_of, running_in}
use Rattle.agc_exec.specs.Stages.{jobs_of}
use Rattle.agc_exec.specs.Image.{sets_of, IsLawfulBlock, IsTidyBlock, IsSet, IsLawfulWords, urgency_word, jobs_in, entries_in}
use Rattle.agc_exec.proofs.Bests.{running_in-awake}
use Rattle.agc_exec.proofs.Yielding.{jobs_of-changed, changed-standing}
use Rattle.agc_exec.proofs.Decoding.{job_with, held_of-made, held_of-fields, Each-set, IsSized-kept, urgency_word-parts}
use Rattle.agc_exec.proofs.Finishing.{Renewed, sets_of-same}
use Rattle.agc_exec.proofs.Coming.{uses-kept}
use Rattle.agc_exec.proofs.Turning.{Turned, Turned-made, block_held, tidy-kept, front_is, turned-owners, turned-entries}

urgent-fields : (words : List ℕ) (k p q a : ℕ) → job_with (urgent_block q (block_in words k)) q a false ≡ record (job_with (block_in words k) p a false) { priority = q }
unfolding block_in
urgent-fields words k p q a = refl

urgent-word : (words : List ℕ) (k q : ℕ) → slice_index (urgent_block q (block_in words k)) 11 ≡ 512 * q + slice_index (block_in words k) 11 % 512
unfolding block_in
urgent-word words k q = refl

urgent-twelve : (words : List ℕ) (k q : ℕ) → length (urgent_block q (block_in words k)) ≡ 12
unfolding block_in
urgent-twelve words k q = refl

pub urgent-same : (words : List ℕ) (k q : ℕ) → (slice_index (urgent_block q (block_in words k)) 7 ≡ slice_index (block_in words k) 7) × (slice_index (urgent_block q (block_in words k)) 10 ≡ slice_index (block_in words k) 10)
unfolding block_in
urgent-same words k q = (refl, refl)

abbrev pub urged : ℕ → HeldJob → HeldJob
urged q job = record job { priority = q }

pub Turned-urged : (old mid : List ℕ) (job : HeldJob) (q : ℕ) → IsSet old → Holds (sets_of old) 0 job → job.asleep ≡ false → 1 ≤ q → q ≤ 31 → blocks_of mid ≡ slice_set (blocks_of old) 0 (urgent_block q (block_in old 0)) → Turned old mid 0 job (urged q job) (urgent_block q (block_in old 0))
Turned-urged old mid job q set here awake low high blocks =
    let (held, coded) = block_held old 0 job set here in
    let fields : job ≡ job_with (block_in old 0) job.priority job.area false = held_of-fields (block_in old 0) job held ∙ ap (job_with (block_in old 0) job.priority job.area) awake in
    let urgency : slice_index (block_in old 0) 11 ≡ urgency_word job.priority job.area = rw awake at coded.word in
    let (p, a, lt) = urgency_word-parts job.priority job.area coded.five coded.high in
    let word : slice_index (urgent_block q (block_in old 0)) 11 ≡ urgency_word q job.area = urgent-word old 0 q ∙ ap (λ w. 512 * q + w % 512) urgency ∙ ap (λ w. 512 * q + w) a in
    let made : job_with (urgent_block q (block_in old 0)) q job.area false ≡ urged q job = urgent-fields old 0 job.priority q job.area ∙ ap (urged q) (sym fields) in
    Turned-made old mid 0 job (urged q job) (urgent_block q (block_in old 0)) set here refl
    (held_of-made (urgent_block q (block_in old 0)) q job.area false low high coded.five word ∙ ap Some (made))
    (record { twelve = urgent-twelve old 0 q; word = rw awake word; low = low; high = high; five = coded.five; at_low = coded.at_low; at_high = coded.at_high })
    refl blocks

pub urged-set : (old mid : List ℕ) (job : HeldJob) (q : ℕ) → Turned old mid 0 job (urged q job) (urgent_block q (block_in old 0)) → job.asleep ≡ false → Keeps OutsideSets old mid → IsSet mid
urged-set old mid job q t awake others = record {
  sized = IsSized-kept old mid others.same_length t.set.sized;
  coded = rw t.blocks (Each-set IsLawfulBlock (blocks_of old) 0 (urgent_block q (block_in old 0)) t.set.coded t.coded);
  standing = rw t.sets (changed-standing (sets_of old) job (urged q job) t.set.standing t.here refl refl awake);
}

-- the priority was written, NEWJOB brought up to date, and the job changed
pub urged-lawful : (old mid words : List ℕ) (job : HeldJob) (q : ℕ) → IsLawfulWords old → job.asleep ≡ false → Turned old mid 0 job (urged q job) (urgent_block q (block_in old 0)) → Keeps OutsideSets old mid → Renewed mid words → IsLawfulWords words
urged-lawful old mid words job q lawful awake t others renewed =
    let same : sets_of words ≡ sets_of mid = sets_of-same mid words renewed.words in
    let set : IsSet mid = urged-set old mid job q t awake others in
    record {
      sets = record { sized = IsSized-kept mid words renewed.others.same_length set.sized; coded = rw renewed.words set.coded; standing = rw same set.standing };
      uses = rw same (λ area low high. renewed.uses (use_place area) (omega arith) ∙ uses-kept old mid lawful.uses (turned-owners old mid 0 job (urged q job) (urgent_block q (block_in old 0)) t) others area low high);
      newjob = rw same renewed.newjob;
    }

pub Does-prio : (old mid words new : List ℕ) (job : HeldJob) (q : ℕ) (reply : Reply) → IsLawfulWords old → (Holds (sets_of old) 0 job) × (job.asleep ≡ false) → Turned old mid 0 job (urged q job) (urgent_block q (block_in old 0)) → Keeps OutsideSets old mid → Renewed mid words → Does (change (jobs_in words)) (fronted (running_in (sets_of new)) (entries_in words)) (fronted_blocks (running_in (sets_of new)) (entries_in words) (blocks_of words)) words new reply → Does (prio q (jobs_in old)) (fronted (running_in (sets_of new)) (entries_in old)) (blocks_changed (running_in (sets_of old)) (urgent_block q (front_block (blocks_of old))) (running_in (sets_of new)) (entries_in old) (blocks_of old)) old new reply
Does-prio old mid words new job q reply lawful runs t others renewed does =
    let same : sets_of words ≡ sets_of mid = sets_of-same mid words renewed.words in
    let jobs : jobs_in words ≡ with_running (with_priority q) (jobs_in old) = ap jobs_of (same ∙ t.sets) ∙ jobs_of-changed (sets_of old) job (urged q job) (with_priority q) lawful.sets.standing runs.0 runs.1 refl refl runs.1 in
    let entries : entries_in words ≡ entries_in old = ap entries_of same ∙ turned-entries old mid 0 job (urged q job) (urgent_block q (block_in old 0)) t in
    let blocks : blocks_of words ≡ slice_set (blocks_of old) 0 (urgent_block q (block_in old 0)) = renewed.words ∙ t.blocks in
    let ran : running_in (sets_of old) ≡ Some job.number = running_in-awake (sets_of old) job runs.0 runs.1 in
    record {
      lawful = does.lawful;
      outcome_is = does.outcome_is ∙ ap change jobs ∙ sym (prio_is q (jobs_in old));
      placed = does.placed ∙ ap (fronted (running_in (sets_of new))) entries;
      words = rw (ran, front_is old lawful.sets.sized) (does.words ∙ ap (λ es. fronted_blocks (running_in (sets_of new)) es (blocks_of words)) entries ∙ ap (fronted_blocks (running_in (sets_of new)) (entries_in old)) blocks);
      tidy = λ tidy. does.tidy (rw blocks (Each-set IsTidyBlock (blocks_of old) 0 (urgent_block q (block_in old 0)) tidy (tidy-kept old 0 job (urgent_block q (block_in old 0)) lawful.sets runs.0 (urgent-same old 0 q) tidy)));
      others = kept_twice OutsideCores old words new (kept_twice OutsideCores old mid words (sets_kept old mid others) renewed.others) does.others;
    }
