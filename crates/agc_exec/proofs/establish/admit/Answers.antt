use Rattle.std.proofs.Common.{◌≡◌, ◌<◌, ◌∙◌, ℕ, List, None, Some, true, false, ap, sym, refl, length, arith}
use Rattle.agc_word.specs.Layout as layout
use Rattle.agc_word.specs.Layout.{IsSized, sets_in, Keeps}
use Rattle.agc_exec.specs.Frames.{OutsideSets}
use Rattle.agc_word.proofs.Keeping.{kept_twice}
use Rattle.agc_plan.specs.declared.request.Entry.{Entry}
use Rattle.agc_plan.specs.declared.reply.Reply.TheVariants.{Established}
use Rattle.agc_plan.specs.Jobs.{establish_at, least_unused, new_job}
use Rattle.agc_plan.specs.Places.{placed_new}
use Rattle.agc_exec.specs.Blocks.{blocks_of}
use Rattle.agc_exec.specs.Calls.{block_with, new_block, blocks_new}
use Rattle.agc_exec.specs.Image.{sets_of, Each, IsLawfulBlock, urgency_word, jobs_in, entries_in}
use Rattle.agc_exec.specs.Sets.{slots_of, entries_of, running_in}
use Rattle.agc_exec.specs.Stages.{IsFreeAt}
use Rattle.agc_exec.proofs.Coming.{Came, Comes, Comes-made, came, came-lawful, coded-new, Near-findvac}
use Rattle.agc_exec.proofs.Decoding.{length-sets, IsSized-kept, job_with}
use Rattle.agc_exec.proofs.Finishing.{finish, sets_of-same, IsLawfulBlock-new}
use Rattle.agc_exec.proofs.Newcomers.{newcomer, only_awake, led}
use Rattle.agc_exec.proofs.establish.admit.Goals as goal

free : (words : List ℕ) (k : ℕ) → IsSized words → (k < sets_in words) × IsFreeAt (sets_of words) k → (k < length (sets_of words)) × IsFreeAt (sets_of words) k
free words k sized is = let len : length (sets_of words) ≡ sets_in words = length-sets words in let lt : k < sets_in words = is.0 in (omega arith, is.1)

coded : (number priority : ℕ) (entry : Entry) (area w : ℕ) → w ≡ urgency_word priority area → block_with number entry w ≡ new_block number priority entry area
coded number priority entry area w e = ap (block_with number entry) e

pub take_over-requires-clause-lawful : goal.take_over-requires-clause-lawful
take_over-requires-clause-lawful c =
    let comes : Comes c.args.e.now c.write_new.new.e c.args.k c.args.number c.args.priority c.args.entry c.args.area = Comes-made c.args.e.now c.write_new.new.e c.args.k c.args.number c.args.priority c.args.entry c.args.area (block_with c.args.number c.args.entry c.of_bits.result) c.requires.lawful.sets (free c.args.e.now c.args.k c.requires.lawful.sets.sized c.requires.free) c.requires.first c.requires.least c.requires.five c.requires.own (omega arith, omega arith) (coded c.args.number c.args.priority c.args.entry c.args.area c.of_bits.result (c.of_bits.ensures ∙ (rw (c.get.ensures.value, c.address_of.ensures)))) c.write_new.ensures.blocks in
    came-lawful c.args.e.now c.write_new.new.e c.args.k c.args.number c.args.priority c.args.entry c.args.area comes

pub take_over-requires-clause-best : goal.take_over-requires-clause-best
take_over-requires-clause-best c ran =
    let comes : Comes c.args.e.now c.write_new.new.e c.args.k c.args.number c.args.priority c.args.entry c.args.area = Comes-made c.args.e.now c.write_new.new.e c.args.k c.args.number c.args.priority c.args.entry c.args.area (block_with c.args.number c.args.entry c.of_bits.result) c.requires.lawful.sets (free c.args.e.now c.args.k c.requires.lawful.sets.sized c.requires.free) c.requires.first c.requires.least c.requires.five c.requires.own (omega arith, omega arith) (coded c.args.number c.args.priority c.args.entry c.args.area c.of_bits.result (c.of_bits.ensures ∙ (rw (c.get.ensures.value, c.address_of.ensures)))) c.write_new.ensures.blocks in
    rw comes.sets (only_awake (sets_of c.args.e.now) c.args.k (job_with (new_block c.args.number c.args.priority c.args.entry c.args.area) c.args.priority c.args.area false) c.requires.lawful.sets.standing (c.somebody_runs-ran.ensures.idle ran) comes.arrives.within refl)

pub note_newcomer-requires : goal.note_newcomer-requires
note_newcomer-requires c =
    let comes : Comes c.args.e.now c.write_new.new.e c.args.k c.args.number c.args.priority c.args.entry c.args.area = Comes-made c.args.e.now c.write_new.new.e c.args.k c.args.number c.args.priority c.args.entry c.args.area (block_with c.args.number c.args.entry c.of_bits.result) c.requires.lawful.sets (free c.args.e.now c.args.k c.requires.lawful.sets.sized c.requires.free) c.requires.first c.requires.least c.requires.five c.requires.own (omega arith, omega arith) (coded c.args.number c.args.priority c.args.entry c.args.area c.of_bits.result (c.of_bits.ensures ∙ (rw (c.get.ensures.value, c.address_of.ensures)))) c.write_new.ensures.blocks in
    let done : Came c.args.e.now c.take_over.new.e c.args.number c.args.priority c.args.entry c.args.area = came c.args.e.now c.write_new.new.e c.take_over.new.e c.args.k c.args.number c.args.priority c.args.entry c.args.area c.somebody_runs-ran.result comes (record { runs = c.somebody_runs-ran.ensures.runs; idle = c.somebody_runs-ran.ensures.idle }) (record { idle = c.take_over.ensures.idle; idle_blocks = c.take_over.ensures.idle_blocks; busy = c.take_over.ensures.busy }) in
    let others : Keeps OutsideSets c.args.e.now c.take_over.new.e = kept_twice OutsideSets c.args.e.now c.write_new.new.e c.take_over.new.e c.write_new.ensures.others c.take_over.ensures.others in
    let each : Each IsLawfulBlock (blocks_of c.take_over.new.e) = rw done.words (coded-new c.args.number c.args.priority c.args.entry c.args.area (running_in (sets_of c.take_over.new.e)) (entries_of (sets_of c.args.e.now)) (blocks_of c.args.e.now) (new_block c.args.number c.args.priority c.args.entry c.args.area) c.requires.lawful.sets.coded refl (IsLawfulBlock-new c.args.number c.args.priority c.args.entry c.args.area (omega arith) (omega arith) c.requires.five c.write_new.ensures.range.0 c.write_new.ensures.range.1)) in
    let same : sets_of c.take_area.new.e ≡ sets_of c.take_over.new.e = sets_of-same c.take_over.new.e c.take_area.new.e c.take_area.ensures.words in
    record {
      set = record {
        sized = IsSized-kept c.take_over.new.e c.take_area.new.e c.take_area.ensures.others.same_length (IsSized-kept c.args.e.now c.take_over.new.e others.same_length c.requires.lawful.sets.sized);
        coded = rw c.take_area.ensures.words each;
        standing = rw same done.gives.standing;
      };
      place = rw (c.take_area.ensures.others.same_length, others.same_length) c.requires.free.0;
      busy = λ ran. newcomer c.args.e.now c.take_area.new.e c.args.k (job_with (new_block c.args.number c.args.priority c.args.entry c.args.area) c.args.priority c.args.area false) c.requires.lawful (c.somebody_runs-ran.ensures.runs ran)
          (λ s at. let no : None ≡ Some s = sym c.requires.free.1 ∙ at in absurd (cc))
          comes.arrives.within refl
          (same ∙ ap sets_of (c.take_over.ensures.busy ran) ∙ comes.sets)
          (c.take_area.ensures.newjob ∙ others.words layout.newjob (omega arith, omega arith));
      idle = λ ran. rw same (led (sets_of c.write_new.new.e) (sets_of c.take_over.new.e) c.args.k (came-lawful c.args.e.now c.write_new.new.e c.args.k c.args.number c.args.priority c.args.entry c.args.area comes) (rw comes.sets (only_awake (sets_of c.args.e.now) c.args.k (job_with (new_block c.args.number c.args.priority c.args.entry c.args.area) c.args.priority c.args.area false) c.requires.lawful.sets.standing (c.somebody_runs-ran.ensures.idle ran) comes.arrives.within refl)) (c.take_over.ensures.idle ran));
    }

pub returns : goal.returns
returns c =
    let comes : Comes c.args.e.now c.write_new.new.e c.args.k c.args.number c.args.priority c.args.entry c.args.area = Comes-made c.args.e.now c.write_new.new.e c.args.k c.args.number c.args.priority c.args.entry c.args.area (block_with c.args.number c.args.entry c.of_bits.result) c.requires.lawful.sets (free c.args.e.now c.args.k c.requires.lawful.sets.sized c.requires.free) c.requires.first c.requires.least c.requires.five c.requires.own (omega arith, omega arith) (coded c.args.number c.args.priority c.args.entry c.args.area c.of_bits.result (c.of_bits.ensures ∙ (rw (c.get.ensures.value, c.address_of.ensures)))) c.write_new.ensures.blocks in
    let done : Came c.args.e.now c.take_over.new.e c.args.number c.args.priority c.args.entry c.args.area = came c.args.e.now c.write_new.new.e c.take_over.new.e c.args.k c.args.number c.args.priority c.args.entry c.args.area c.somebody_runs-ran.result comes (record { runs = c.somebody_runs-ran.ensures.runs; idle = c.somebody_runs-ran.ensures.idle }) (record { idle = c.take_over.ensures.idle; idle_blocks = c.take_over.ensures.idle_blocks; busy = c.take_over.ensures.busy }) in
    let others : Keeps OutsideSets c.args.e.now c.take_over.new.e = kept_twice OutsideSets c.args.e.now c.write_new.new.e c.take_over.new.e c.write_new.ensures.others c.take_over.ensures.others in
    let each : Each IsLawfulBlock (blocks_of c.take_over.new.e) = rw done.words (coded-new c.args.number c.args.priority c.args.entry c.args.area (running_in (sets_of c.take_over.new.e)) (entries_of (sets_of c.args.e.now)) (blocks_of c.args.e.now) (new_block c.args.number c.args.priority c.args.entry c.args.area) c.requires.lawful.sets.coded refl (IsLawfulBlock-new c.args.number c.args.priority c.args.entry c.args.area (omega arith) (omega arith) c.requires.five c.write_new.ensures.range.0 c.write_new.ensures.range.1)) in
    finish c.args.e.now c.take_area.new.e c.note_newcomer.new.e (establish_at (least_unused 1 (slots_of (sets_of c.args.e.now))) (new_job c.args.priority c.args.entry c.args.area) (jobs_in c.args.e.now)) (λ running. placed_new (Some c.args.number) running (entries_in c.args.e.now)) (λ running. blocks_new (Some c.args.number) c.args.priority c.args.entry c.args.area running (entries_in c.args.e.now) (blocks_of c.args.e.now)) (Established c.args.number) c.requires.lawful.sets.sized
    (Near-findvac c.args.e.now c.take_over.new.e c.take_area.new.e c.args.priority c.args.entry c.args.area true (Established c.args.number) c.requires.lawful done.gives done.words each others refl c.take_area.ensures.words c.take_area.ensures.uses c.take_area.ensures.others)
    (record { words = c.note_newcomer.ensures.words; newjob = c.note_newcomer.ensures.newjob; uses = c.note_newcomer.ensures.uses; others = c.note_newcomer.ensures.others })
