use Rattle.std.proofs.Common.{◌≡◌, ℕ, ◌∙◌, ◌<◌, true, length, refl, ap, sym, slice_set, option_map, arith}
use Rattle.std.proofs.lemmas.Option.{same_Some}
use Rattle.agc_exec.specs.Frames.{OutsideSets}
use Rattle.agc_word.specs.Words.{complement}
use Rattle.agc_word.proofs.Keeping.{kept_twice}
use Rattle.agc_exec.specs.Calls.{woken_block}
use Rattle.agc_exec.specs.Blocks.{blocks_of, block_in}
use Rattle.agc_exec.specs.HeldJob.{HeldJob}
use Rattle.agc_exec.specs.Image.{sets_of}
use Rattle.agc_exec.specs.Sets.{Holds, job_of, running_in}
use Rattle.agc_plan.specs.Jobs.{is_sleeper}
use Rattle.agc_exec.proofs.Newcomers.{newcomer, only_awake, led}
use Rattle.agc_exec.proofs.Swaps.{Holds-within}
use Rattle.std.proofs.lemmas.Grind.{common_steps}
use Rattle.agc_word.specs.Layout as layout
use Rattle.agc_exec.proofs.Reading.{get-block_in}
use Rattle.agc_exec.proofs.Turning.{Turned, turned-lawful, turned-coded}
use Rattle.agc_exec.proofs.Woken.{Turned-woken, Awoke, awoke, awake, roused-is}
use Rattle.agc_exec.proofs.wake.wake_set.Goals as goal

sleeps_there : (at : ℕ) (job : HeldJob) → is_sleeper at (job_of job) ≡ true → job.asleep ≡ true
sleeps_there at job e = grind (arith, common_steps)

pub number_in_set-number-requires-clause-held : goal.number_in_set-number-requires-clause-held
number_in_set-number-requires-clause-held c = (c.requires.is.0, c.requires.is.1.here)

pub take_over-requires-clause-lawful : goal.take_over-requires-clause-lawful
take_over-requires-clause-lawful c =
    turned-lawful c.args.e.now c.set_word.new.e c.args.k c.requires.is.0 (awake c.requires.is.0) (woken_block (block_in c.args.e.now c.args.k)) (Turned-woken c.args.e.now c.set_word.new.e c.args.k c.args.at c.requires.is.0 c.requires.lawful.sets c.requires.is.1 (c.set_word.ensures.blocks ∙ ap (λ w. slice_set (blocks_of c.args.e.now) c.args.k (slice_set (block_in c.args.e.now c.args.k) 11 w)) (c.neg.ensures.turned ∙ ap complement (c.of_bits-priority.ensures ∙ c.word_of.ensures.value ∙ sym (get-block_in c.args.e.now c.args.k 11 0 (omega arith))))))

pub take_over-requires-clause-best : goal.take_over-requires-clause-best
take_over-requires-clause-best c idle =
    let turned : Turned c.args.e.now c.set_word.new.e c.args.k c.requires.is.0 (awake c.requires.is.0) (woken_block (block_in c.args.e.now c.args.k)) = (Turned-woken c.args.e.now c.set_word.new.e c.args.k c.args.at c.requires.is.0 c.requires.lawful.sets c.requires.is.1 (c.set_word.ensures.blocks ∙ ap (λ w. slice_set (blocks_of c.args.e.now) c.args.k (slice_set (block_in c.args.e.now c.args.k) 11 w)) (c.neg.ensures.turned ∙ ap complement (c.of_bits-priority.ensures ∙ c.word_of.ensures.value ∙ sym (get-block_in c.args.e.now c.args.k 11 0 (omega arith)))))) in
    let within : c.args.k < length (sets_of c.args.e.now) = Holds-within (sets_of c.args.e.now) c.args.k c.requires.is.0 c.requires.is.1.here in
    rw turned.sets (only_awake (sets_of c.args.e.now) c.args.k (awake c.requires.is.0) c.requires.lawful.sets.standing (c.requires.idle idle) within refl)

pub returns : goal.returns
returns c =
    let turned : Turned c.args.e.now c.set_word.new.e c.args.k c.requires.is.0 (awake c.requires.is.0) (woken_block (block_in c.args.e.now c.args.k)) = (Turned-woken c.args.e.now c.set_word.new.e c.args.k c.args.at c.requires.is.0 c.requires.lawful.sets c.requires.is.1 (c.set_word.ensures.blocks ∙ ap (λ w. slice_set (blocks_of c.args.e.now) c.args.k (slice_set (block_in c.args.e.now c.args.k) 11 w)) (c.neg.ensures.turned ∙ ap complement (c.of_bits-priority.ensures ∙ c.word_of.ensures.value ∙ sym (get-block_in c.args.e.now c.args.k 11 0 (omega arith)))))) in
    let number : c.number_in_set-number.result ≡ c.requires.is.0.number = same_Some _ _ (c.number_in_set-number.ensures ∙ ap (option_map (λ (r : HeldJob). r.number)) c.requires.is.1.here) in
    let done : Awoke c.args.e.now c.take_over.new.e c.args.at c.requires.is.0.number = awoke c.args.e.now c.set_word.new.e c.take_over.new.e c.args.k c.args.at c.requires.is.0 c.args.ran turned c.requires.is.1 (record { runs = c.requires.runs; idle = c.requires.idle }) (record { idle = c.take_over.ensures.idle; idle_blocks = c.take_over.ensures.idle_blocks; busy = c.take_over.ensures.busy }) in
    let within : c.args.k < length (sets_of c.args.e.now) = Holds-within (sets_of c.args.e.now) c.args.k c.requires.is.0 c.requires.is.1.here in
    let sleeps : c.requires.is.0.asleep ≡ true = sleeps_there c.args.at c.requires.is.0 c.requires.is.1.sleeps in
    let slept : (s : HeldJob) → Holds (sets_of c.args.e.now) c.args.k s → s.asleep ≡ true = λ s at. ap (λ h. h.asleep) (same_Some s c.requires.is.0 (sym at ∙ c.requires.is.1.here)) ∙ sleeps in
    rw number (record {
      gives = done.gives;
      words = done.words;
      coded = rw (done.words, roused-is c.args.e.now c.args.k c.requires.is.0 (running_in (sets_of c.take_over.new.e)) c.requires.lawful.sets c.requires.is.1.here) (turned-coded c.args.e.now c.set_word.new.e c.args.k c.requires.is.0 (awake c.requires.is.0) (woken_block (block_in c.args.e.now c.args.k)) turned (running_in (sets_of c.take_over.new.e)));
      newcomer = λ ran.
          newcomer c.args.e.now c.take_over.new.e c.args.k (awake c.requires.is.0) c.requires.lawful (c.requires.runs ran) slept within refl
          (ap sets_of (c.take_over.ensures.busy ran) ∙ turned.sets)
          (c.take_over.ensures.others.words layout.newjob (omega arith, omega arith) ∙ c.set_word.ensures.others.words layout.newjob (omega arith, omega arith));
      led = λ idle. led (sets_of c.set_word.new.e) (sets_of c.take_over.new.e) c.args.k (turned-lawful c.args.e.now c.set_word.new.e c.args.k c.requires.is.0 (awake c.requires.is.0) (woken_block (block_in c.args.e.now c.args.k)) turned) (rw turned.sets (only_awake (sets_of c.args.e.now) c.args.k (awake c.requires.is.0) c.requires.lawful.sets.standing (c.requires.idle idle) within refl)) (c.take_over.ensures.idle idle);
      others = kept_twice OutsideSets c.args.e.now c.set_word.new.e c.take_over.new.e c.set_word.ensures.others c.take_over.ensures.others;
    })
