use Rattle.std.proofs.Common.{◌≡◌, ◌+◌, ◌*◌, ◌%◌, ◌∙◌, ap, sym, slice_index, slice_set, arith, rules, ℕ, List}
use Rattle.agc_word.specs.Layout.{set_place}
use Rattle.agc_exec.specs.Calls.{urgent_block}
use Rattle.agc_exec.specs.Blocks.{blocks_of, block_in}
use Rattle.agc_exec.proofs.Reading.{get-block_in}
use Rattle.agc_exec.proofs.Turning.{Turned}
use Rattle.agc_exec.proofs.Urging.{Turned-urged, urged, urged-set, urged-lawful, Does-prio}
use Rattle.agc_exec.proofs.change.prio_change.Goals as goal

urgency_is : (words : List ℕ) (priority w urgency : ℕ) → w ≡ slice_index words (set_place 0 + 11) → urgency ≡ 512 * priority + w % 512 → urgency ≡ 512 * priority + slice_index (block_in words 0) 11 % 512
urgency_is words priority w urgency is made = made ∙ ap (λ v. 512 * priority + v % 512) (is ∙ sym (get-block_in words 0 11 0 (omega arith)))

pub bring_newjob_up_to_date-requires : goal.bring_newjob_up_to_date-requires
bring_newjob_up_to_date-requires c =
    let (job, here, awake) = c.somebody_runs.ensures.runs (search rules) in
    let turned : Turned c.args.e.now c.set_word.new.e 0 job (urged c.args.priority job) (urgent_block c.args.priority (block_in c.args.e.now 0)) = (Turned-urged c.args.e.now c.set_word.new.e job c.args.priority c.requires.sets here awake (omega arith) (omega arith) (c.set_word.ensures.blocks ∙ ap (λ w. slice_set (blocks_of c.args.e.now) 0 (slice_set (block_in c.args.e.now 0) 11 w)) (urgency_is c.args.e.now c.args.priority c.word_of-area.result c.of_bits-urgency.result c.word_of-area.ensures.value (c.of_bits-urgency.ensures ∙ ap (λ p. 512 * p + c.word_of-area.result % 512) c.get.ensures.value)))) in
    urged-set c.args.e.now c.set_word.new.e job c.args.priority turned awake c.set_word.ensures.others

pub change_job-requires : goal.change_job-requires
change_job-requires c =
    let (job, here, awake) = c.somebody_runs.ensures.runs (search rules) in
    let turned : Turned c.args.e.now c.set_word.new.e 0 job (urged c.args.priority job) (urgent_block c.args.priority (block_in c.args.e.now 0)) = (Turned-urged c.args.e.now c.set_word.new.e job c.args.priority c.requires.sets here awake (omega arith) (omega arith) (c.set_word.ensures.blocks ∙ ap (λ w. slice_set (blocks_of c.args.e.now) 0 (slice_set (block_in c.args.e.now 0) 11 w)) (urgency_is c.args.e.now c.args.priority c.word_of-area.result c.of_bits-urgency.result c.word_of-area.ensures.value (c.of_bits-urgency.ensures ∙ ap (λ p. 512 * p + c.word_of-area.result % 512) c.get.ensures.value)))) in
    urged-lawful c.args.e.now c.set_word.new.e c.bring_newjob_up_to_date.new.e job c.args.priority c.requires awake turned c.set_word.ensures.others
    (record { words = c.bring_newjob_up_to_date.ensures.words; newjob = c.bring_newjob_up_to_date.ensures.newjob; uses = c.bring_newjob_up_to_date.ensures.uses; others = c.bring_newjob_up_to_date.ensures.others })

pub returns : goal.returns
returns c =
    let (job, here, awake) = c.somebody_runs.ensures.runs (search rules) in
    let turned : Turned c.args.e.now c.set_word.new.e 0 job (urged c.args.priority job) (urgent_block c.args.priority (block_in c.args.e.now 0)) = (Turned-urged c.args.e.now c.set_word.new.e job c.args.priority c.requires.sets here awake (omega arith) (omega arith) (c.set_word.ensures.blocks ∙ ap (λ w. slice_set (blocks_of c.args.e.now) 0 (slice_set (block_in c.args.e.now 0) 11 w)) (urgency_is c.args.e.now c.args.priority c.word_of-area.result c.of_bits-urgency.result c.word_of-area.ensures.value (c.of_bits-urgency.ensures ∙ ap (λ p. 512 * p + c.word_of-area.result % 512) c.get.ensures.value)))) in
    Does-prio c.args.e.now c.set_word.new.e c.bring_newjob_up_to_date.new.e c.change_job.new.e job c.args.priority c.change_job.result c.requires (here, awake) turned c.set_word.ensures.others
    (record { words = c.bring_newjob_up_to_date.ensures.words; newjob = c.bring_newjob_up_to_date.ensures.newjob; uses = c.bring_newjob_up_to_date.ensures.uses; others = c.bring_newjob_up_to_date.ensures.others })
    c.change_job.ensures
