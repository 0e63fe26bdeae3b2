use Rattle.std.proofs.Common.{◌∙◌, ap, slice_set, arith, rules}
use Rattle.agc_exec.specs.Blocks.{blocks_of, block_in}
use Rattle.agc_exec.proofs.Turning.{Turned, Turned-stored, with_stored, Does-store}
use Rattle.agc_exec.proofs.change.store.Goals as goal

pub returns : goal.returns
returns c =
    let (job, here, awake) = c.somebody_runs.ensures.runs (search rules) in
    let turned : Turned c.args.e.now c.set_word.new.e 0 job (with_stored c.args.place c.args.word job) (slice_set (block_in c.args.e.now 0) c.args.place c.args.word) =
    Turned-stored c.args.e.now c.set_word.new.e job c.args.place c.args.word c.requires.sets here awake (omega arith) (omega arith) (c.set_word.ensures.blocks ∙ ap (λ i. slice_set (blocks_of c.args.e.now) 0 (slice_set (block_in c.args.e.now 0) i c.args.word)) c.get.ensures.value) in
    Does-store c.args.e.now c.set_word.new.e job c.args.place c.args.word c.requires (here, awake) turned (omega arith) c.set_word.ensures.others
