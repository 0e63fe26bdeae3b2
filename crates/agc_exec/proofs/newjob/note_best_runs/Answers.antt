use Rattle.std.proofs.Common.{◌∙◌, ap, arith}
use Rattle.agc_word.specs.Layout as layout
use Rattle.agc_exec.specs.Blocks.{blocks_of}
use Rattle.agc_exec.proofs.Reading.{blocks_of-kept}
use Rattle.agc_exec.proofs.newjob.note_best_runs.Goals as goal

pub returns-clause-words : goal.returns-clause-words
returns-clause-words c = ap blocks_of c.set.ensures.value ∙ blocks_of-kept c.args.e.now layout.newjob c.of_bits.result c.requires.set.sized (omega arith) (omega arith)
