use Rattle.std.proofs.Common.{◌∙◌, ap, arith}
use Rattle.agc_exec.specs.Blocks.{blocks_of}
use Rattle.agc_exec.proofs.Reading.{blocks_of-kept}
use Rattle.agc_exec.proofs.area.take_area.Goals as goal

pub returns-then-area-gt0-clause-words : goal.returns-then-area-gt0-clause-words
returns-then-area-gt0-clause-words c = ap blocks_of c.set.ensures.value ∙ blocks_of-kept c.args.e.now c.use_place.result c.zero.result c.requires.sized (omega arith) (omega arith)
