use Rattle.std.proofs.Common.{arith}
use Rattle.agc_text.proofs.Cuts.{parts_are}
use Rattle.agc_text.proofs.line.split_at_space.Goals as goal

pub returns : goal.returns
returns c = parts_are 32 c.args.text.now c.split_once.result c.split_once.ensures.cases (omega arith)
