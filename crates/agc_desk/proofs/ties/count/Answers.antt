use Rattle.agc_desk.proofs.Moves.{counts_as}
use Rattle.agc_desk.proofs.ties.count.Goals as goal

pub load-requires : goal.load-requires
load-requires c = (c.requires.0, c.requires.1, counts_as _ _ _)
