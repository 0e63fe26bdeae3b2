use Rattle.agc_desk.proofs.Moves.{checks_as}
use Rattle.agc_desk.proofs.ties.check.Goals as goal

pub load-requires : goal.load-requires
load-requires c = (c.requires.table.0, c.requires.table.1, checks_as _ _ _ c.requires.keeps)
