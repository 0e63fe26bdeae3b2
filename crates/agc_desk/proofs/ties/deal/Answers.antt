use Rattle.agc_desk.proofs.Moves.{deals}
use Rattle.agc_desk.proofs.ties.deal.Goals as goal

pub split_seat-requires : goal.split_seat-requires
split_seat-requires c = (c.requires.table.0, c.requires.table.1, deals _ _ c.requires.keeps)
