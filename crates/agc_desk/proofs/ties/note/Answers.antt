use Rattle.agc_desk.proofs.Moves.{spares}
use Rattle.agc_desk.proofs.ties.note.Goals as goal

pub split_seat-spare-requires : goal.split_seat-spare-requires
split_seat-spare-requires c = (c.requires.table.0, c.requires.table.2, spares _ _)
