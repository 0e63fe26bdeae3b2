use Rattle.std.proofs.Common.{ap, ◌∙◌}
use Rattle.agc_desk.proofs.Moves.{takes, gathers_as}
use Rattle.agc_desk.proofs.ties.gather.Goals as goal

pub join_seat-requires : goal.join_seat-requires
join_seat-requires c = (c.requires.table.0, c.requires.table.1, c.requires.owns.1, c.requires.table.2, takes _ _ _ _ c.requires.keeps)

pub load-requires : goal.load-requires
load-requires c =
    let j = c.join_seat.ensures in
    (j.0 ∙ c.requires.table.0, c.requires.table.2, gathers_as _ _ _ (ap (λ m. m.0.keeps) j.2 ∙ c.requires.keeps) (ap (λ m. m.0.owns) j.2 ∙ c.requires.owns.0))
