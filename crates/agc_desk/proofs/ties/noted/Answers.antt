use Rattle.std.proofs.Common.{ap, ◌∙◌, ◌≡◌}
use Rattle.agc_desk.specs.Views.{joined}
use Rattle.agc_desk.proofs.Moves.{takes, notes}
use Rattle.agc_desk.proofs.ties.noted.Goals as goal

pub join_seat-requires : goal.join_seat-requires
join_seat-requires g c = (c.requires.table.0, c.requires.table.1, c.requires.owns.1, c.requires.table.2, takes _ _ _ _ c.requires.keeps)

pub split_seat-requires : goal.split_seat-requires
split_seat-requires g c =
    let j = c.join_seat.ensures in
    let v : c.join_seat.new.seat.me.0 ≡ joined c.args.keeper.now.me.0 c.args.pass.me.0 = ap (λ m. m.0) j.2 in
    (j.0 ∙ c.requires.table.0, c.requires.table.2, notes _ _ _ _ (ap (λ u. u.keeps) v ∙ c.requires.keeps) (ap (λ u. u.owns) v ∙ c.requires.owns.0))
