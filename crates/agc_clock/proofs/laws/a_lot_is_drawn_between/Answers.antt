use Rattle.agc_clock.proofs.Drawing.{drawn_least, drawn_most, drawn_some}
use Rattle.agc_clock.proofs.laws.a_lot_is_drawn_between.Goals as goal

pub returns-clause-some : goal.returns-clause-some
returns-clause-some c = drawn_some

pub returns-clause-most : goal.returns-clause-most
returns-clause-most c = drawn_most

pub returns-clause-least : goal.returns-clause-least
returns-clause-least c = drawn_least
