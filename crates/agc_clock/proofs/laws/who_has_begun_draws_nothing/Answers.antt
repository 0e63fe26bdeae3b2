use Rattle.agc_clock.proofs.Drawing.{plain_draws_nothing}
use Rattle.agc_clock.proofs.Working.{begun_stays}
use Rattle.agc_clock.proofs.laws.who_has_begun_draws_nothing.Goals as goal

pub returns-clause-plain : goal.returns-clause-plain
returns-clause-plain c = plain_draws_nothing

pub returns-clause-once : goal.returns-clause-once
returns-clause-once c = begun_stays
