use Rattle.agc_wait.proofs.Firings.{FiresInOrder-is}
use Rattle.agc_wait.proofs.laws.earliest_arrival_is_first_in_order.Goals as goal

pub returns : goal.returns
returns c = FiresInOrder-is
