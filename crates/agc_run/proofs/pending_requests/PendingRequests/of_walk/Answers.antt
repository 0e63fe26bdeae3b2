use Rattle.std.proofs.Common.{refl}
use Rattle.agc_run.proofs.Passing.{listed_asks}
use Rattle.agc_run.proofs.pending_requests.PendingRequests.of_walk.Goals as goal

pub returns : goal.returns
returns c m = listed_asks m c.args.walk c.none.result c.new.result _ refl
