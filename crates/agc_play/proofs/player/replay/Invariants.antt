use Rattle.std.proofs.Common.{◌≡◌, drop}
use Rattle.std.specs.List.{fold}
use Rattle.agc_run.specs.Events.{watched, watching_from}
use Rattle.agc_play.proofs.player.replay.Given as goal

abbrev pub invariant-loop-request : goal.invariant-loop-request
invariant-loop-request l =
    fold watched l.run.watching (drop l.request-index l.requests) ≡ fold watched (watching_from l.fn.machine) l.requests
