use Rattle.std.proofs.Common.{◌∙◌, ap}
use Rattle.agc_run.specs.Events.{watching_from}
use Rattle.agc_play.proofs.player.run_by_hand.Goals as goal

pub returns : goal.returns
returns c = c.new-2.ensures.watched ∙ ap watching_from c.new.ensures.machine
