use Rattle.std.proofs.Common.{◌∙◌}
use Rattle.agc_run.proofs.Showing.{scene_now_is}
use Rattle.agc_run.proofs.observed_run.scene_now.Goals as goal

pub returns : goal.returns
returns c = c.scene_of.ensures ∙ scene_now_is c.args.machine.now c.erasable.result.now c.erasable.ensures
