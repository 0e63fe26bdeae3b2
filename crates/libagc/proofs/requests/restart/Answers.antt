use Rattle.std.proofs.Common.{◌∙◌}
use Rattle.agc_image.proofs.Frames.{lawful_by_cores, lawful_by_waits}
use Rattle.libagc.proofs.Emptying.{emptied}
use Rattle.libagc.proofs.requests.restart.Goals as goal

pub returns : goal.returns
returns c = record {
  empties = emptied c.args.e.now c.clear.new.e c.clear-2.new.e c.clear.ensures.clears c.clear-2.ensures;
  lawful = lawful_by_waits c.clear.new.e c.clear-2.new.e c.clear-2.ensures.others (lawful_by_cores c.args.e.now c.clear.new.e c.clear.ensures.clears.others c.requires c.clear.ensures.clears.lawful) c.clear-2.ensures.lawful;
  size = c.clear-2.ensures.others.same_length ∙ c.clear.ensures.clears.others.same_length;
}
