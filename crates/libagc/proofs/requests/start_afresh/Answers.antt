use Rattle.std.proofs.Common.{◌∙◌}
use Rattle.libagc.proofs.Emptying.{begun_afresh, lawful_afresh}
use Rattle.libagc.proofs.requests.start_afresh.Goals as goal

pub returns : goal.returns
returns c = record {
  empties = begun_afresh c.args.e.now c.clear.new.e c.clear-2.new.e c.clear-3.new.e c.clear.ensures.clears c.clear-2.ensures c.clear-3.ensures;
  lawful = lawful_afresh c.args.e.now c.clear.new.e c.clear-2.new.e c.clear-3.new.e c.clear.ensures.clears c.clear-2.ensures c.clear-3.ensures;
  size = c.clear-3.ensures.others.same_length ∙ c.clear-2.ensures.others.same_length ∙ c.clear.ensures.clears.others.same_length;
}
