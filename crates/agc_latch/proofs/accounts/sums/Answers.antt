use Rattle.std.proofs.Common.{rules}
use Rattle.agc_plan.specs.declared.line.Line.TheVariants.{Timer, Key, Radar}
use Rattle.agc_latch.proofs.accounts.sums.Goals as goal

pub overflow_add-result : goal.overflow_add-result
overflow_add-result c = let timer = c.requires Timer in search rules

pub overflow_add-result-2 : goal.overflow_add-result-2
overflow_add-result-2 c = let key = c.requires Key in search rules

pub overflow_add-result-3 : goal.overflow_add-result-3
overflow_add-result-3 c = let radar = c.requires Radar in search rules
