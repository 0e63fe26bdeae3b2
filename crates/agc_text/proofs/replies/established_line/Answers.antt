use Rattle.std.proofs.Common.{codes, sym, ◌∙◌, arith}
use Rattle.agc_text.proofs.Digits.{numbered}
use Rattle.agc_text.proofs.replies.established_line.Goals as goal

pub returns-in-1-clause-text : goal.returns-in-1-clause-text
returns-in-1-clause-text c = numbered (codes "job ") 1 c.args.number (omega arith) (sym c.in-1.is ∙ c.get.ensures.value)

pub returns-in-2-clause-text : goal.returns-in-2-clause-text
returns-in-2-clause-text c = numbered (codes "job ") 2 c.args.number (omega arith) (sym c.in-2.is ∙ c.get.ensures.value)

pub returns-in-3-clause-text : goal.returns-in-3-clause-text
returns-in-3-clause-text c = numbered (codes "job ") 3 c.args.number (omega arith) (sym c.in-3.is ∙ c.get.ensures.value)

pub returns-in-4-clause-text : goal.returns-in-4-clause-text
returns-in-4-clause-text c = numbered (codes "job ") 4 c.args.number (omega arith) (sym c.in-4.is ∙ c.get.ensures.value)

pub returns-in-5-clause-text : goal.returns-in-5-clause-text
returns-in-5-clause-text c = numbered (codes "job ") 5 c.args.number (omega arith) (sym c.in-5.is ∙ c.get.ensures.value)

pub returns-in-6-clause-text : goal.returns-in-6-clause-text
returns-in-6-clause-text c = numbered (codes "job ") 6 c.args.number (omega arith) (sym c.in-6.is ∙ c.get.ensures.value)

pub returns-in-7-clause-text : goal.returns-in-7-clause-text
returns-in-7-clause-text c = numbered (codes "job ") 7 c.args.number (omega arith) (sym c.in-7.is ∙ c.get.ensures.value)

pub returns-in-8-clause-text : goal.returns-in-8-clause-text
returns-in-8-clause-text c = numbered (codes "job ") 8 c.args.number (omega arith) (sym c.in-8.is ∙ c.get.ensures.value)
