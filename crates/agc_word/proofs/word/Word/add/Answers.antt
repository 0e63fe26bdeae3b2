use Rattle.std.proofs.Common.{refl, arith}
use Rattle.std.proofs.lemmas.Int.{ints}
use Rattle.agc_word.proofs.Sums.{above, below, value_of-within}
use Rattle.agc_word.proofs.word.Word.add.Goals as goal

pub invariant_of-result : goal.invariant_of-result
invariant_of-result c = (above c.args.self c.args.other c.value.result c.value-2.result c.value.ensures.value c.value-2.ensures.value c.value.ensures.range c.value-2.ensures.range c.if-exact-ge16384.true).range

pub returns-then-exact-ge16384-clause-sum : goal.returns-then-exact-ge16384-clause-sum
returns-then-exact-ge16384-clause-sum c = (above c.args.self c.args.other c.value.result c.value-2.result c.value.ensures.value c.value-2.ensures.value c.value.ensures.range c.value-2.ensures.range c.if-exact-ge16384.true).sum

pub returns-then-exact-ge16384-clause-exact : goal.returns-then-exact-ge16384-clause-exact
returns-then-exact-ge16384-clause-exact c off = absurd (cc)

pub returns-then-exact-ge16384-clause-above : goal.returns-then-exact-ge16384-clause-above
returns-then-exact-ge16384-clause-above c h = (refl, (above c.args.self c.args.other c.value.result c.value-2.result c.value.ensures.value c.value-2.ensures.value c.value.ensures.range c.value-2.ensures.range c.if-exact-ge16384.true).value)

pub returns-then-exact-ge16384-clause-below : goal.returns-then-exact-ge16384-clause-below
returns-then-exact-ge16384-clause-below c h = absurd ((above c.args.self c.args.other c.value.result c.value-2.result c.value.ensures.value c.value-2.ensures.value c.value.ensures.range c.value-2.ensures.range c.if-exact-ge16384.true).not_below h)

pub returns-then-exact-ge16384-clause-range : goal.returns-then-exact-ge16384-clause-range
returns-then-exact-ge16384-clause-range c = (above c.args.self c.args.other c.value.result c.value-2.result c.value.ensures.value c.value-2.ensures.value c.value.ensures.range c.value-2.ensures.range c.if-exact-ge16384.true).range

pub returns-then-exact-leminus16384-clause-sum : goal.returns-then-exact-leminus16384-clause-sum
returns-then-exact-leminus16384-clause-sum c = (below c.args.self c.args.other c.neg.result c.value.result c.value-2.result c.value.ensures.value c.value-2.ensures.value c.value.ensures.range c.value-2.ensures.range c.if-exact-leminus16384.true c.neg.ensures.turned).sum

pub returns-then-exact-leminus16384-clause-exact :
    goal.returns-then-exact-leminus16384-clause-exact
returns-then-exact-leminus16384-clause-exact c off = absurd (cc)

pub returns-then-exact-leminus16384-clause-above :
    goal.returns-then-exact-leminus16384-clause-above
returns-then-exact-leminus16384-clause-above c h = absurd ((below c.args.self c.args.other c.neg.result c.value.result c.value-2.result c.value.ensures.value c.value-2.ensures.value c.value.ensures.range c.value-2.ensures.range c.if-exact-leminus16384.true c.neg.ensures.turned).not_above h)

pub returns-then-exact-leminus16384-clause-below :
    goal.returns-then-exact-leminus16384-clause-below
returns-then-exact-leminus16384-clause-below c h = (refl, (below c.args.self c.args.other c.neg.result c.value.result c.value-2.result c.value.ensures.value c.value-2.ensures.value c.value.ensures.range c.value-2.ensures.range c.if-exact-leminus16384.true c.neg.ensures.turned).value)

pub returns-else-exact-leminus16384-clause-exact :
    goal.returns-else-exact-leminus16384-clause-exact
returns-else-exact-leminus16384-clause-exact c h =
    value_of-within c.args.self c.args.other c.carried_round.result c.value.result c.value-2.result (omega arith) (omega arith) c.value.ensures.value c.value-2.ensures.value (grind (arith, ints)) (grind (arith, ints)) (grind (arith, c.carried_round.ensures))
