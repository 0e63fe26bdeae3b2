use Rattle.agc_latch.proofs.Keeps.{begins_at_zero, post_keeps, take_keeps, split_keeps, join_keeps, takes_in_turn, takes_only_posted, is_bounded}
use Rattle.agc_latch.proofs.laws.steps_keep_the_rule.Goals as goal

pub returns-clause-new : goal.returns-clause-new
returns-clause-new c = begins_at_zero

pub returns-clause-post : goal.returns-clause-post
returns-clause-post c = post_keeps

pub returns-clause-take : goal.returns-clause-take
returns-clause-take c = take_keeps

pub returns-clause-split : goal.returns-clause-split
returns-clause-split c = split_keeps

pub returns-clause-join : goal.returns-clause-join
returns-clause-join c = join_keeps

pub returns-clause-turn : goal.returns-clause-turn
returns-clause-turn c = takes_in_turn

pub returns-clause-posted : goal.returns-clause-posted
returns-clause-posted c = takes_only_posted

pub returns-clause-bounded : goal.returns-clause-bounded
returns-clause-bounded c = is_bounded
