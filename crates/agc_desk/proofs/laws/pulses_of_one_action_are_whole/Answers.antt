use Rattle.agc_desk.proofs.Whole.{one_request, each_asked, none_begun, all_served, whole_drained, whole_left}
use Rattle.agc_desk.proofs.laws.pulses_of_one_action_are_whole.Goals as goal

pub returns-clause-action : goal.returns-clause-action
returns-clause-action c = one_request

pub returns-clause-asked : goal.returns-clause-asked
returns-clause-asked c = each_asked

pub returns-clause-not_begun : goal.returns-clause-not_begun
returns-clause-not_begun c = none_begun

pub returns-clause-served : goal.returns-clause-served
returns-clause-served c = all_served

pub returns-clause-drained : goal.returns-clause-drained
returns-clause-drained c = whole_drained

pub returns-clause-left : goal.returns-clause-left
returns-clause-left c = whole_left
