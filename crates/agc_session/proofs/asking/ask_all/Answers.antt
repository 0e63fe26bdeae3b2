use Rattle.agc_machine.specs.Machines.{after}
use Rattle.agc_plan.proofs.Lists.{next_is, none_left}
use Rattle.agc_session.specs.Steps.{line_written, line_stopped}
use Rattle.agc_session.proofs.Walks.{all_left, left_as, one_asked, one_failed, walk_done}
use Rattle.agc_session.proofs.asking.ask_all.Goals as goal

pub loop-request-init : goal.loop-request-init
loop-request-init g c = record { left = all_left after line_written _ _ _ }

pub loop-request-preserved : goal.loop-request-preserved
loop-request-preserved g c =
    let is = next_is c.args.requests.now c.loop-request.request-index c.request-item.result c.loop-request-test.true c.request-item.is in
    record { left = one_asked (left_as is c.loop-request.invariant.left) c.in_ok-write_answer_to.ensures.after c.in_ok-write_answer_to.ensures.writes }

pub returns-in_err-write_answer_to : goal.returns-in_err-write_answer_to
returns-in_err-write_answer_to g c =
    let is = next_is c.args.requests.now c.loop-request.request-index c.request-item.result c.loop-request-test.true c.request-item.is in
    one_failed line_stopped c.from_residual.result (left_as is c.loop-request.invariant.left) c.write_answer_to.ensures.after c.in_err-write_answer_to.ensures.writes c.from_residual.ensures.0

pub returns : goal.returns
returns g c = walk_done (left_as (none_left c.args.requests.now c.loop-request.request-index c.loop-request-test.false) c.loop-request.invariant.left)
