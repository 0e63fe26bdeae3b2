use Rattle.std.proofs.Common.{sym, ◌∙◌, ap, length, arith}
use Rattle.std.specs.List.{flat_map}
use Rattle.agc_machine.specs.Machines.{after}
use Rattle.agc_session.specs.Steps.{line_written}
use Rattle.agc_session.proofs.Pieces.{piece_requests, pieces_ask, next_piece}
use Rattle.agc_session.proofs.Walks.{all_left, left_as, some_asked, walk_stopped, walk_done}
use Rattle.agc_session.proofs.asking.ask_bench.Goals as goal

pub loop-walk-init : goal.loop-walk-init
loop-walk-init g c = record {
  left = left_as (sym (pieces_ask c.args.bench.now) ∙ ap (flat_map piece_requests) (sym c.new-walk.ensures.pieces)) (all_left after line_written _ _ _);
}

pub loop-walk-smaller : goal.loop-walk-smaller
loop-walk-smaller g c =
    let is = ap (λ ps. length ps) (rw c.loop-walk-test.true at c.advance.ensures) in
    omega (arith, is)

pub loop-walk-preserved : goal.loop-walk-preserved
loop-walk-preserved g c =
    let is = next_piece c.loop-walk.walk c.advance.new.self (rw c.loop-walk-test.true at c.advance.ensures) in
    record { left = some_asked _ _ (left_as is c.loop-walk.invariant.left) (rw c.requests.ensures at c.in_ok-ask_all.ensures) }

pub returns-in_err-ask_all : goal.returns-in_err-ask_all
returns-in_err-ask_all g c =
    let is = next_piece c.loop-walk.walk c.advance.new.self (rw c.loop-walk-test.true at c.advance.ensures) in
    walk_stopped _ _ c.from_residual.result (left_as is c.loop-walk.invariant.left) (rw c.requests.ensures at c.in_err-ask_all.ensures) c.from_residual.ensures.0

pub returns : goal.returns
returns g c =
    let is = rw c.loop-walk-test.false at c.advance.ensures in
    walk_done (left_as (ap (flat_map piece_requests) is.0) c.loop-walk.invariant.left)
