use Rattle.std.proofs.Common.{◌++◌}
use Rattle.agc_text.proofs.Steps.{up_to_start, up_to_more, fails_next}
use Rattle.agc_watch.proofs.Written.{up_to_second, writes_last}
use Rattle.agc_watch.proofs.page.put_three.Goals as goal

pub returns-in_err-put : goal.returns-in_err-put
returns-in_err-put g c =
    fails_next _ _ _ _ c.args.front.now (c.args.inner.now ++ c.args.end.now) c.from_residual.result (up_to_start _ _) c.in_err-put.ensures c.from_residual.ensures.0

pub returns-in_err-put-2 : goal.returns-in_err-put-2
returns-in_err-put-2 g c =
    fails_next _ _ _ _ c.args.inner.now c.args.end.now c.from_residual-in_err-put-2.result
    (up_to_second _ _ c.args.front.now (c.args.inner.now ++ c.args.end.now) c.in_ok-put.ensures) c.in_err-put-2.ensures c.from_residual-in_err-put-2.ensures.0

pub returns : goal.returns
returns g c =
    writes_last _ _ _ _ c.args.end.now c.put-3.result
    (up_to_more _ _ _ _ c.args.inner.now c.args.end.now (up_to_second _ _ c.args.front.now (c.args.inner.now ++ c.args.end.now) c.in_ok-put.ensures) c.in_ok-put-2.ensures)
    c.put-3.ensures
