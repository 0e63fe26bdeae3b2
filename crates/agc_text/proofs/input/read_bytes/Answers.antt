use Rattle.std.proofs.Common.{◌++◌, take, arith, length-append, length-take}
use Rattle.std.proofs.lemmas.Result.{err_from_is_err_and}
use Rattle.agc_text.proofs.Pieces.{consumes_both}
use Rattle.agc_text.proofs.input.read_bytes.Goals as goal

pub returns-then-count-len-clause-refused : goal.returns-then-count-len-clause-refused
returns-then-count-len-clause-refused g c =
    (c.loop.bytes.items ++ take c.in-Ok.count c.one.new.piece, consumes_both _ _ _ _ _ c.loop.invariant.read c.in-Ok.ensures.bytes.0, simp (length-append, length-take) (omega (arith, c.in-Ok.ensures.bound, c.len.ensures, c.if-count-len.true)), simp (length-append, length-take) (omega (arith, c.loop.invariant.fits, c.loop.invariant.room, c.in-Ok.ensures.bound)))

pub returns-in_err-extend_from_slice-in-Ok-clause-refused :
    goal.returns-in_err-extend_from_slice-in-Ok-clause-refused
returns-in_err-extend_from_slice-in-Ok-clause-refused g c =
    let p = err_from_is_err_and c.from_residual.result c.from_residual.ensures.1 in
    rw (p.1, p.2) (c.loop.bytes.items ++ take c.in-Ok.count c.one.new.piece, consumes_both _ _ _ _ _ c.loop.invariant.read c.in-Ok.ensures.bytes.0, simp (length-append, length-take) (omega (arith, c.in-Ok.ensures.bound, c.len.ensures, c.if-count-len.false)))
