use Rattle.std.proofs.Common.{◌≡◌, length, arith}
use Rattle.std.specs.List.{range_with_len}
use Rattle.std.proofs.lemmas.List.FromFn.{length-range_with_len}
use Rattle.agc_text.specs.Report.{set_line, sets_text}
use Rattle.agc_text.proofs.Steps.{up_to_start, up_to_number, up_to_last, up_to_more, fails_next}
use Rattle.agc_text.proofs.reporting.put_sets.Goals as goal

pub returns-in_err-put_set : goal.returns-in_err-put_set
returns-in_err-put_set g c =
    fails_next _ _ _ _ _ _ c.from_residual.result
    (up_to_number (set_line c.args.words.now) _ _ _ c.args.sets c.loop-set.set (omega arith) c.loop-set.invariant)
    c.in_err-put_set.ensures c.from_residual.ensures.0

pub loop-set-preserved : goal.loop-set-preserved
loop-set-preserved g c =
    up_to_more _ _ _ _ _ _
    (up_to_number (set_line c.args.words.now) _ _ _ c.args.sets c.loop-set.set (omega arith) c.loop-set.invariant)
    c.in_ok-put_set.ensures

pub loop-set-init : goal.loop-set-init
unfolding sets_text
loop-set-init g c = up_to_start _ _

pub returns : goal.returns
returns g c =
    let long : length (range_with_len 0 c.args.sets) ≡ c.args.sets = length-range_with_len 0 c.args.sets in
    up_to_last (set_line c.args.words.now) _ _ _ (range_with_len 0 c.args.sets) c.loop-set.set (omega arith) c.loop-set.invariant
