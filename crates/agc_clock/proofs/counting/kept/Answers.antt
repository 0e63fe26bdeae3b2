use Rattle.std.proofs.Common.{◌≡◌, ◌+◌, length, map, ext_get_or, sym, ◌∙◌, arith}
use Rattle.std.specs.List.{range_with_len}
use Rattle.std.proofs.lemmas.List.FromFn.{get_or-map-range_with_len}
use Rattle.agc_exec.specs.Image.{jobs_in}
use Rattle.agc_clock.specs.Counts.{kept_by}
use Rattle.agc_clock.proofs.counting.kept.Goals as goal

pub returns : goal.returns
returns c =
    let all = map (kept_by c.args.began (jobs_in c.args.words.now) c.args.given.now) (range_with_len 1 8) in
    let eight : length c.loop-place.all ≡ length all = c.loop-place.invariant.eight in
    ext_get_or 0 c.loop-place.all all eight
    (λ i lt. c.loop-place.invariant.before i (omega arith)
    ∙ sym (get_or-map-range_with_len (kept_by c.args.began (jobs_in c.args.words.now) c.args.given.now) 1 8 i (i + 1) 0 (omega arith) (omega arith)))
