use Rattle.std.proofs.Common.{◌≡◌, ◌∙◌, arith, length, None, slice_index_or}
use Rattle.agc_exec.specs.Image.{sets_of}
use Rattle.agc_exec.specs.Stages.{sleeper_rank}
use Rattle.agc_exec.proofs.Decoding.{length-sets}
use Rattle.agc_exec.proofs.Ranks.{IsMost-more}
use Rattle.agc_exec.proofs.search.first_sleeper.Goals as goal

pub loop-k-preserved : goal.loop-k-preserved
loop-k-preserved c =
    rw c.greater-first.ensures (IsMost-more (λ k. sleeper_rank c.args.at k (slice_index_or (sets_of c.args.e.now) k None)) c.loop-k.k c.loop-k.first c.sleepers_rank.result c.sleepers_rank.ensures c.loop-k.invariant)

pub returns-in-Seven : goal.returns-in-Seven
returns-in-Seven c =
    let len : length (sets_of c.args.e.now) ≡ c.loop-k.k = length-sets c.args.e.now ∙ (omega arith) in
    rw len c.loop-k.invariant

pub returns-in-Eight : goal.returns-in-Eight
returns-in-Eight c =
    let len : length (sets_of c.args.e.now) ≡ 8 = length-sets c.args.e.now ∙ (omega arith) in
    let seven : c.loop-k.k ≡ 7 = omega arith in
    rw (len, c.greater.ensures) (IsMost-more (λ k. sleeper_rank c.args.at k (slice_index_or (sets_of c.args.e.now) k None)) 7 c.loop-k.first c.sleepers_rank-in-Eight.result c.sleepers_rank-in-Eight.ensures (rw seven at c.loop-k.invariant))
