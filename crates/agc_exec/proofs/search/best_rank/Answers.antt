use Rattle.std.proofs.Common.{◌≡◌, ◌∙◌, arith, length}
use Rattle.agc_exec.specs.Image.{sets_of}
use Rattle.agc_exec.proofs.Decoding.{length-sets}
use Rattle.agc_exec.proofs.Leads.{rank-none}
use Rattle.agc_exec.proofs.search.best_rank.Goals as goal

pub loop-k-init : goal.loop-k-init
loop-k-init c = rank-none (sets_of c.args.e.now)

pub returns-in-Seven : goal.returns-in-Seven
returns-in-Seven c =
    let len : length (sets_of c.args.e.now) ≡ c.loop-k.k = length-sets c.args.e.now ∙ (omega arith) in
    rw len c.loop-k.invariant

pub returns-in-Eight : goal.returns-in-Eight
returns-in-Eight c =
    let len : length (sets_of c.args.e.now) ≡ 8 = length-sets c.args.e.now ∙ (omega arith) in
    rw len c.better.ensures
