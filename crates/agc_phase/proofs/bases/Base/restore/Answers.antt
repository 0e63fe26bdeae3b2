use Rattle.std.proofs.Common.{subst}
use Rattle.agc_plan.specs.Base as plain
use Rattle.agc_phase.specs.Image.{Becomes}
use Rattle.agc_phase.proofs.Writes.{Becomes-restored}
use Rattle.agc_phase.proofs.bases.Base.restore.Goals as goal

pub returns : goal.returns
returns c =
    let inside = c.self.inside in
    subst (λ (b : plain.Base). Becomes b c.args.e.now c.write_codes.new.e) c.self.view_is
    (Becomes-restored inside.phases inside.codes c.args.e.now _ _ c.self.invariant.0 c.self.invariant.1 c.self.invariant.2 c.write_pairs.ensures c.write_codes.ensures)
