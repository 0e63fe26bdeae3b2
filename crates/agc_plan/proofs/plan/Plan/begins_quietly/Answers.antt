use Rattle.std.proofs.Common.{subst}
use Rattle.agc_plan.specs.Plans.{Written}
use Rattle.agc_plan.specs.Quiet.{BeginsQuietly}
use Rattle.agc_plan.proofs.Quiet.{quiet}
use Rattle.agc_plan.proofs.plan.Plan.begins_quietly.Goals as goal

pub returns-clause-quiet : goal.returns-clause-quiet
returns-clause-quiet c =
    subst (λ (p : Written). BeginsQuietly p) c.self.view_is
    (quiet (record { rows = c.self.inside.rows.items; entries = c.self.inside.entries.items; key = c.self.inside.key; radar = c.self.inside.radar }) c.self.invariant.0)
