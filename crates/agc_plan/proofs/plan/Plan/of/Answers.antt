use Rattle.std.proofs.Common.{arith}
use Rattle.std.proofs.lemmas.Grind.{common_steps}
use Rattle.agc_plan.proofs.Quiet.{quiet}
use Rattle.agc_plan.proofs.plan.Plan.of.Goals as goal

pub returns-in-None-clause-quiet : goal.returns-in-None-clause-quiet
returns-in-None-clause-quiet c =
    quiet (record { rows = c.args.rows.items; entries = c.extend_from_slice.new.self.items; key = c.args.key; radar = c.args.radar }) (grind (arith, common_steps))
