use Rattle.std.proofs.Common.{ℕ, List, subst}
use Rattle.agc_word.specs.Layout.{sets_in}
use Rattle.agc_plan.specs.Plans.{planned_with}
use Rattle.agc_machine.specs.Stands.{FiresIn, RaisesIn}
use Rattle.agc_machine.proofs.moment.moment_of.Goals as goal

pub returns-clause-fired : goal.returns-clause-fired
returns-clause-fired g c =
    subst (λ (words : List ℕ). FiresIn (planned_with (g.P.Plans.written c.args.plan.now) (sets_in words)) c.args.request.now words c.act_told-reply.new.fired) c.copy_of-erasable.ensures c.act_told-reply.ensures.fired

pub returns-clause-raised : goal.returns-clause-raised
returns-clause-raised g c =
    subst (λ (words : List ℕ). RaisesIn (planned_with (g.P.Plans.written c.args.plan.now) (sets_in words)) c.args.request.now words c.act_told-reply.result.1) c.copy_of-erasable.ensures c.act_told-reply.ensures.raised
