use Rattle.std.proofs.Common.{◌∙◌}
use Rattle.agc_word.specs.Layout.{sets_in}
use Rattle.agc_plan.specs.Plans.{planned_with}
use Rattle.agc_machine.proofs.Acting.{acts_ticked}
use Rattle.agc_machine.proofs.moment.act_told.Goals as goal

pub returns-in-Tick-clause-acts : goal.returns-in-Tick-clause-acts
returns-in-Tick-clause-acts g c =
    acts_ticked (planned_with (g.P.Plans.written c.args.plan.now) (sets_in c.args.e.now)) c.args.request.now c.args.e.now c.tick-raised.result c.alarm_in.result c.tick-raised.new.e c.tick-raised.ensures.works c.alarm_in.ensures c.in-Tick.is

pub returns-in-Tick-clause-fired : goal.returns-in-Tick-clause-fired
returns-in-Tick-clause-fired g c = λ plain places stands. rw c.in-Tick.is (c.tick-raised.ensures.fired plain.work places stands.work)

pub returns-in-Tick-clause-raised : goal.returns-in-Tick-clause-raised
returns-in-Tick-clause-raised g c = λ plain places stands. rw c.in-Tick.is (c.number_in.ensures ∙ c.tick-raised.ensures.raised plain.work places stands.work)
