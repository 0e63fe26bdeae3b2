use Rattle.agc_machine.specs.Stands.{alarm_in, number_in}
use Rattle.agc_machine.proofs.Fires.{works_ticked, fires_ticked, raises_ticked}
use Rattle.agc_machine.proofs.Frames.{sound_by_waits, base_by_waits}
use Rattle.agc_machine.proofs.tick.tick.Goals as goal

pub fire-requires-clause-sound : goal.fire-requires-clause-sound
fire-requires-clause-sound g c =
    sound_by_waits c.args.e.now c.count_time3.new.e c.count_time3.ensures.others c.requires.ready.sound c.count_time3.ensures.lawful (c.count_time3.ensures.tidy c.requires.ready.sound.tidy_waits)

pub returns-clause-works : goal.returns-clause-works
returns-clause-works g c =
    works_ticked (g.P.Plans.written c.args.plan.now).rows c.args.e.now c.count_time3.new.e c.count_time3.result c.fire.new.fired (alarm_in c.fire.result) (number_in c.fire.result) c.fire.new.e c.count_time3.ensures c.fire.ensures (base_by_waits c.args.e.now c.count_time3.new.e c.count_time3.ensures.others)

pub returns-clause-fired : goal.returns-clause-fired
returns-clause-fired g c =
    fires_ticked (g.P.Plans.written c.args.plan.now).rows c.args.e.now c.count_time3.new.e c.count_time3.result c.fire.new.fired (alarm_in c.fire.result) (number_in c.fire.result) c.fire.new.e c.count_time3.ensures c.fire.ensures

pub returns-clause-raised : goal.returns-clause-raised
returns-clause-raised g c =
    raises_ticked (g.P.Plans.written c.args.plan.now).rows c.args.e.now c.count_time3.new.e c.count_time3.result c.fire.new.fired (alarm_in c.fire.result) (number_in c.fire.result) c.fire.new.e c.count_time3.ensures c.fire.ensures
