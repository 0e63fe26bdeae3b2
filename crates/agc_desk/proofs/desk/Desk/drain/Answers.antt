use Rattle.std.proofs.Common.{None, subst}
use Rattle.agc_plan.specs.declared.line.Line.TheVariants.{Timer}
use Rattle.agc_desk.specs.History.{Holder}
use Rattle.agc_desk.specs.Stages.{DrainsLine}
use Rattle.agc_desk.proofs.Thrice.{drains}
use Rattle.agc_desk.proofs.desk.Desk.drain.Goals as goal

pub returns : goal.returns
returns g c =
    drains _ _ _ _ _ _ _ c.args.self.now c.collect-taken.new.self _ _ _ c.args.share.now _ _ _
    c.collect-taken.ensures.desk c.collect-taken.ensures.lines
    (subst (λ (s : Holder). DrainsLine None c.collect-taken.new.self.machine.plan Timer c.collect-taken.new.self s c.drain_line-timer.result.0 c.drain_line-timer.result.1 c.drain_line-timer.new.self c.drain_line-timer.new.share) c.count_drain.ensures c.drain_line-timer.ensures)
    c.drain_line-key.ensures c.drain_line-radar.ensures
