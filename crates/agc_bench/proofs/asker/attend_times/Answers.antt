use Rattle.agc_bench.proofs.Pulses.{pulses_none, pulses_more}
use Rattle.agc_bench.proofs.asker.attend_times.Goals as goal

pub loop-time-init : goal.loop-time-init
loop-time-init g c = pulses_none c.args.share

pub loop-time-preserved : goal.loop-time-preserved
loop-time-preserved g c =
    pulses_more c.loop-time._time g.N.Names.first g.N.Sharing.latch c.args.share c.loop-time.share c.attend.result c.attend.new.share c.loop-time.invariant c.attend.ensures
