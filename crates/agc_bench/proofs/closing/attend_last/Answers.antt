use Rattle.agc_bench.proofs.Pulses.{drained_pulses}
use Rattle.agc_bench.proofs.closing.attend_last.Goals as goal

pub returns-clause-asks : goal.returns-clause-asks
returns-clause-asks g c =
    drained_pulses c.args.desk.now c.args.share.now c.drain.result c.drain.new.self c.drain.new.share c.drain.ensures
