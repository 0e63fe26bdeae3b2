use Rattle.std.proofs.Common.{◌-◌, ◌<◌, arith}
use Rattle.agc_phase.proofs.Writes.{Becomes-pair}
use Rattle.agc_phase.proofs.table.set_phase.Goals as goal

pub returns : goal.returns
returns c =
    let lt : c.args.group - 1 < 6 = omega (arith, c.get.ensures) in
    Becomes-pair c.args.e.now c.write_pair.new.e (c.args.group - 1) c.args.phase lt c.requires (rw c.get.ensures.value at c.write_pair.ensures)
