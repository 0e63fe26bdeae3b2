use Rattle.std.proofs.Common.{◌≤◌, length, arith}
use Rattle.agc_exec.specs.Seats.{seats_in}
use Rattle.agc_exec.proofs.Seating.{length-seats}
use Rattle.agc_run.proofs.Steps.{grown, whole_is}
use Rattle.agc_run.proofs.scene.seats_of.Goals as goal

pub loop-k-preserved : goal.loop-k-preserved
loop-k-preserved c = record {
  rest = grown (seats_in c.args.e.now) c.loop-k.k c.job_at.result c.loop-k.seats.items c.push.new.self.items _ c.job_at.ensures c.push.ensures.items c.loop-k.invariant.rest;
  len = omega arith;
  end = c.loop-k.invariant.end;
  eight = c.loop-k.invariant.eight;
}

pub returns : goal.returns
returns c =
    let past : length (seats_in c.args.e.now) ≤ c.loop-k.k = rw (length-seats c.args.e.now) (omega arith) in
    whole_is (seats_in c.args.e.now) c.loop-k.k c.loop-k.seats.items _ past c.loop-k.invariant.rest
