use Rattle.std.proofs.Common.{◌≤◌, refl, length, get_or, None, ◌∙◌, arith}
use Rattle.agc_exec.specs.Seats.{seats_in}
use Rattle.agc_exec.proofs.Seating.{length-seats}
use Rattle.agc_stats.proofs.States.{all_seen, none_seen, one_seen}
use Rattle.agc_stats.proofs.live_jobs.jobs_in.Goals as goal

pub loop-set-init : goal.loop-set-init
loop-set-init c = record {
  eight = refl;
  each = λ n lt. none_seen (seats_in c.args.words.now) n lt;
  end = c.count-set-end.ensures ∙ c.sets.ensures.count;
}

pub loop-set-preserved : goal.loop-set-preserved
loop-set-preserved c = record {
  eight = c.put_seat.ensures.length;
  each = λ n lt. one_seen (seats_in c.args.words.now) c.loop-set.set n c.job_at.result (get_or c.loop-set.jobs n None) (get_or c.put_seat.new.jobs n None) _ c.job_at.ensures (c.put_seat.ensures.each n lt) (c.loop-set.invariant.each n lt);
  end = c.loop-set.invariant.end;
}

pub returns : goal.returns
returns c =
    let seats = seats_in c.args.words.now in
    let past : length seats ≤ c.loop-set.set = rw (length-seats c.args.words.now) (omega arith) in
    all_seen seats c.loop-set.set c.loop-set.jobs past c.loop-set.invariant.eight c.loop-set.invariant.each
