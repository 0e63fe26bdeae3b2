use Rattle.std.proofs.Common.{◌≢◌, below_more, ◌∙◌, arith, Option, Some, ap}
use Rattle.agc_exec.specs.declared.seats.Seat.{Seat}
use Rattle.agc_exec.specs.HeldJob.{HeldJob}
use Rattle.agc_exec.specs.Image.{sets_of}
use Rattle.agc_exec.specs.Sets.{Holds}
use Rattle.agc_clock.proofs.Seats.{awake_found, awake_none, shows_none, shows_other}
use Rattle.agc_clock.proofs.counting.is_awake.Goals as goal
use Rattle.agc_clock.proofs.counting.is_awake.Goals.{in-None, in-Some+else-seat-number}

pub returns-then-seat-number : goal.returns-then-seat-number
returns-then-seat-number c =
    awake_found c.args.words.now c.loop-k.k c.args.number c.in-Some.seat c.requires.lawful (omega arith)
    (c.job_at.ensures ∙ ap (λ (s : Option Seat). Some s) c.in-Some.is) c.if-seat-number.true

pub loop-k-preserved : goal.loop-k-preserved
loop-k-preserved c =
    let here : (r : HeldJob) → Holds (sets_of c.args.words.now) c.loop-k.k r → r.number ≢ c.args.number =
    elim c.match-job_at.branch [
      | in-None w ↦ λ r at. absurd (shows_none c.args.words.now c.loop-k.k (omega arith) (c.job_at.ensures ∙ ap (λ (s : Option Seat). Some s) w.in-None.is) r at)
      | in-Some+else-seat-number w ↦ shows_other c.args.words.now c.loop-k.k c.args.number w.in-Some.seat (omega arith) (c.job_at.ensures ∙ ap (λ (s : Option Seat). Some s) w.in-Some.is) w.if-seat-number.false
    ] in
    record {
      others = λ i r lt. below_more (λ i. (r : HeldJob) → Holds (sets_of c.args.words.now) i r → r.number ≢ c.args.number) c.loop-k.k (λ k lt r. c.loop-k.invariant.others k r lt) here i lt r;
      end = c.loop-k.invariant.end;
    }

pub returns : goal.returns
returns c = awake_none c.args.words.now c.args.number c.requires.number (λ i r lt. c.loop-k.invariant.others i r (omega arith))
