use Rattle.std.proofs.Common.{◌≡◌, ℕ, ◌+◌, ◌≤◌, List, [], length}
use Rattle.agc_plan.specs.Eras.{Work}
use Rattle.agc_plan.specs.Steps.{fire_all}
use Rattle.agc_wait.specs.Table.{waits_of}
use Rattle.agc_wait.specs.Waits.{due_now}
use Rattle.agc_phase.specs.Image.{base_of}
use Rattle.agc_machine.specs.Stands.{IsSound, Stands, seated_in}
use Rattle.agc_machine.proofs.Fires.{GoesOn}
use Rattle.agc_machine.proofs.tick.fire.Given as goal

abbrev pub invariant-loop-e : goal.invariant-loop-e
invariant-loop-e g l = record {
  sound : IsSound l.e;
  same_length : length l.e ≡ length l.fn.e;
  same_base : base_of l.e ≡ base_of l.fn.e;
  goes_on : (work : Work) (places : List ℕ) → Stands l.fn.e work places → GoesOn (g.P.Plans.written l.plan).rows l.e l.fired (seated_in work places) (fire_all (g.P.Plans.written l.plan).rows work [] []);
  few : length l.fired + due_now (waits_of l.e) ≤ 9;
}

abbrev pub decreases-loop-e : goal.decreases-loop-e
decreases-loop-e g l = due_now (waits_of l.e)
