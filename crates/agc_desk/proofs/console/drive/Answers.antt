use Rattle.std.proofs.Common.{ℕ, Bool, true, is_some, arith, refl, ap, subst}
use Rattle.agc_desk.proofs.Runs.{below_next, reached_next}
use Rattle.agc_desk.proofs.console.drive.Goals as goal

pub loop-call-init : goal.loop-call-init
loop-call-init g c = record { reached = refl; passed = λ call below. absurd (omega (arith, below)) }

pub loop-call-preserved : goal.loop-call-preserved
loop-call-preserved g c = record {
  reached = reached_next g.C.Console.leads (λ call said. g.G.Gate.is_told c.args.gate.now c.args.worker call said) _ c.args.requests.now c.loop-call.call c.index-requests-call.result c.loop-call.console c.ask-answer.result c.ask-answer.new.self c.loop-call-test.true c.index-requests-call.is c.loop-call.invariant.reached c.ask-answer.ensures.led c.after.ensures;
  passed = below_next (λ (call : ℕ). g.G.Gate.may_answer c.args.gate.now c.args.worker call true) c.loop-call.call c.loop-call.invariant.passed
      (subst (λ (answer : Bool). g.G.Gate.may_answer c.args.gate.now c.args.worker c.loop-call.call answer) (ap is_some c.in-Some.is) c.pass_of.ensures.goes);
}
