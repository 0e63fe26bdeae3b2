use Rattle.std.proofs.Common.{ℕ, ◌<◌, take, true}
use Rattle.agc_desk.specs.Runs.{Reached}
use Rattle.agc_desk.proofs.console.drive.Given as goal

abbrev pub invariant-loop-call : goal.invariant-loop-call
invariant-loop-call g l = record {
  reached : Reached g.C.Console.leads (λ call said. g.G.Gate.is_told l.gate l.worker call said) 0 l.initial.console (take l.call l.requests) l.console;
  passed : (call : ℕ) → call < l.call → g.G.Gate.may_answer l.gate l.worker call true;
}
