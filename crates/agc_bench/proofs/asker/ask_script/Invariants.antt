use Rattle.std.proofs.Common.{◌≡◌, ◌++◌, drop}
use Rattle.agc_machine.specs.Machines.{after_all}
use Rattle.agc_desk.specs.Draining.{answers_to}
use Rattle.agc_bench.specs.Sharing.{first_calls}
use Rattle.agc_bench.proofs.asker.ask_script.Given as goal

abbrev pub invariant-loop-request : goal.invariant-loop-request
invariant-loop-request g l = record {
  rest : after_all l.initial.desk.machine l.script ≡ after_all l.desk.machine (drop l.request-index l.script);
  history : l.initial.desk.history ++ first_calls (answers_to l.initial.desk.machine l.script) ≡ l.desk.history ++ first_calls (answers_to l.desk.machine (drop l.request-index l.script));
  heard : l.initial.share.heard ++ first_calls (answers_to l.initial.desk.machine l.script) ≡ l.share.heard ++ first_calls (answers_to l.desk.machine (drop l.request-index l.script));
  number : l.share.number ≡ l.initial.share.number;
  drains : l.share.drains ≡ l.initial.share.drains;
  given : l.desk.given ≡ l.initial.desk.given;
  lines : l.desk.lines ≡ l.initial.desk.lines;
}
