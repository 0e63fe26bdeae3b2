use Rattle.std.proofs.Common.{Some, length, nat_eq}
use Rattle.agc_latch.specs.Lines.{zeros}
use Rattle.agc_desk.specs.Opening.{names_of}
use Rattle.agc_desk.specs.Draining.{answers_to}
use Rattle.agc_bench.specs.Sharing.{first_calls}
use Rattle.agc_bench.specs.Threads.{askers_of}
use Rattle.agc_bench.proofs.threading.threads.Given as goal

abbrev pub ghosts-gather_report-N-Names : goal.ghosts-gather_report-N-Names
ghosts-gather_report-N-Names g a = record { names = names_of a.outfit.blanks; first = a.outfit.machine }

abbrev pub ghosts-gather_report-N-Sharing : goal.ghosts-gather_report-N-Sharing
ghosts-gather_report-N-Sharing g a = record {
  may_share = λ given. nat_eq given (length (askers_of a.bench.now));
  begun = first_calls (answers_to a.outfit.machine a.bench.now.script);
  latch = a.outfit.latch;
  lent = Some (record { latch = Some a.outfit.latch; given = length a.bench.now.devices; settled = zeros });
}
