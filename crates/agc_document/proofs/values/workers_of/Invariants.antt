use Rattle.std.proofs.Common.{◌≡◌, take, map}
use Rattle.std.specs.List.{AllByRecursion}
use Rattle.agc_text.specs.Lines.{line_of}
use Rattle.agc_plan.specs.Ranges.{IsRequest}
use Rattle.agc_document.proofs.values.workers_of.Given as goal

abbrev pub invariant-loop-text : goal.invariant-loop-text
invariant-loop-text l = record {
  lawful : AllByRecursion (AllByRecursion IsRequest) (map (λ w. w.items) l.workers.items);
  texts : take l.text-index l.texts ≡ map (map line_of) (map (λ w. w.items) l.workers.items);
}
