use Rattle.std.proofs.Common.{◌≡◌, take, map}
use Rattle.std.specs.List.{AllByRecursion}
use Rattle.agc_plan.specs.Ranges.{IsAction}
use Rattle.agc_text.specs.Lines.{action_line_of}
use Rattle.agc_document.proofs.values.actions_of.Given as goal

abbrev pub invariant-loop-text : goal.invariant-loop-text
invariant-loop-text l = record {
  lawful : AllByRecursion IsAction l.actions;
  texts : take l.text-index l.texts ≡ map action_line_of l.actions;
}
