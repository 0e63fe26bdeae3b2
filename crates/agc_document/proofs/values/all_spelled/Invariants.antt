use Rattle.std.proofs.Common.{◌≡◌, take, map}
use Rattle.std.specs.List.{AllByRecursion}
use Rattle.agc_document.proofs.values.all_spelled.Given as goal

abbrev pub invariant-loop-text : goal.invariant-loop-text
invariant-loop-text g l = record {
  lawful : AllByRecursion g.X.FromText.IsLawful l.all.items;
  texts : take l.text-index l.texts ≡ map g.X.FromText.spelling l.all.items;
}
