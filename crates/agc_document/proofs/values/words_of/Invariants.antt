use Rattle.std.proofs.Common.{◌≡◌, length, take, map}
use Rattle.std.specs.List.{AllByRecursion}
use Rattle.agc_text.specs.Numbers.{octal}
use Rattle.agc_text.specs.Numbers.{IsWord}
use Rattle.agc_document.proofs.values.words_of.Given as goal

abbrev pub invariant-loop-k : goal.invariant-loop-k
invariant-loop-k l = record {
  twelve : length l.words ≡ 12;
  lawful : AllByRecursion IsWord (take l.k l.words);
  texts : take l.k l.texts ≡ map (octal 5) (take l.k l.words);
}
