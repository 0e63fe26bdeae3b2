use Rattle.std.proofs.Common.{◌≡◌, ℕ, ◌<◌, ◌≤◌, slice_index}
use Rattle.agc_word.specs.Layout.{address_of, IsSized, OutsideCores, use_place, Keeps}
use Rattle.agc_exec.specs.Blocks.{blocks_of}
use Rattle.agc_exec.proofs.clearing.clear_areas.Given as goal

abbrev pub invariant-loop-area : goal.invariant-loop-area
invariant-loop-area l = record {
  sized : IsSized l.e;
  words : blocks_of l.e ≡ blocks_of l.fn.e;
  uses : (a : ℕ) → 1 ≤ a → a < l.area → slice_index l.e (use_place a) ≡ address_of a;
  others : Keeps OutsideCores l.fn.e l.e;
}
