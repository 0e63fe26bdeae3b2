use Rattle.std.proofs.Common.{◌≡◌, ℕ, ◌<◌, length, slice_index}
use Rattle.agc_phase.specs.Image.{minus_in, phase_in}
use Rattle.agc_phase.specs.Writing.{IsPair}
use Rattle.agc_phase.proofs.image.recover.Given as goal

abbrev pub invariant-loop-group : goal.invariant-loop-group
invariant-loop-group l = record {
  six : length l.phases ≡ 6;
  pairs : (k : ℕ) → k < l.group → IsPair (minus_in l.words k) (phase_in l.words k);
  phases : (k : ℕ) → k < l.group → slice_index l.phases k ≡ phase_in l.words k;
}
