use Rattle.std.proofs.Common.{◌≡◌, ◌<◌, ◌≤◌, ℕ, slice_index}
use Rattle.agc_exec.specs.Image.{sets_of}
use Rattle.agc_exec.specs.Stages.{use_word}
use Rattle.agc_word.specs.Layout.{use_place}
use Rattle.agc_exec.specs.Sets.{slots_of}
use Rattle.agc_exec.proofs.lawful.uses_agree.Given as goal

abbrev pub invariant-loop-area : goal.invariant-loop-area
invariant-loop-area l = (a : ℕ) → 1 ≤ a → a < l.area → slice_index l.e (use_place a) ≡ use_word a (slots_of (sets_of l.e))
