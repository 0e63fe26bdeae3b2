use Rattle.std.proofs.Common.{◌≡◌}
use Rattle.agc_image.specs.Rules.{any_set, holds_number}
use Rattle.agc_image.proofs.explaining.has_number.Given as goal

abbrev pub invariant-loop-set : goal.invariant-loop-set
invariant-loop-set l = l.found ≡ any_set (holds_number l.words l.number) l.set
