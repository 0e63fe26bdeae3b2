use Rattle.std.proofs.Common.{◌≡◌}
use Rattle.agc_image.specs.Rules.{any_set, holds_area}
use Rattle.agc_image.proofs.explaining.has_area.Given as goal

abbrev pub invariant-loop-set : goal.invariant-loop-set
invariant-loop-set l = l.found ≡ any_set (holds_area l.words l.address) l.set
