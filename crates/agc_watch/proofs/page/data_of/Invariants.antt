use Rattle.std.proofs.Common.{◌≡◌, take}
use Rattle.std.specs.List.{flat_map}
use Rattle.agc_watch.specs.Data.{spelled}
use Rattle.agc_watch.proofs.page.data_of.Given as goal

abbrev pub invariant-loop-byte : goal.invariant-loop-byte
invariant-loop-byte l = l.spelled.items ≡ flat_map spelled (take l.byte-index l.byte-items)
