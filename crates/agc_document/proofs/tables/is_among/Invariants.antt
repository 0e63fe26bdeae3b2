use Rattle.std.proofs.Common.{◌≡◌, drop, map}
use Rattle.agc_document.specs.Rows.{name_of}
use Rattle.agc_document.specs.Keys.{is_among}
use Rattle.agc_document.proofs.tables.is_among.Given as goal

abbrev pub invariant-loop-key : goal.invariant-loop-key
invariant-loop-key l = is_among (map name_of (drop l.key-index l.keys)) l.name ≡ is_among (map name_of l.keys) l.name
