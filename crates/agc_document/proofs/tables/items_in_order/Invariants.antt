use Rattle.std.proofs.Common.{◌≡◌, drop}
use Rattle.toml.specs.View.{items_view}
use Rattle.agc_document.specs.Keys.{each}
use Rattle.agc_document.proofs.Each.{with_front}
use Rattle.agc_document.proofs.tables.items_in_order.Given as goal

abbrev pub invariant-loop-k : goal.invariant-loop-k
invariant-loop-k g l = with_front (l.items.items) (each (g.T.FromData.reads l.array.key) (items_view (drop l.k l.values))) ≡ each (g.T.FromData.reads l.array.key) (items_view l.values)
