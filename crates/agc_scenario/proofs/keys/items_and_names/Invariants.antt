use Rattle.std.proofs.Common.{◌≡◌, ◌++◌, map}
use Rattle.agc_scenario.proofs.keys.items_and_names.Given as goal

abbrev pub invariant-loop-one : goal.invariant-loop-one
invariant-loop-one g l = record {
  items : l.items.items ++ map (λ n. n.item) l.one-iterator.rest.items ≡ map (λ n. n.item) l.fn.read_named.items;
  names : l.names.items ++ map (λ n. n.name) l.one-iterator.rest.items ≡ map (λ n. n.name) l.fn.read_named.items;
}
