-- The keys of a table.
use Rattle.std.proofs.Common.{◌≡◌, List, [], ◌∷◌, ℕ, Bool, ◌&&◌, String, Global, BTreeMap, string_bytes, refl, ap}
use Rattle.std.specs.List.{list_all}
use Rattle.std.specs.BTreeMap.{keys}
use Rattle.std.specs.Map.{keys_of}
use Rattle.toml.specs.View.{members_view, table_view}
use Rattle.toml.specs.declared.value.Value.{Value}
use Rattle.agc_document.specs.Keys.{is_among, has_only}

among_entries : (names : List (List ℕ)) (es : List (String Global × Value)) → has_only names (members_view es) ≡ list_all (λ k. is_among names (string_bytes k)) (keys_of es)
among_entries names [] = refl
among_entries names (e ∷ es) = ap (λ (b : Bool). is_among names (string_bytes e.0) && b) (among_entries names es)

pub all_among : (names : List (List ℕ)) (m : BTreeMap (String Global) Value) → has_only names (table_view m) ≡ list_all (λ k. is_among names (string_bytes k)) (keys m)
all_among names m = among_entries names m.entries
