-- Items read in turn.
use Rattle.std.proofs.Common.{List, ◌++◌, Option, Some, None}

abbrev pub with_front : {X : Type 0} → List X → Option (List X) → Option (List X)
with_front front None = None
with_front front (Some xs) = Some (front ++ xs)
