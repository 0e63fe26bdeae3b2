-- One step after another, each of which may fail.
use Rattle.std.specs.Prelude.{Option, Some, None}

infixl 10 ◌>>=◌
-- the second step, of what the first gives
abbrev pub ◌>>=◌ : {A B : Type 0} → Option A → (A → Option B) → Option B
None >>= f = None
(Some x) >>= f = f x
