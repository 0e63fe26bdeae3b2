-- The tasks that wait, each with its distance from now.
use Rattle.std.specs.Prelude.{ℕ, suc, ◌==◌, nat_lt, Bool, false, if◌then◌else◌, List, [], ◌∷◌}
use Rattle.agc_plan.specs.Tasks.{Waiting}

-- the first is due now
abbrev pub is_due : List Waiting → Bool
is_due [] = false
is_due (w ∷ ws) = w.distance == 0

-- how many are due now
abbrev pub due_now : List Waiting → ℕ
due_now [] = 0
due_now (w ∷ ws) = if w.distance == 0 then suc (due_now ws) else due_now ws

-- how many are due no later than this, from the first on
abbrev pub place_for : ℕ → List Waiting → ℕ
place_for distance [] = 0
place_for distance (w ∷ ws) = if nat_lt distance w.distance then 0 else suc (place_for distance ws)
