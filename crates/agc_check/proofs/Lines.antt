-- The lines of a text.
use Rattle.std.proofs.Common.{ℕ, zero, suc, ◌≤◌, ◌==◌, Bool, true, false, if◌then◌else◌, List, [], ◌∷◌, take, arith}
use Rattle.agc_check.specs.Findings.{line_ends}

-- no more lines end in the front of a text
pub ends_before : (k : ℕ) (text : List ℕ) → line_ends (take k text) ≤ line_ends text
ends_before zero text = omega arith
ends_before (suc k) [] = omega arith
ends_before (suc k) (c ∷ cs) = ends_by (c == 10) k cs (ends_before k cs) where
  ends_by : (b : Bool) (k : ℕ) (cs : List ℕ) → line_ends (take k cs) ≤ line_ends cs → (if b then suc (line_ends (take k cs)) else line_ends (take k cs)) ≤ (if b then suc (line_ends cs) else line_ends cs)
  ends_by true k cs h = omega (arith, h)
  ends_by false k cs h = h
