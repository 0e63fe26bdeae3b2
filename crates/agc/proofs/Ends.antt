-- How a run can end whose words are refused.
use Rattle.std.proofs.Common.{◌≡◌, ◌⊎◌, ℕ, List, [], ◌∷◌, Result, Ok, Err, IsErrAnd, inl, inr, ap, sym, subst, ◌∙◌}
use Rattle.agc.specs.declared.fault.ProgramFault.{ProgramFault}
use Rattle.agc.specs.declared.fault.ProgramFault.TheVariants as fault
use Rattle.agc.specs.declared.mode.Mode.{Mode}
use Rattle.agc.specs.Modes.{AskFor, mode_name}
use Rattle.agc.specs.Program.{EndsFor}

-- words are wrong
abbrev IsRefused : Result Mode ProgramFault → Type 0
IsRefused (Err fault.Words) = Unit
IsRefused other = ⊥

-- wrong words are no mode, and no want of memory
pub no_mode : (asked : Mode) (why : ProgramFault) (answer : Result Mode ProgramFault) → answer ≡ Err why → why ≡ fault.Words → (answer ≡ Ok asked) ⊎ (answer ≡ Err fault.NoMemory) → ⊥
no_mode asked why answer gives is (inl e) = subst IsRefused (sym gives ∙ e) (subst (λ w. IsRefused (Err w)) (sym is) tt)
no_mode asked why answer gives is (inr e) = subst IsRefused (sym gives ∙ e) (subst (λ w. IsRefused (Err w)) (sym is) tt)

pub ends_refused : (words : List (List ℕ)) (why : ProgramFault) (outcome : Result Unit ProgramFault) → IsErrAnd outcome (λ e. e ≡ why) → (why ≡ fault.Words → (asked : Mode) → AskFor words asked → ⊥) → (why ≡ fault.Words) ⊎ (why ≡ fault.NoMemory) → EndsFor words outcome
ends_refused words why (Ok done) gives none is = absurd gives
ends_refused words why (Err e) gives none (inl is) = inr (inr (none is, ap Err (gives ∙ is)))
ends_refused words why (Err e) gives none (inr is) = inr (inl (ap Err (gives ∙ is)))

-- no words have a first
no_first : (word : List ℕ) (more : List (List ℕ)) → [] ≡ word ∷ more → ⊥
no_first word more is = absurd cc

-- no words ask for no mode
pub none_asked : (asked : Mode) → AskFor [] asked → ⊥
none_asked asked asks = no_first asks.0 (mode_name asked ∷ []) asks.1
