-- Rows in order.
use Rattle.std.proofs.Common.{◌≡◌, ◌≢◌, eq-eqb, ℕ, ◌+◌, ◌≤◌, ◌==◌, false, List, ◌∷◌, length, drop, Some, None, slice_get, inl, inr, refl, sym, ◌∙◌, arith}
use Rattle.std.proofs.lemmas.Grind.{common_steps}
use Rattle.std.proofs.lemmas.Option.{slice_get_within, get_or_from_slice_get, slice_get_cases}
use Rattle.agc_plan.proofs.Lists.{next_is}
use Rattle.agc_clock.specs.declared.timetable.Cost.{Cost}
use Rattle.agc_clock.specs.Timetables.{cost_at}

pub next_row : {X : Type 0} (xs : List X) (k : ℕ) (x : X) → slice_get xs k ≡ Some x → drop k xs ≡ x ∷ drop (k + 1) xs
next_row xs k x is = next_is xs k x (slice_get_within xs k x is) (sym (get_or_from_slice_get xs k x x is))

pub no_row : {X : Type 0} (xs : List X) (k : ℕ) → slice_get xs k ≡ None → length xs ≤ k
no_row xs k is = elim (slice_get_cases xs k).1 [
  | inl found ↦ absurd (let no : Some found.0 ≡ None = sym found.2 ∙ is in cc)
  | inr past ↦ past.0
]

pub this_cost : (costs : List Cost) (k at : ℕ) (cost : Cost) → slice_get costs k ≡ Some cost → cost.at ≡ at → cost_at (drop k costs) at ≡ Some cost
this_cost costs k at cost is same = rw (next_row costs k cost is, eq-eqb cost.at at same) refl

pub later_cost : (costs : List Cost) (k at : ℕ) (cost : Cost) → slice_get costs k ≡ Some cost → cost.at ≢ at → cost_at (drop k costs) at ≡ cost_at (drop (k + 1) costs) at
later_cost costs k at cost is other =
    let no : (cost.at == at) ≡ false = grind (arith, common_steps) in
    rw (next_row costs k cost is, no) refl
