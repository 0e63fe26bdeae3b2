-- Whether twelve phase words agree.
use Rattle.std.proofs.Common.{◌≡◌, ◌==◌, ◌&&◌, eq-eqb, ℕ, ◌<◌, ◌↔◌, IsTrue, nat_le, Bool, true, List, get_or, subst, sym, arith, Decides}
use Rattle.std.specs.List.{list_all, range_with_len}
use Rattle.std.proofs.lemmas.Bool.{and_parts, and_from, eqb-true, le-leb, leb-true}
use Rattle.std.proofs.lemmas.Bool.Decides.{same_from_decides}
use Rattle.std.proofs.lemmas.List.FromFn.{get_or-range_with_len}
use Rattle.std.proofs.lemmas.List.Sums.{AllPass-from_list_all, list_all-from_AllPass}
use Rattle.agc_word.specs.Words.{complement}
use Rattle.agc_phase.specs.Image.{ArePairs, minus_in, phase_in}
use Rattle.agc_phase.specs.Writing.{IsPair}
use Rattle.agc_session.specs.Runs.{pairs_agree}

abbrev pair_agrees : ℕ → ℕ → Bool
pair_agrees minus phase = (minus == complement phase) && nat_le phase 127

pair_is : (minus phase : ℕ) → pair_agrees minus phase ≡ true → IsPair minus phase
pair_is minus phase h =
    let parts = and_parts (minus == complement phase) (nat_le phase 127) h in
    (eqb-true _ _ parts.0, leb-true _ _ parts.1)

pair_from : (minus phase : ℕ) → IsPair minus phase → pair_agrees minus phase ≡ true
pair_from minus phase h = and_from (minus == complement phase) (nat_le phase 127) (eq-eqb _ _ h.0) (le-leb _ _ h.1)

-- whether the pair of a group does
abbrev group_agrees : List ℕ → ℕ → Bool
group_agrees words group = pair_agrees (minus_in words group) (phase_in words group)

group_at : (group d : ℕ) → group < 6 → get_or (range_with_len 0 6) group d ≡ group
group_at group d l = omega (arith, get_or-range_with_len 0 6 group d l)

six_are : (p : ℕ → Bool) → list_all p (range_with_len 0 6) ≡ true → (group : ℕ) → group < 6 → p group ≡ true
six_are p h group l = subst (λ (g : ℕ). p g ≡ true) (group_at group 0 l) (AllPass-from_list_all p (range_with_len 0 6) h group 0 l)

six_from : (p : ℕ → Bool) → ((group : ℕ) → group < 6 → p group ≡ true) → list_all p (range_with_len 0 6) ≡ true
six_from p h = list_all-from_AllPass p (range_with_len 0 6) (λ group d l. subst (λ (g : ℕ). p g ≡ true) (sym (group_at group d l)) (h group l))

pairs_decide : (words : List ℕ) → Decides (pairs_agree words) (ArePairs words)
pairs_decide words =
    (λ h group l. pair_is _ _ (six_are (group_agrees words) h group l), λ h. six_from (group_agrees words) (λ group l. pair_from _ _ (h group l)))

pub recovered_is : (words : List ℕ) (recovered : Bool) → IsTrue recovered ↔ ArePairs words → recovered ≡ pairs_agree words
recovered_is words recovered h = same_from_decides recovered (pairs_agree words) h (pairs_decide words)
