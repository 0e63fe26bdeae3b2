use Rattle.std.proofs.Common.{◌≡◌, ◌≢◌, ℕ, zero, suc, ◌<◌, List, [], ◌∷◌, Option, None, length, slice_index_or, arith}
use Rattle.std.proofs.lemmas.Grind.{common_steps}
use Rattle.agc_plan.specs.Places.{place_of}
use Rattle.agc_exec.specs.HeldJob.{HeldJob}
use Rattle.agc_exec.specs.Sets.{number_in, entries_of}

-- set k is the first with this number
pub place_of-at : (sets : List (Option HeldJob)) (n k : ℕ) → k < length sets → number_in (slice_index_or sets k None) ≡ n → ((j : ℕ) → j < k → number_in (slice_index_or sets j None) ≢ n) → place_of n (entries_of sets) ≡ k
place_of-at [] n k lt at first = absurd (omega arith)
place_of-at (s ∷ sets) n zero lt at first = grind (arith, common_steps)
place_of-at (s ∷ sets) n (suc k) lt at first =
    let other : number_in s ≢ n = first 0 (omega arith) in
    let rest : place_of n (entries_of sets) ≡ k = place_of-at sets n k (omega arith) at (λ j h. first (suc j) (omega arith)) in
    grind (arith, common_steps)
