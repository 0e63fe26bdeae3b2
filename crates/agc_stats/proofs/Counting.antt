-- The jobs of an address that are gone, with one more.
use Rattle.std.proofs.Common.{◌≡◌, ℕ, ◌+◌, ◌-◌, ◌^◌, ◌<◌, min, List, [], ◌∷◌, ◌++◌, map, filter, length, take, get_or, Option, Some, None, Result, Ok, Err, OnOk, refl, sym, ap, subst, ◌∙◌, arith}
use Rattle.std.proofs.lemmas.Grind.{common_steps}
use Rattle.std.proofs.lemmas.List.{map-append, take_more}
use Rattle.std.proofs.lemmas.List.Elements.{filter-append}
use Rattle.std.proofs.lemmas.List.Sorted.{IsPermutation-append_left}
use Rattle.std.specs.List.Sorted.{IsPermutation}
use Rattle.agc_stats.specs.Addresses.{earliest, first_missed, is_end, missed_by, response_of, responses_of, total}
use Rattle.agc_stats.specs.declared.live_jobs.LifeEnd.TheVariants.{Ended}
use Rattle.agc_stats.specs.declared.live_jobs.JobLife.{JobLife}
use Rattle.agc_stats.proofs.Eras.{more, sum_more}

pub on_ok : {T E P Q : Type 0} (r : Result T E) → (P → Q) → OnOk r P → OnOk r Q
on_ok (Ok x) f p = f p
on_ok (Err e) f p = p

associative : (a b c : Option ℕ) → earliest (earliest a b) c ≡ earliest a (earliest b c)
associative None b c = refl
associative (Some a) None c = refl
associative (Some a) (Some b) None = refl
associative (Some a) (Some b) (Some c) =
    let same : min (min a b) c ≡ min a (min b c) = grind (arith, common_steps) in
    ap (λ (n : ℕ). Some n) same

only_one : (a : Option ℕ) → earliest None a ≡ earliest a None
only_one None = refl
only_one (Some a) = refl

pub first_missed_more : (deadline : Option ℕ) (all : List JobLife) (g : JobLife) → earliest (first_missed deadline all) (missed_by deadline g) ≡ first_missed deadline (all ++ g ∷ [])
first_missed_more deadline [] g = only_one (missed_by deadline g)
first_missed_more deadline (h ∷ all) g =
    associative (missed_by deadline h) (first_missed deadline all) (missed_by deadline g)
    ∙ ap (earliest (missed_by deadline h)) (first_missed_more deadline all g)

both_responses : (all : List JobLife) (g : JobLife) → responses_of all ++ responses_of (g ∷ []) ≡ responses_of (all ++ g ∷ [])
both_responses all g =
    sym (ap (map response_of) (filter-append (is_end Ended) all (g ∷ [])) ∙ map-append response_of (filter (is_end Ended) all) (filter (is_end Ended) (g ∷ [])))

pub responses_more : (all : List JobLife) (g : JobLife) (old new : List ℕ) → new ≡ old ++ responses_of (g ∷ []) → IsPermutation (responses_of all) old → IsPermutation (responses_of (all ++ g ∷ [])) new
responses_more all g old new is are =
    subst (IsPermutation (responses_of (all ++ g ∷ []))) (sym is)
    (subst (λ (l : List ℕ). IsPermutation l (old ++ responses_of (g ∷ []))) (both_responses all g)
    (IsPermutation-append_left (responses_of (g ∷ [])) (responses_of all) old are))

-- the sum of times
pub total_more : (times : List ℕ) (k sum : ℕ) → k < length times → sum ≡ total (take k times) → min (sum + get_or times k 0) (2 ^ 64 - 1) ≡ total (take (k + 1) times)
total_more times k sum lt is =
    more sum _ is (get_or times k 0)
    ∙ sum_more (λ (time : ℕ). time) (take k times) (get_or times k 0)
    ∙ ap total (sym (take_more times k 0 lt))
