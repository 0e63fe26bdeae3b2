-- How the time of each era was used, with one request more.
use Rattle.std.proofs.Common.{◌≡◌, ℕ, Bool, true, false, cond, List, [], ◌∷◌, ◌++◌, map, Option, Some, None, Result, Ok, Err, OnOk, refl, sym, ap, ◌∙◌, append_assoc}
use Rattle.std.specs.List.{sum_by}
use Rattle.std.proofs.lemmas.List.{map-append}
use Rattle.agc_clock.specs.declared.elapsed.Elapsed.{Elapsed}
use Rattle.agc_stats.specs.Eras.{all_used, counted, used_in}
use Rattle.agc_stats.specs.Followed.{IsNextEra, IsSameTime}
use Rattle.agc_stats.specs.JobRuns.{Step, begins_era, joined, passed_by_era, with_first}
use Rattle.agc_stats.specs.declared.era_time.EraTime.{EraTime}
use Rattle.agc_stats.specs.declared.job_statistics.JobStatistics.{JobStatistics}

abbrev use_of : ℕ → ℕ → ℕ → Elapsed
use_of computed stolen idle = record { computed = computed; stolen = stolen; idle = idle }

pub same_use : (computed stolen idle : ℕ) (all : List Elapsed) → computed ≡ counted (sum_by (λ (e : Elapsed). e.computed) all) → stolen ≡ counted (sum_by (λ (e : Elapsed). e.stolen) all) → idle ≡ counted (sum_by (λ (e : Elapsed). e.idle) all) → use_of computed stolen idle ≡ all_used all
same_use computed stolen idle all one two three =
    ap (λ (n : ℕ). use_of n stolen idle) one
    ∙ ap (λ (n : ℕ). use_of (counted (sum_by (λ (e : Elapsed). e.computed) all)) n idle) two
    ∙ ap (λ (n : ℕ). use_of (counted (sum_by (λ (e : Elapsed). e.computed) all)) (counted (sum_by (λ (e : Elapsed). e.stolen) all)) n) three

-- an era goes on
era_on : (present : List Elapsed) (e : Elapsed) (eras : List (List Elapsed)) → joined present (with_first e eras) ≡ joined (present ++ e ∷ []) eras
era_on present e [] = refl
era_on present e (era ∷ eras) = ap (λ (l : List Elapsed). l ∷ eras) (sym (append_assoc present (e ∷ []) era))

first_on : (e : Elapsed) (eras : List (List Elapsed)) → joined [] (with_first e eras) ≡ with_first e eras
first_on e [] = refl
first_on e (era ∷ eras) = refl

pub none_joined : (more : List Step) (rest : Elapsed) → joined [] (passed_by_era more rest) ≡ passed_by_era more rest
none_joined [] rest = refl
none_joined (step ∷ more) rest = go (begins_era step) where
  go : (b : Bool) → joined [] (cond b ((step.elapsed ∷ []) ∷ passed_by_era more rest) (with_first step.elapsed (passed_by_era more rest))) ≡ cond b ((step.elapsed ∷ []) ∷ passed_by_era more rest) (with_first step.elapsed (passed_by_era more rest))
  go true = refl
  go false = first_on step.elapsed (passed_by_era more rest)

pub cut_more : (over : List (List Elapsed)) (present : List Elapsed) (steps : List Step) (step : Step) (b : Bool) → begins_era step ≡ b
    → ((more : List Step) (rest : Elapsed) → over ++ joined present (passed_by_era more rest) ≡ passed_by_era (steps ++ more) rest)
    → (more : List Step) (rest : Elapsed) → cond b (over ++ (present ++ step.elapsed ∷ []) ∷ []) over ++ joined (cond b [] (present ++ step.elapsed ∷ [])) (passed_by_era more rest) ≡ passed_by_era ((steps ++ step ∷ []) ++ more) rest
cut_more over present steps step true q cut more rest =
    append_assoc over ((present ++ step.elapsed ∷ []) ∷ []) (joined [] (passed_by_era more rest))
    ∙ ap (λ (l : List (List Elapsed)). over ++ (present ++ step.elapsed ∷ []) ∷ l) (none_joined more rest)
    ∙ ap (λ (x : Bool). over ++ joined present (cond x ((step.elapsed ∷ []) ∷ passed_by_era more rest) (with_first step.elapsed (passed_by_era more rest)))) (sym q)
    ∙ cut (step ∷ more) rest
    ∙ ap (λ (l : List Step). passed_by_era l rest) (sym (append_assoc steps (step ∷ []) more))
cut_more over present steps step false q cut more rest =
    ap (λ (l : List (List Elapsed)). over ++ l) (sym (era_on present step.elapsed (passed_by_era more rest)))
    ∙ ap (λ (x : Bool). over ++ joined present (cond x ((step.elapsed ∷ []) ∷ passed_by_era more rest) (with_first step.elapsed (passed_by_era more rest)))) (sym q)
    ∙ cut (step ∷ more) rest
    ∙ ap (λ (l : List Step). passed_by_era l rest) (sym (append_assoc steps (step ∷ []) more))

-- one era more is over, or none is
pub one_over : (eras : List EraTime) (era : EraTime) (over : List (List Elapsed)) (present : List Elapsed) → map used_in eras ≡ map all_used over → used_in era ≡ all_used present → map used_in (eras ++ era ∷ []) ≡ map all_used (over ++ present ∷ [])
one_over eras era over present eras_are era_is =
    map-append used_in eras (era ∷ [])
    ∙ ap (λ (l : List Elapsed). l ++ used_in era ∷ []) eras_are
    ∙ ap (λ (u : Elapsed). map all_used over ++ u ∷ []) era_is
    ∙ sym (map-append all_used over (present ∷ []))

pub next_eras : (b : Bool) (mid later : JobStatistics) (over : List (List Elapsed)) (present : List Elapsed) → IsNextEra b mid later → map used_in mid.eras.items ≡ map all_used over → used_in mid.era ≡ all_used present → (map used_in later.eras.items ≡ map all_used (cond b (over ++ present ∷ []) over)) × (used_in later.era ≡ all_used (cond b [] present))
next_eras true mid later over present next eras_are era_is = (ap (map used_in) next.0 ∙ one_over mid.eras.items mid.era over present eras_are era_is, next.1)
next_eras false mid later over present next eras_are era_is = (ap (λ v. map used_in v.items) next.eras_are ∙ eras_are, ap used_in next.era_is ∙ era_is)

pub next_after : (old mid new : JobStatistics) → IsSameTime old mid → IsNextEra true mid new → IsNextEra true old new
next_after old mid new same next = (
  next.0 ∙ ap (λ v. v.items ++ mid.era ∷ []) same.eras_are ∙ ap (λ (e : EraTime). old.eras.items ++ e ∷ []) same.era_is,
  next.1,
)

pub next_then : (old mid new : JobStatistics) → mid.eras.items ≡ old.eras.items ++ old.era ∷ [] → used_in mid.era ≡ all_used [] → IsSameTime mid new → IsNextEra true old new
next_then old mid new over begun same = (ap (λ v. v.items) same.eras_are ∙ over, ap used_in same.era_is ∙ begun)

pub same_time_on : (old mid new : JobStatistics) → IsSameTime old mid → IsSameTime mid new → IsSameTime old new
same_time_on old mid new one two = record { eras_are = two.eras_are ∙ one.eras_are; era_is = two.era_is ∙ one.era_is }

-- of what happens only if all goes well
pub on_both : {T E P Q R : Type 0} (r : Result T E) → (P → Q → R) → OnOk r P → OnOk r Q → OnOk r R
on_both (Ok x) f p q = f p q
on_both (Err e) f p q = p

pub always : {T E P : Type 0} (r : Result T E) → P → OnOk r P
always (Ok x) p = p
always (Err e) p = tt
