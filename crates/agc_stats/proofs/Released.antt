-- A job that is alive was released.
use Rattle.std.proofs.Common.{◌≡◌, ℕ, zero, suc, ◌+◌, ◌<◌, ◌≤◌, ◌==◌, cond, List, [], ◌∷◌, ◌++◌, length, get_or, set, Option, Some, None, refl, sym, ap, subst, ◌∙◌, append-nil, inl, inr, arith}
use Rattle.std.specs.Prelude.{IfSome}
use Rattle.std.specs.List.{filter_map, range_with_len}
use Rattle.std.specs.Option.{option_to_list}
use Rattle.std.proofs.lemmas.Bool.{cases_lt, eq-eqb}
use Rattle.std.proofs.lemmas.List.{get_or-set_other, get_or-set_same, length-set, map-id}
use Rattle.std.proofs.lemmas.List.Elements.{filter_map-append}
use Rattle.std.proofs.lemmas.List.FromFn.{map-range_with_len_more}
use Rattle.std.proofs.lemmas.List.Sums.{sum_by-append}
use Rattle.agc_stats.specs.Addresses.{AreRows, releases_at}
use Rattle.agc_stats.specs.Followed.{AreJobs, AreJobsUpTo, deadlines_of}
use Rattle.agc_stats.specs.declared.job_statistics.JobStatistics.{JobStatistics}
use Rattle.agc_stats.specs.Following.{gone_on, released_with}
use Rattle.agc_stats.specs.Lives.{alive_job, gone, lives, release_in, releases, state_in}
use Rattle.agc_stats.specs.declared.live_jobs.JobLife.{JobLife}
use Rattle.agc_stats.specs.declared.live_jobs.ObservedJob.{ObservedJob}
use Rattle.agc_stats.specs.declared.live_jobs.LiveJob.{LiveJob}
use Rattle.agc_stats.specs.declared.live_jobs.Snapshot.{Snapshot}
use Rattle.agc_stats.proofs.Lives.{absent, came, left, none_left, released, stays, went_on}

-- one number more
pub range_more : (n : ℕ) → range_with_len 0 (n + 1) ≡ range_with_len 0 n ++ n ∷ []
range_more n =
    sym (map-id (range_with_len 0 (n + 1))) ∙ map-range_with_len_more (λ (k : ℕ). k) 0 n n (omega arith)
    ∙ ap (λ (l : List ℕ). l ++ n ∷ []) (map-id (range_with_len 0 n))

one_mapped : {X : Type 0} (h : ℕ → Option X) (n : ℕ) (o : Option X) → h n ≡ o → filter_map h (n ∷ []) ≡ option_to_list o
one_mapped h n None e = rw e refl
one_mapped h n (Some x) e = rw e refl

pub mapped_more : {X : Type 0} (h : ℕ → Option X) (n : ℕ) → filter_map h (range_with_len 0 (n + 1)) ≡ filter_map h (range_with_len 0 n) ++ option_to_list (h n)
mapped_more h n = ap (filter_map h) (range_more n) ∙ filter_map-append h (range_with_len 0 n) (n ∷ []) ∙ ap (λ l. filter_map h (range_with_len 0 n) ++ l) (one_mapped h n (h n) refl)

-- counts of more
releases_both : (at : ℕ) (xs ys : List ℕ) → releases_at at (xs ++ ys) ≡ releases_at at xs + releases_at at ys
releases_both at xs ys = sum_by-append (λ (a : ℕ). cond (a == at) 1 0) xs ys

pub still_released : (at : ℕ) (xs ys : List ℕ) → 0 < releases_at at xs → 0 < releases_at at (xs ++ ys)
still_released at xs ys some =
    let both : releases_at at (xs ++ ys) ≡ releases_at at xs + releases_at at ys = releases_both at xs ys in
    omega arith

alone : (at : ℕ) → releases_at at (at ∷ []) ≡ 1
alone at = rw (eq-eqb at at refl) refl

-- who is released is among those
among : (h : ℕ → Option ℕ) (at n count : ℕ) → h n ≡ Some at → n < count → 0 < releases_at at (filter_map h (range_with_len 0 count))
among h at n zero is lt = absurd (omega arith)
among h at n (suc count) is lt =
    let split : releases_at at (filter_map h (range_with_len 0 (count + 1))) ≡ releases_at at (filter_map h (range_with_len 0 count)) + releases_at at (option_to_list (h count)) =
    ap (releases_at at) (mapped_more h count) ∙ releases_both at (filter_map h (range_with_len 0 count)) (option_to_list (h count)) in
    let next : count + 1 ≡ suc count = omega arith in
    subst (λ (k : ℕ). 0 < releases_at at (filter_map h (range_with_len 0 k))) next (elim (cases_lt n count) [
      | inl low ↦
          let before : 0 < releases_at at (filter_map h (range_with_len 0 count)) = among h at n count is low in
          omega arith
      | inr high ↦
          let same : count ≡ n = omega arith in
          let here : releases_at at (option_to_list (h count)) ≡ 1 =
          ap (λ (k : ℕ). releases_at at (option_to_list (h k))) same ∙ ap (λ (o : Option ℕ). releases_at at (option_to_list o)) is ∙ alone at in
          omega arith
    ])

at_same : (x y : LiveJob) → Some x ≡ Some y → x.at ≡ y.at
at_same x y e = ap (λ (j : LiveJob). j.at) (let same : x ≡ y = cc in same)

released_on : (n : ℕ) (s : Snapshot) (past : List Snapshot) (job : LiveJob) → n < 8 → ((old : LiveJob) → alive_job n past ≡ Some old → 0 < releases_at old.at (releases past)) → (state : Option ObservedJob) → state_in n s ≡ state → (before : Option LiveJob) → alive_job n past ≡ before → alive_job n (s ∷ past) ≡ Some job → 0 < releases_at job.at (releases (s ∷ past))
released_on n s past job lt rest None here before was is = absurd (let nobody : None ≡ Some job = sym (absent n s past here) ∙ is in cc)
released_on n s past job lt rest (Some state) here None was is =
    let same : Some (released_with state s.time) ≡ Some job = sym (released n s past state was here) ∙ is in
    let at_is : state.at ≡ job.at = at_same (released_with state s.time) job same in
    let some : 0 < releases_at job.at (filter_map (λ (k : ℕ). release_in k s past) (range_with_len 0 8)) =
    among (λ (k : ℕ). release_in k s past) job.at n 8 (came n s past state was here ∙ ap (λ (a : ℕ). Some a) at_is) lt in
    let both : releases_at job.at (releases (s ∷ past)) ≡ releases_at job.at (releases past) + releases_at job.at (filter_map (λ (k : ℕ). release_in k s past) (range_with_len 0 8)) =
    releases_both job.at (releases past) (filter_map (λ (k : ℕ). release_in k s past) (range_with_len 0 8)) in
    omega arith
released_on n s past job lt rest (Some state) here (Some old) was is =
    let same : Some (gone_on s state.activity old) ≡ Some job = went_on n s past old state (sym was) (sym here) ∙ is in
    let at_is : old.at ≡ job.at = at_same (gone_on s state.activity old) job same in
    still_released job.at (releases past) (filter_map (λ (k : ℕ). release_in k s past) (range_with_len 0 8))
    (subst (λ (a : ℕ). 0 < releases_at a (releases past)) at_is (rest old was))

pub was_released : (n : ℕ) (history : List Snapshot) (job : LiveJob) → n < 8 → alive_job n history ≡ Some job → 0 < releases_at job.at (releases history)
was_released n [] job lt is = absurd (let nobody : None ≡ Some job = is in cc)
was_released n (s ∷ past) job lt is = released_on n s past job lt (λ old was. was_released n past old lt was) (state_in n s) refl (alive_job n past) refl is

pub gone_released : (n : ℕ) (s : Snapshot) (history : List Snapshot) → n < 8 → IfSome (gone n s history) (λ life. 0 < releases_at life.job.at (releases history))
gone_released n s history lt = go (state_in n s) refl (alive_job n history) refl where
  go : (state : Option ObservedJob) → state_in n s ≡ state → (before : Option LiveJob) → alive_job n history ≡ before → IfSome (gone n s history) (λ life. 0 < releases_at life.job.at (releases history))
  go (Some state) here before was = subst (λ (o : Option JobLife). IfSome o (λ life. 0 < releases_at life.job.at (releases history))) (sym (stays n s history state here)) tt
  go None here None was = subst (λ (o : Option JobLife). IfSome o (λ life. 0 < releases_at life.job.at (releases history))) (sym (none_left n s history was)) tt
  go None here (Some old) was = subst (λ (o : Option JobLife). IfSome o (λ life. 0 < releases_at life.job.at (releases history))) (left n s history old (sym was) (sym here)) (was_released n history old lt was)

-- one of the slots changes
pub slots_on : (old new : List (Option LiveJob)) (n : ℕ) (x : Option LiveJob) (f g : ℕ → Option LiveJob) → new ≡ old → length old ≡ 8 → n < 8 → x ≡ g n
    → ((k : ℕ) → k < n → get_or old k None ≡ g k) → ((k : ℕ) → n ≤ k → k < 8 → get_or old k None ≡ f k)
    → (length (set new n x) ≡ 8) × (((k : ℕ) → k < n + 1 → get_or (set new n x) k None ≡ g k) × ((k : ℕ) → n + 1 ≤ k → k < 8 → get_or (set new n x) k None ≡ f k))
slots_on old new n x f g same eight lt is before after =
    let within : n < length new = rw (same, eight) lt in (
      length-set new n x ∙ ap length same ∙ eight,
      (
        (λ k low. elim (cases_lt k n) [
          | inl less ↦ get_or-set_other new n k x None (λ e. absurd (omega arith)) ∙ ap (λ (l : List (Option LiveJob)). get_or l k None) same ∙ before k less
          | inr high ↦
              let here : k ≡ n = omega arith in
              ap (λ (j : ℕ). get_or (set new n x) j None) here ∙ get_or-set_same new n x None within ∙ is ∙ ap g (sym here)
        ]),
        (λ k high low. get_or-set_other new n k x None (λ e. absurd (omega arith)) ∙ ap (λ (l : List (Option LiveJob)). get_or l k None) same ∙ after k (omega arith) low),
      ),
    )

pub some_released : (o : Option JobLife) (xs ys zs : List ℕ) → IfSome o (λ life. 0 < releases_at life.job.at xs) → IfSome o (λ life. 0 < releases_at life.job.at ((xs ++ ys) ++ zs))
some_released None xs ys zs e = tt
some_released (Some life) xs ys zs e = still_released life.job.at (xs ++ ys) zs (still_released life.job.at xs ys e)

-- where a snapshot begins to be noted, and where it has been
pub none_noted : (s : Snapshot) (history : List Snapshot) (j : JobStatistics) → AreJobs history j → AreJobsUpTo 0 s history j
none_noted s history j are = record {
  eight = are.eight;
  noted = λ n lt. absurd (omega arith);
  alive_are = λ n high lt. are.alive_are n lt;
  rows_are = subst (λ (l : List ℕ). AreRows (deadlines_of j.timing) l (lives history ++ []) j.rows.items) (sym (append-nil (releases history)))
      (subst (λ (l : List JobLife). AreRows (deadlines_of j.timing) (releases history) l j.rows.items) (sym (append-nil (lives history))) are.rows_are);
}

pub all_noted : (s : Snapshot) (history : List Snapshot) (j : JobStatistics) → AreJobsUpTo 8 s history j → AreJobs (s ∷ history) j
all_noted s history j up = record { eight = up.eight; alive_are = up.noted; rows_are = up.rows_are }
