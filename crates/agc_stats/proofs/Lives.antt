-- The lives of jobs, with one snapshot more.
use Rattle.std.proofs.Common.{◌≡◌, ℕ, ◌+◌, Bool, true, false, cond, List, [], ◌∷◌, Option, Some, None, refl, sym, ap, ◌∙◌, arith}
use Rattle.std.specs.Prelude.{◌&&◌, ◌||◌, not, is_some}
use Rattle.std.specs.List.{sum_by}
use Rattle.std.specs.Option.{option_map_or}
use Rattle.std.proofs.lemmas.List.Sums.{sum_by-cons, take_while-cons}
use Rattle.agc_stats.specs.Eras.{counted}
use Rattle.agc_stats.specs.Lives.{activity_in, alive_job, at_in, computed, gone, gone_in, is_alive, is_in, is_same_activity, job_over, life, live_in, pairs, preempted, release, release_in, slept, state_in}
use Rattle.agc_stats.proofs.Eras.{counted_more}
use Rattle.agc_stats.specs.Following.{gone_on, if_in, released_with}
use Rattle.agc_stats.specs.declared.live_jobs.Activity.{Activity}
use Rattle.agc_stats.specs.declared.live_jobs.Activity.TheVariants.{Runs, Sleeps, Waits}
use Rattle.agc_stats.specs.declared.live_jobs.ObservedJob.{ObservedJob}
use Rattle.agc_stats.specs.declared.live_jobs.LiveJob.{LiveJob}
use Rattle.agc_stats.specs.declared.live_jobs.Snapshot.{Snapshot}

-- one more at the front of a sum
sum_first : {X : Type 0} (f : X → ℕ) (x : X) (xs : List X) (n : ℕ) → n ≡ f x → counted (sum_by f (x ∷ xs)) ≡ counted (counted (sum_by f xs) + n)
sum_first f x xs n is =
    let flipped : sum_by f (x ∷ xs) ≡ sum_by f xs + n = sum_by-cons f x xs ∙ (omega arith) in
    ap counted flipped ∙ sym (counted_more (sum_by f xs) n)

-- the snapshots of a life
life_with : (n : ℕ) (s : Snapshot) (past : List Snapshot) (b : Bool) → is_alive n s ≡ b → life n (s ∷ past) ≡ cond b (s ∷ life n past) []
life_with n s past b is = take_while-cons (is_alive n) s past ∙ ap (λ (x : Bool). cond x (s ∷ life n past) []) is

alive_with : (n : ℕ) (s : Snapshot) (past : List Snapshot) (b : Bool) → is_alive n s ≡ b → alive_job n (s ∷ past) ≡ live_in n (cond b (s ∷ life n past) [])
alive_with n s past b is = ap (live_in n) (life_with n s past b is)

-- the numbers of a job, made of their parts
abbrev made : ℕ → Activity → ℕ → ℕ → ℕ → ℕ → LiveJob
made at activity released computed slept preempted = record { at = at; activity = activity; released = released; computed = computed; slept = slept; preempted = preempted }

same_parts : (at : ℕ) (activity : Activity) (released c d e f g h : ℕ) → c ≡ d → e ≡ f → g ≡ h → made at activity released c e g ≡ made at activity released d f h
same_parts at activity released c d e f g h one two three =
    ap (λ (n : ℕ). made at activity released n e g) one ∙ ap (λ (n : ℕ). made at activity released d n g) two ∙ ap (λ (n : ℕ). made at activity released d f n) three

runs_is : (o : Option ObservedJob) → option_map_or (λ (job : ObservedJob). is_same_activity job.activity Runs) o false ≡ is_same_activity (option_map_or (λ (job : ObservedJob). job.activity) o Waits) Runs
runs_is None = refl
runs_is (Some job) = refl

sleeps_is : (o : Option ObservedJob) → option_map_or (λ (job : ObservedJob). is_same_activity job.activity Sleeps) o false ≡ is_same_activity (option_map_or (λ (job : ObservedJob). job.activity) o Waits) Sleeps
sleeps_is None = refl
sleeps_is (Some job) = refl

abbrev one_if : Bool → ℕ
one_if b = cond b 1 0

if_both : (a b : Bool) → one_if (a && b) ≡ cond a (one_if b) 0
if_both true b = refl
if_both false b = refl

neither : (a : Activity) → if_in a Runs (if_in a Waits 1) ≡ 0
neither Runs = refl
neither Waits = refl
neither Sleeps = refl

-- the numbers over one snapshot more
over_more : (n : ℕ) (s last : Snapshot) (l : List Snapshot) (newest : Snapshot) (those : List Snapshot) (activity : Activity)
    → release newest those ≡ release last l → activity_in n newest ≡ activity
    → cond (is_in Runs n last && is_in Waits n s) 1 0 ≡ if_in (activity_in n last) Runs (if_in activity Waits 1)
    → job_over n (s ∷ (last ∷ l)) newest those ≡ gone_on s activity (job_over n (last ∷ l) last l)
over_more n s last l newest those activity first state taken =
    ap (λ (r : Snapshot). made (at_in n r) (activity_in n newest) r.time (counted (computed n (s ∷ (last ∷ l)))) (counted (slept n (s ∷ (last ∷ l)))) (counted (preempted n (s ∷ (last ∷ l))))) first
    ∙ ap (λ (a : Activity). made (at_in n (release last l)) a (release last l).time (counted (computed n (s ∷ (last ∷ l)))) (counted (slept n (s ∷ (last ∷ l)))) (counted (preempted n (s ∷ (last ∷ l))))) state
    ∙ same_parts (at_in n (release last l)) activity (release last l).time _ _ _ _ _ _
    (sum_first (λ (p : Snapshot × Snapshot). cond (is_in Runs n p.1) p.0.computed 0) (s, last) (pairs (last ∷ l)) (if_in (activity_in n last) Runs s.computed) (ap (λ (b : Bool). cond b s.computed 0) (sym (runs_is (state_in n last)))))
    (sum_first (λ (p : Snapshot × Snapshot). cond (is_in Sleeps n p.1) p.0.passed 0) (s, last) (pairs (last ∷ l)) (if_in (activity_in n last) Sleeps s.passed) (ap (λ (b : Bool). cond b s.passed 0) (sym (sleeps_is (state_in n last)))))
    (sum_first (λ (p : Snapshot × Snapshot). cond (is_in Runs n p.1 && is_in Waits n p.0) 1 0) (s, last) (pairs (last ∷ l)) (if_in (activity_in n last) Runs (if_in activity Waits 1)) (sym taken))

some_is : {X : Type 0} (x y : X) → Some x ≡ Some y → x ≡ y
some_is x y e = cc

zero_if : (b : Bool) (z : ℕ) → cond b z z ≡ z
zero_if true z = refl
zero_if false z = refl

no_job : {P : Type 0} (x : LiveJob) → Some x ≡ None → P
no_job x e = absurd (let no : Some x ≡ None = e in cc)

-- it goes on
pub went_on : (n : ℕ) (s : Snapshot) (past : List Snapshot) (job : LiveJob) (state : ObservedJob) → Some job ≡ alive_job n past → Some state ≡ state_in n s → Some (gone_on s state.activity job) ≡ alive_job n (s ∷ past)
went_on n s past job state some is = sym (alive_with n s past true (ap is_some (sym is)) ∙ go (life n past) some) where
  go : (l : List Snapshot) → Some job ≡ live_in n l → live_in n (s ∷ l) ≡ Some (gone_on s state.activity job)
  go [] e = no_job job e
  go (last ∷ l) e =
      let taken : cond (is_in Runs n last && is_in Waits n s) 1 0 ≡ if_in (activity_in n last) Runs (if_in state.activity Waits 1) =
      if_both (is_in Runs n last) (is_in Waits n s)
      ∙ ap (λ (b : Bool). cond b (cond (is_in Waits n s) 1 0) 0) (runs_is (state_in n last))
      ∙ ap (λ (o : Option ObservedJob). if_in (activity_in n last) Runs (cond (option_map_or (λ (job : ObservedJob). is_same_activity job.activity Waits) o false) 1 0)) (sym is) in
      ap (λ (j : LiveJob). Some j) (over_more n s last l s (last ∷ l) state.activity refl (ap (λ (o : Option ObservedJob). option_map_or (λ (job : ObservedJob). job.activity) o Waits) (sym is)) taken
      ∙ ap (gone_on s state.activity) (sym (some_is job _ e)))

-- its life is over
pub left : (n : ℕ) (s : Snapshot) (past : List Snapshot) (job : LiveJob) → Some job ≡ alive_job n past → None ≡ state_in n s → Some (record { job = gone_on s job.activity job; time = s.time; end = s.end }) ≡ gone n s past
left n s past job some none = sym (ap (λ (b : Bool). cond b None (gone_in n s (life n past))) (ap is_some (sym none)) ∙ go (life n past) some) where
  go : (l : List Snapshot) → Some job ≡ live_in n l → gone_in n s l ≡ Some (record { job = gone_on s job.activity job; time = s.time; end = s.end })
  go [] e = no_job job e
  go (last ∷ l) e =
      let taken : cond (is_in Runs n last && is_in Waits n s) 1 0 ≡ if_in (activity_in n last) Runs (if_in (activity_in n last) Waits 1) =
      if_both (is_in Runs n last) (is_in Waits n s)
      ∙ ap (λ (b : Bool). cond b (cond (is_in Waits n s) 1 0) 0) (runs_is (state_in n last))
      ∙ ap (λ (o : Option ObservedJob). if_in (activity_in n last) Runs (cond (option_map_or (λ (job : ObservedJob). is_same_activity job.activity Waits) o false) 1 0)) (sym none)
      ∙ zero_if (is_same_activity (activity_in n last) Runs) 0
      ∙ sym (neither (activity_in n last)) in
      ap (λ (j : LiveJob). Some (record { job = j; time = s.time; end = s.end })) (over_more n s last l last l (activity_in n last) refl refl taken
      ∙ ap (λ (j : LiveJob). gone_on s j.activity j) (sym (some_is job _ e)))

-- the job of a number is in use no more
pub absent : (n : ℕ) (s : Snapshot) (past : List Snapshot) → state_in n s ≡ None → alive_job n (s ∷ past) ≡ None
absent n s past none = alive_with n s past false (ap is_some none)

-- it is released
pub released : (n : ℕ) (s : Snapshot) (past : List Snapshot) (state : ObservedJob) → alive_job n past ≡ None → state_in n s ≡ Some state → alive_job n (s ∷ past) ≡ Some (released_with state s.time)
released n s past state none is = alive_with n s past true (ap is_some is) ∙ go (life n past) none where
  go : (l : List Snapshot) → live_in n l ≡ None → live_in n (s ∷ l) ≡ Some (released_with state s.time)
  go [] e = ap (λ (o : Option ObservedJob). Some (made (option_map_or (λ (job : ObservedJob). job.at) o 0) (option_map_or (λ (job : ObservedJob). job.activity) o Waits) s.time 0 0 0)) is
  go (last ∷ l) e = no_job (job_over n (last ∷ l) last l) e

pub came : (n : ℕ) (s : Snapshot) (past : List Snapshot) (state : ObservedJob) → alive_job n past ≡ None → state_in n s ≡ Some state → release_in n s past ≡ Some state.at
came n s past state none is =
    ap (λ (o : Option LiveJob). cond (is_some o || not (is_alive n s)) None (Some (at_in n s))) none
    ∙ ap (λ (o : Option ObservedJob). cond (false || not (is_some o)) None (Some (option_map_or (λ (job : ObservedJob). job.at) o 0))) is

-- no life is over
pub stays : (n : ℕ) (s : Snapshot) (past : List Snapshot) (state : ObservedJob) → state_in n s ≡ Some state → gone n s past ≡ None
stays n s past state is = ap (λ (b : Bool). cond b None (gone_in n s (life n past))) (ap is_some is)

pub none_left : (n : ℕ) (s : Snapshot) (past : List Snapshot) → alive_job n past ≡ None → gone n s past ≡ None
none_left n s past none = go (life n past) none (is_alive n s) where
  go : (l : List Snapshot) → live_in n l ≡ None → (b : Bool) → cond b None (gone_in n s l) ≡ None
  go [] e true = refl
  go [] e false = refl
  go (last ∷ l) e b = no_job (job_over n (last ∷ l) last l) e
