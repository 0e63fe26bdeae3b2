-- An era of an accepted plan begins with no alarm.
use Rattle.std.proofs.Common.{◌≡◌, ◌≢◌, ℕ, zero, suc, ◌+◌, ◌-◌, ◌<◌, ◌≤◌, ◌==◌, Bool, true, false, ◌⊎◌, List, [], ◌∷◌, Option, Some, None, length, slice_index_or, slice_set, nat_lt, replicate, refl, ap, sym, ◌∙◌, subst, inl, inr, arith}
use Rattle.std.proofs.lemmas.Bool.{cases_Bool, cases_eq, cases_lt}
use Rattle.std.proofs.lemmas.List.{get_or-set_other, get_or-set_same, length-set, length-append, length-replicate}
use Rattle.std.proofs.lemmas.Option.{same_Some}
use Rattle.std.proofs.lemmas.Grind.{common_steps}
use Rattle.agc_plan.specs.declared.plan.PlanFault.TheVariants.{TaskTwice, PhaseTwice, TooManyAreas}
use Rattle.agc_plan.specs.declared.request.JobStart.{JobStart}
use Rattle.agc_plan.specs.declared.request.JobStart.TheVariants.{Novac, Findvac}
use Rattle.agc_plan.specs.declared.request.Task.{Task}
use Rattle.agc_plan.specs.Jobs.{Job, Jobs, least_unused, is_owned, least_unowned, new_job, with_job, no_jobs, establish_at, findvac_at, runner_after}
use Rattle.agc_plan.specs.Tasks.{Agenda}
use Rattle.agc_plan.specs.Begins.{Begins}
use Rattle.agc_plan.specs.Plans.{Written, entry_at, is_for, group_wants, all_want, wants_area, fault_of, task_twice, phase_twice}
use Rattle.std.specs.Option.{option_to_list}
use Rattle.agc_plan.specs.Eras.{Work, no_work, active}
use Rattle.agc_plan.specs.Steps.{alarm_of}
use Rattle.agc_plan.specs.Quiet.{BeginsQuietly}
use Rattle.agc_plan.specs.Groups.{jobs_begun, job_alarms, agenda_begun, task_alarms, group_begun, group_alarms, alarms_from}
use Rattle.agc_plan.proofs.Groups.{alarms_from_is}

-- at most k jobs so far, in the first slots, with areas up to a
pub record Roomy (k a : ℕ) (jobs : Jobs) : Type 0 where
  pub size : 6 ≤ length jobs.slots
  pub free : (j : ℕ) → k ≤ j → slice_index_or jobs.slots j None ≡ None
  pub areas : (j : ℕ) (job : Job) → slice_index_or jobs.slots j None ≡ Some job → job.area ≤ a

-- an empty slot bounds the least unused number
low_number : (from : ℕ) (slots : List (Option Job)) (k : ℕ) → k < length slots → slice_index_or slots k None ≡ None → (n : ℕ) × (least_unused from slots ≡ Some n) × (from ≤ n) × (n ≤ from + k)
low_number from [] k lt free = absurd (omega arith)
low_number from (None ∷ slots) k lt free = (from, refl, omega arith, omega arith)
low_number from (Some job ∷ slots) zero lt free = absurd (cc)
low_number from (Some job ∷ slots) (suc k) lt free =
    let (n, is, low, high) = low_number (from + 1) slots k (omega arith) free in
    (n, is, omega arith, omega arith)

owned_within : (area a : ℕ) (slots : List (Option Job)) → ((j : ℕ) (job : Job) → slice_index_or slots j None ≡ Some job → job.area ≤ a) → is_owned area slots ≡ true → area ≤ a
owned_within area a [] h e = absurd (cc)
owned_within area a (None ∷ slots) h e = owned_within area a slots (λ j. h (suc j)) e
owned_within area a (Some job ∷ slots) h e = elim (cases_eq job.area area) [
  | inl same ↦ let le : job.area ≤ a = h 0 job refl in omega arith
  | inr ne ↦ let rest : is_owned area slots ≡ true = grind (arith, common_steps) in owned_within area a slots (λ j. h (suc j)) rest
]

-- an area that nobody can own bounds the least unowned one
low_area : (more from a : ℕ) (slots : List (Option Job)) → ((j : ℕ) (job : Job) → slice_index_or slots j None ≡ Some job → job.area ≤ a) → from ≤ a + 1 → a + 1 < from + more → (area : ℕ) × (least_unowned more from slots ≡ Some area) × (area ≤ a + 1)
low_area zero from a slots h low high = absurd (omega arith)
low_area (suc more) from a slots h low high = elim (cases_Bool (is_owned from slots)) [
  | inl e ↦ let le : from ≤ a = owned_within from a slots h e in rw e (low_area more (from + 1) a slots h (omega arith) (omega arith))
  | inr e ↦ rw e (from, refl, low)
]

-- one more job in slot n - 1
one_more : (k a b n : ℕ) (job : Job) (running : Option ℕ) (jobs : Jobs) → Roomy k a jobs → k < 6 → 1 ≤ n → n ≤ 1 + k → a ≤ b → job.area ≤ b → Roomy (suc k) b (record { slots = with_job jobs.slots n (Some job); running = running })
one_more k a b n job running jobs r lt low high le area = record {
  size = let len : length (with_job jobs.slots n (Some job)) ≡ length jobs.slots = length-set jobs.slots (n - 1) (Some job) in let six : 6 ≤ length jobs.slots = r.size in omega arith;
  free = λ j h. let apart : j ≢ n - 1 = omega arith in let was : slice_index_or jobs.slots j None ≡ None = r.free j (omega arith) in get_or-set_other jobs.slots (n - 1) j (Some job) None apart ∙ was;
  areas = λ j other at. elim (cases_eq j (n - 1)) [
    | inl same ↦
        let within : n - 1 < length jobs.slots = let s : 6 ≤ length jobs.slots = r.size in omega arith in
        let here : slice_index_or (slice_set jobs.slots (n - 1) (Some job)) (n - 1) None ≡ Some job = get_or-set_same jobs.slots (n - 1) (Some job) None within in
        let is : job ≡ other = same_Some job other (sym here ∙ ap (λ i. slice_index_or (slice_set jobs.slots (n - 1) (Some job)) i None) (sym same) ∙ at) in
        subst (λ (x : Job). x.area ≤ b) is area
    | inr ne ↦
        let old : slice_index_or jobs.slots j None ≡ Some other = sym (get_or-set_other jobs.slots (n - 1) j (Some job) None ne) ∙ at in
        let was : other.area ≤ a = r.areas j other old in omega arith
  ];
}

same_jobs : (k a b : ℕ) (jobs : Jobs) → Roomy k a jobs → a ≤ b → Roomy (suc k) b jobs
same_jobs k a b jobs r le = record {
  size = r.size;
  free = λ j h. r.free j (omega arith);
  areas = λ j job at. let was : job.area ≤ a = r.areas j job at in omega arith;
}

-- a job is established at this number
established_quiet : (k a b n : ℕ) (job : Job) (jobs : Jobs) → Roomy k a jobs → k < 6 → 1 ≤ n → n ≤ 1 + k → a ≤ b → job.area ≤ b → (o : Option ℕ) → o ≡ Some n → (option_to_list (alarm_of (establish_at o job jobs).reply) ≡ []) × Roomy (suc k) b (establish_at o job jobs).jobs
established_quiet k a b n job jobs r lt low high le area o is =
    subst (λ (x : Option ℕ). (option_to_list (alarm_of (establish_at x job jobs).reply) ≡ []) × Roomy (suc k) b (establish_at x job jobs).jobs) (sym is)
    (refl, one_more k a b n job (runner_after jobs.running (with_job jobs.slots n (Some job))) jobs r lt low high le area)

-- the group's job finds room
pub job_quiet : (job : Option JobStart) (k a b : ℕ) (jobs : Jobs) → Roomy k a jobs → k < 6 → a ≤ b → (wants_area job ≡ true → (a < 5) × (a + 1 ≤ b)) → (job_alarms job jobs ≡ []) × Roomy (suc k) b (jobs_begun job jobs)
job_quiet None k a b jobs r lt le room = (refl, same_jobs k a b jobs r le)
job_quiet (Some (Novac priority entry)) k a b jobs r lt le room =
    let s : 6 ≤ length jobs.slots = r.size in
    let (n, is, low, high) = low_number 1 jobs.slots k (omega arith) (r.free k (omega arith)) in
    established_quiet k a b n (new_job priority entry 0) jobs r lt low high le (omega arith) (least_unused 1 jobs.slots) is
job_quiet (Some (Findvac priority entry)) k a b jobs r lt le room =
    let s : 6 ≤ length jobs.slots = r.size in
    let (five, up) = room refl in
    let (n, is, low, high) = low_number 1 jobs.slots k (omega arith) (r.free k (omega arith)) in
    let (area, owns, most) = low_area 5 1 a jobs.slots r.areas (omega arith) (omega arith) in
    subst (λ (x : Option ℕ). (option_to_list (alarm_of (findvac_at x priority entry jobs).reply) ≡ []) × Roomy (suc k) b (findvac_at x priority entry jobs).jobs) (sym owns)
    (established_quiet k a b n (new_job priority entry area) jobs r lt low high le (omega arith) (least_unused 1 jobs.slots) is)

pub task_quiet : (task : Option (ℕ × Task)) (t : ℕ) (agenda : Agenda) → length agenda.tasks ≤ t → t < 9 → (task_alarms task agenda ≡ []) × (length (agenda_begun task agenda).tasks ≤ suc t)
task_quiet None t agenda le lt = (refl, omega arith)
task_quiet (Some listing) t agenda le lt =
    let room : nat_lt (length agenda.tasks) 9 ≡ true = grind (arith, common_steps) in
    rw room (refl, rw length-append (omega arith))

abbrev wants_of : Option Begins → Bool
wants_of None = false
wants_of (Some e) = wants_area e.job

-- how many areas are owned after the group began
abbrev grown : Bool → ℕ → ℕ
grown false a = a
grown true a = suc a

grown-ge : (w : Bool) (a : ℕ) → a ≤ grown w a
grown-ge false a = omega arith
grown-ge true a = omega arith

group_quiet : (o : Option Begins) (k a : ℕ) (work : Work) → Roomy k a work.jobs → length work.agenda.tasks ≤ k → k < 6 → (wants_of o ≡ true → a < 5) → (group_alarms o work ≡ []) × Roomy (suc k) (grown (wants_of o) a) (group_begun o work).jobs × (length (group_begun o work).agenda.tasks ≤ suc k)
group_quiet None k a work r t lt room = (refl, same_jobs k a a work.jobs r (omega arith), omega arith)
group_quiet (Some e) k a work r t lt room =
    let (quiet, after) = job_quiet e.job k a (grown (wants_area e.job) a) work.jobs r lt (grown-ge (wants_area e.job) a) (λ w. (room w, rw w (omega arith))) in
    let (still, most) = task_quiet e.task k work.agenda t (omega arith) in
    (rw (quiet, still), after, most)

-- a group with no entry that wants an area has no such entry at any phase
quiet_entry : (es : List Begins) (group phase : ℕ) → group_wants es group ≡ false → wants_of (entry_at es group phase) ≡ false
quiet_entry [] group phase none_wants = refl
quiet_entry (x ∷ es) group phase none_wants = elim (cases_Bool (is_for x group phase)) [
  | inl here ↦
      let both : (x.group == group) ≡ true = grind (arith, common_steps) in
      let off : wants_area x.job ≡ false = grind (arith, common_steps) in
      rw here off
  | inr there ↦
      let off : group_wants es group ≡ false = grind (arith, common_steps) in
      rw there (quiet_entry es group phase off)
]

quiet_group : (es : List Begins) (group phase : ℕ) → group_wants es group ≡ false → wants_of (active es group phase) ≡ false
quiet_group es group phase off = elim (cases_Bool (phase == 0)) [
  | inl zero_phase ↦ rw zero_phase refl
  | inr other ↦ rw other (quiet_entry es group phase off)
]

-- one group in six has none
some_group : (es : List Begins) → all_want es ≡ false → (g : ℕ) × (1 ≤ g) × (g ≤ 6) × (group_wants es g ≡ false)
some_group es e = elim (cases_Bool (group_wants es 1)) [
  | inr off ↦ (1, omega arith, omega arith, off)
  | inl h1 ↦ elim (cases_Bool (group_wants es 2)) [
    | inr off ↦ (2, omega arith, omega arith, off)
    | inl h2 ↦ elim (cases_Bool (group_wants es 3)) [
      | inr off ↦ (3, omega arith, omega arith, off)
      | inl h3 ↦ elim (cases_Bool (group_wants es 4)) [
        | inr off ↦ (4, omega arith, omega arith, off)
        | inl h4 ↦ elim (cases_Bool (group_wants es 5)) [
          | inr off ↦ (5, omega arith, omega arith, off)
          | inl h5 ↦ elim (cases_Bool (group_wants es 6)) [
            | inr off ↦ (6, omega arith, omega arith, off)
            | inl h6 ↦ let no : true ≡ false = rw (h1, h2, h3, h4, h5, h6) at e in absurd (cc)
          ]
        ]
      ]
    ]
  ]
]

-- the rest of the groups begin quietly; group q never wants an area
rest_quiet : (es : List Begins) (q : ℕ) → group_wants es q ≡ false → (group : ℕ) (phases : List ℕ) (k a : ℕ) (work : Work) → Roomy k a work.jobs → length work.agenda.tasks ≤ k → group + length phases ≡ 7 → q ≤ 6 → k + length phases ≤ 6 → (group ≤ q → a + length phases ≤ 6) → (q < group → a + length phases ≤ 5) → alarms_from es group phases work ≡ []
rest_quiet es q off group [] k a work r t all six room ahead past = refl
rest_quiet es q off group (phase ∷ phases) k a work r t all six room ahead past =
    let w : Bool = wants_of (active es group phase) in
    let apart : w ≡ true → group ≢ q = λ is same. let not : wants_of (active es q phase) ≡ false = quiet_group es q phase off in let no : true ≡ false = sym is ∙ ap (λ g. wants_of (active es g phase)) same ∙ not in absurd (cc) in
    let five : w ≡ true → a < 5 = λ is. let ne : group ≢ q = apart is in elim (cases_lt q group) [ inl lt ↦ omega arith | inr ge ↦ omega arith ] in
    let (quiet, after, most) = group_quiet (active es group phase) k a work r t (omega arith) five in
    let small : ((group + 1 ≤ q → grown w a + length phases ≤ 6) × (q < group + 1 → grown w a + length phases ≤ 5)) = bounds w refl apart in
    rw quiet (rest_quiet es q off (group + 1) phases (suc k) (grown w a) (group_begun (active es group phase) work) after most (omega arith) six (omega arith) small.0 small.1)
  where
    bounds : (v : Bool) → (v ≡ v) → (v ≡ true → group ≢ q) → (group + 1 ≤ q → grown v a + length phases ≤ 6) × (q < group + 1 → grown v a + length phases ≤ 5)
    bounds false same ne = (λ h. omega arith, λ h. elim (cases_eq group q) [ inl is ↦ omega arith | inr not ↦ omega arith ])
    bounds true same ne = let not : group ≢ q = ne refl in (λ h. omega arith, λ h. omega arith)

no_job : (n j : ℕ) → slice_index_or (replicate {A = Option Job} n None) j None ≡ None
no_job zero j = refl
no_job (suc n) zero = refl
no_job (suc n) (suc j) = no_job n j

begins_roomy : (sets : ℕ) → 6 ≤ sets → Roomy 0 0 (no_jobs sets)
begins_roomy sets six = record {
  size = let len : length (replicate {A = Option Job} sets None) ≡ sets = length-replicate sets None in omega arith;
  free = λ j h. no_job sets j;
  areas = λ j job at. let is : None ≡ Some job = sym (no_job sets j) ∙ at in absurd (cc);
}

accepted-areas : (plan : Written) → fault_of plan.rows plan.entries ≡ None → all_want plan.entries ≡ false
accepted-areas plan accepted = elim (cases_Bool (all_want plan.entries)) [
  | inr off ↦ off
  | inl all ↦ elim (cases_Bool (task_twice plan.rows)) [
    | inl twice ↦ let is : Some TaskTwice ≡ None = rw twice at accepted in absurd (cc)
    | inr once ↦ elim (cases_Bool (phase_twice plan.entries)) [
      | inl twice ↦ let is : Some PhaseTwice ≡ None = rw (once, twice) at accepted in absurd (cc)
      | inr one ↦ let is : Some TooManyAreas ≡ None = rw (once, one, all) at accepted in absurd (cc)
    ]
  ]
]

pub quiet : (plan : Written) → fault_of plan.rows plan.entries ≡ None → BeginsQuietly plan
quiet plan accepted sets enough phases six =
    let (q, low, le, none_wants) = some_group plan.entries (accepted-areas plan accepted) in
    alarms_from_is plan.entries 1 phases (no_work sets)
    ∙ rest_quiet plan.entries q none_wants 1 phases 0 0 (no_work sets) (begins_roomy sets enough) (omega arith) (omega arith) le (omega arith) (λ h. omega arith) (λ h. let no : ⊥ = omega arith in absurd no)
