-- What each search through the slots finds. Slots have indices from 0, and numbers from 1.
use Rattle.std.proofs.Common.{◌≡◌, ◌≢◌, ◌⊎◌, ◌↔◌, ℕ, zero, suc, ◌+◌, ◌-◌, ◌<◌, ◌≤◌, Bool, true, false, List, [], ◌∷◌, Option, Some, None, length, slice_index_or, refl, ap, sym, ◌∙◌, inl, inr, nat_lt, arith}
use Rattle.std.proofs.lemmas.Bool.{cases_eq, cases_lt, cases_Bool}
use Rattle.std.proofs.lemmas.List.{get_or_past}
use Rattle.std.proofs.lemmas.Option.{same_Some}
use Rattle.std.proofs.lemmas.Grind.{common_steps}
use Rattle.std.specs.Prelude.{option_map}
use Rattle.agc_plan.specs.Jobs.{Job, Ready, job_in, best, best_from, more_urgent, least_unused, is_owned, least_unowned, is_sleeper, sleeper_from}
use Rattle.agc_plan.specs.Laws.{Lives, LivesAwake, NobodyIsAwake, IsMostUrgent, IsUsed, IsLeastUnused, IsEachUsed, IsOwned, IsUnowned, IsLeastUnowned, IsEachOwned, IsFirstSleeper, NobodySleepsAt}

-- who stands at this index
abbrev pub At : List (Option Job) → ℕ → Option Job → Type 0
At slots i o = slice_index_or slots i None ≡ o

-- a number's index is one less
pub at_number : (slots : List (Option Job)) (number i : ℕ) → number ≡ 1 + i → job_in slots number ≡ slice_index_or slots i None
at_number slots number i e = let z : number - 1 ≡ i = omega arith in ap (λ k. slice_index_or slots k None) z

pub lives_at : (slots : List (Option Job)) (i : ℕ) (job : Job) → At slots i (Some job) → Lives slots (1 + i) job
lives_at slots i job at = (omega arith, at_number slots (1 + i) i refl ∙ at)

-- an index at which somebody stands is a slot's
pub at_within : (slots : List (Option Job)) (i : ℕ) (job : Job) → At slots i (Some job) → i < length slots
at_within slots i job at = elim (cases_lt i (length slots)) [
  | inl lt ↦ lt
  | inr past ↦ let nobody : slice_index_or slots i None ≡ None = get_or_past slots i None past in absurd (cc)
]

-- the best of the slots, and where it stands
record Found (from : ℕ) (slots : List (Option Job)) (r : Ready) : Type 0 where
  index : ℕ
  job : Job
  at : At slots index (Some job)
  awake : job.asleep ≡ false
  number : r.number ≡ from + index
  priority : r.priority ≡ job.priority
  first : (j : ℕ) (other : Job) → At slots j (Some other) → other.asleep ≡ false → (other.priority < r.priority) ⊎ ((other.priority ≡ r.priority) × (index ≤ j))

more_urgent-some : (first : Ready) (rest : Option Ready) → more_urgent first rest ≡ None → ⊥
more_urgent-some first None e = absurd (cc)
more_urgent-some first (Some second) e = elim (cases_Bool (nat_lt first.priority second.priority)) [
  | inl less ↦ let no : Some second ≡ None = rw less at e in absurd (cc)
  | inr more ↦ let no : Some first ≡ None = rw more at e in absurd (cc)
]

asleep_too : (job : Job) (slots : List (Option Job)) → ((j : ℕ) (other : Job) → At slots j (Some other) → other.asleep ≡ true) → job.asleep ≡ true → (j : ℕ) (other : Job) → At (Some job ∷ slots) j (Some other) → other.asleep ≡ true
asleep_too job slots rest asleep zero other at = let same : job ≡ other = same_Some job other at in rw (← same) asleep
asleep_too job slots rest asleep (suc j) other at = rest j other at

all_asleep : (from : ℕ) (slots : List (Option Job)) → best_from from slots ≡ None → (j : ℕ) (other : Job) → At slots j (Some other) → other.asleep ≡ true
all_asleep from [] e j other at = absurd (cc)
all_asleep from (None ∷ slots) e zero other at = absurd (cc)
all_asleep from (None ∷ slots) e (suc j) other at = all_asleep (from + 1) slots e j other at
all_asleep from (Some job ∷ slots) e j other at = elim (cases_Bool job.asleep) [
  | inl asleep ↦ asleep_too job slots (all_asleep (from + 1) slots (rw asleep at e)) asleep j other at
  | inr awake ↦ absurd (more_urgent-some (record { number = from; priority = job.priority }) (best_from (from + 1) slots) (rw awake at e))
]

later_found : (from : ℕ) (o : Option Job) (slots : List (Option Job)) (r : Ready) → Found (from + 1) slots r → ((job : Job) → o ≡ Some job → job.asleep ≡ false → job.priority < r.priority) → Found from (o ∷ slots) r
later_found from o slots r f less = record {
  index = suc f.index;
  job = f.job;
  at = f.at;
  awake = f.awake;
  number = let n : r.number ≡ from + 1 + f.index = f.number in omega arith;
  priority = f.priority;
  first = yields;
}
  where
    yields : (j : ℕ) (other : Job) → At (o ∷ slots) j (Some other) → other.asleep ≡ false → (other.priority < r.priority) ⊎ ((other.priority ≡ r.priority) × (suc f.index ≤ j))
    yields zero other at awake = inl (less other at awake)
    yields (suc j) other at awake = elim (f.first j other at awake) [ inl lt ↦ inl lt | inr both ↦ inr (both.0, omega (arith, both.1)) ]

here_found : (from : ℕ) (job : Job) (slots : List (Option Job)) → job.asleep ≡ false → ((j : ℕ) (other : Job) → At slots j (Some other) → other.asleep ≡ false → other.priority ≤ job.priority) → Found from (Some job ∷ slots) (record { number = from; priority = job.priority })
here_found from job slots awake most = record {
  index = 0;
  job = job;
  at = refl;
  awake = awake;
  number = omega arith;
  priority = refl;
  first = yields;
}
  where
    yields : (j : ℕ) (other : Job) → At (Some job ∷ slots) j (Some other) → other.asleep ≡ false → (other.priority < job.priority) ⊎ ((other.priority ≡ job.priority) × (0 ≤ j))
    yields zero other at awake = let same : job ≡ other = same_Some job other at in inr (ap (λ x. x.priority) (sym same), omega arith)
    yields (suc j) other at awake =
        let le : other.priority ≤ job.priority = most j other at awake in
        elim (cases_lt other.priority job.priority) [ inl lt ↦ inl lt | inr ge ↦ inr (omega arith, omega arith) ]

first_found : (from : ℕ) (job : Job) (slots : List (Option Job)) → job.asleep ≡ false → ((r : Ready) → best_from (from + 1) slots ≡ Some r → Found (from + 1) slots r) → (o : Option Ready) → best_from (from + 1) slots ≡ o → (r : Ready) → more_urgent (record { number = from; priority = job.priority }) (best_from (from + 1) slots) ≡ Some r → Found from (Some job ∷ slots) r
first_found from job slots awake rest None is r more =
    let same : record { number = from; priority = job.priority } ≡ r = same_Some (record { number = from; priority = job.priority }) r (rw is at more) in
    rw (← same) (here_found from job slots awake (λ j other at other_awake. let asleep : other.asleep ≡ true = all_asleep (from + 1) slots is j other at in let no : true ≡ false = sym asleep ∙ other_awake in absurd (cc)))
first_found from job slots awake rest (Some second) is r more = choose (nat_lt job.priority second.priority) refl (rest second is)
  where
    choose : (b : Bool) → nat_lt job.priority second.priority ≡ b → Found (from + 1) slots second → Found from (Some job ∷ slots) r
    choose true less behind =
        let same : second ≡ r = same_Some second r (rw (is, less) at more) in
        let lt : job.priority < second.priority = grind (arith, common_steps) in
        rw (← same) (later_found from (Some job) slots second behind (λ other at other_awake. let is_job : job ≡ other = same_Some job other at in rw (← is_job) lt))
    choose false less behind =
        let same : record { number = from; priority = job.priority } ≡ r = same_Some (record { number = from; priority = job.priority }) r (rw (is, less) at more) in
        let ge : second.priority ≤ job.priority = grind (arith, common_steps) in
        rw (← same) (here_found from job slots awake (λ j other at other_awake. elim (behind.first j other at other_awake) [ inl lt ↦ omega arith | inr both ↦ omega (arith, both.0) ]))

best_from-found : (from : ℕ) (slots : List (Option Job)) (r : Ready) → best_from from slots ≡ Some r → Found from slots r
best_from-found from [] r e = absurd (cc)
best_from-found from (None ∷ slots) r e = later_found from None slots r (best_from-found (from + 1) slots r e) (λ job is awake. absurd (let no : None ≡ Some job = is in cc))
best_from-found from (Some job ∷ slots) r e = elim (cases_Bool job.asleep) [
  | inl asleep ↦
      later_found from (Some job) slots r (best_from-found (from + 1) slots r (rw asleep at e))
      (λ other is awake. let same : job ≡ other = same_Some job other is in let no : true ≡ false = sym asleep ∙ ap (λ x. x.asleep) same ∙ awake in absurd (cc))
  | inr awake ↦ first_found from job slots awake (best_from-found (from + 1) slots) (best_from (from + 1) slots) refl r (rw awake at e)
]

mapped : (o : Option Ready) (n : ℕ) → option_map (λ r. r.number) o ≡ Some n → (r : Ready) × (o ≡ Some r) × (r.number ≡ n)
mapped None n e = absurd (cc)
mapped (Some r) n e = (r, refl, same_Some r.number n e)

unmapped : (o : Option Ready) → option_map (λ r. r.number) o ≡ None → o ≡ None
unmapped None e = refl
unmapped (Some r) e = absurd (cc)

pub best-most_urgent : (slots : List (Option Job)) (number : ℕ) → best slots ≡ Some number → IsMostUrgent slots number
best-most_urgent slots number e =
    let (r, is, same) = mapped (best_from 1 slots) number e in
    let f : Found 1 slots r = best_from-found 1 slots r is in
    let n : number ≡ 1 + f.index = sym same ∙ f.number in
    record {
      job = f.job;
      awake = ((omega arith, at_number slots number f.index n ∙ f.at), f.awake);
      greatest = λ other rival lives. let p : r.priority ≡ f.job.priority = f.priority in elim (f.first (other - 1) rival lives.0.1 lives.1) [ inl lt ↦ omega arith | inr both ↦ omega (arith, both.0) ];
      lowest = λ other rival lives alike. let p : r.priority ≡ f.job.priority = f.priority in let low : 1 ≤ other = lives.0.0 in elim (f.first (other - 1) rival lives.0.1 lives.1) [ inl lt ↦ absurd (omega arith) | inr both ↦ omega (arith, both.1) ];
    }

-- the best lives and is awake, with its number and priority
pub ready_found : (slots : List (Option Job)) (r : Ready) → best_from 1 slots ≡ Some r → (job : Job) × LivesAwake slots r.number job × (job.priority ≡ r.priority)
ready_found slots r e =
    let f : Found 1 slots r = best_from-found 1 slots r e in
    let n : r.number ≡ 1 + f.index = f.number in
    (f.job, ((omega arith, at_number slots r.number f.index n ∙ f.at), f.awake), sym f.priority)

pub best-nobody : (slots : List (Option Job)) → best slots ≡ None → NobodyIsAwake slots
best-nobody slots e number job lives = all_asleep 1 slots (unmapped (best_from 1 slots) e) (number - 1) job lives.1

best_cases : (slots : List (Option Job)) → ((number : ℕ) × (best slots ≡ Some number)) ⊎ (best slots ≡ None)
best_cases slots = go (best slots) refl where
  go : (o : Option ℕ) → best slots ≡ o → ((number : ℕ) × (best slots ≡ Some number)) ⊎ (best slots ≡ None)
  go None e = inr e
  go (Some n) e = inl (n, e)

-- two most urgent jobs have the same number
one_most_urgent : (slots : List (Option Job)) (n m : ℕ) → IsMostUrgent slots n → IsMostUrgent slots m → n ≡ m
one_most_urgent slots n m a b =
    let p : b.job.priority ≤ a.job.priority = a.greatest m b.job b.awake in
    let q : a.job.priority ≤ b.job.priority = b.greatest n a.job a.awake in
    let low : n ≤ m = a.lowest m b.job b.awake (omega arith) in
    let high : m ≤ n = b.lowest n a.job a.awake (omega arith) in
    omega arith

pub best_law : (slots : List (Option Job)) (number : ℕ) → (best slots ≡ Some number) ↔ IsMostUrgent slots number
best_law slots number = (best-most_urgent slots number, back)
  where
    back : IsMostUrgent slots number → best slots ≡ Some number
    back most = elim (best_cases slots) [
      | inl found ↦ found.1 ∙ ap Some (one_most_urgent slots found.0 number (best-most_urgent slots found.0 found.1) most)
      | inr off ↦ let asleep : most.job.asleep ≡ true = best-nobody slots off number most.job most.awake.0 in let no : true ≡ false = sym asleep ∙ most.awake.1 in absurd (cc)
    ]

pub nobody_law : (slots : List (Option Job)) → (best slots ≡ None) ↔ NobodyIsAwake slots
nobody_law slots = (best-nobody slots, back)
  where
    back : NobodyIsAwake slots → best slots ≡ None
    back nobody = elim (best_cases slots) [
      | inl found ↦ let most : IsMostUrgent slots found.0 = best-most_urgent slots found.0 found.1 in let asleep : most.job.asleep ≡ true = nobody found.0 most.job most.awake.0 in let no : true ≡ false = sym asleep ∙ most.awake.1 in absurd (cc)
      | inr off ↦ off
    ]

-- the least number from this one on whose slot is empty
least_unused-found : (from : ℕ) (slots : List (Option Job)) (n : ℕ) → least_unused from slots ≡ Some n → (i : ℕ) × (n ≡ from + i) × (i < length slots) × At slots i None × ((j : ℕ) → j < i → (job : Job) × At slots j (Some job))
least_unused-found from [] n e = absurd (cc)
least_unused-found from (None ∷ slots) n e = let same : from ≡ n = same_Some from n e in (0, omega arith, omega arith, refl, λ j lt. absurd (omega arith))
least_unused-found from (Some job ∷ slots) n e =
    let (i, is, lt, at, used) = least_unused-found (from + 1) slots n e in
    (suc i, omega arith, omega arith, at, before i used)
  where
    before : (i : ℕ) → ((j : ℕ) → j < i → (other : Job) × At slots j (Some other)) → (j : ℕ) → j < suc i → (other : Job) × At (Some job ∷ slots) j (Some other)
    before i used zero lt = (job, refl)
    before i used (suc j) lt = used j (omega arith)

all_used : (from : ℕ) (slots : List (Option Job)) → least_unused from slots ≡ None → (j : ℕ) → j < length slots → (job : Job) × At slots j (Some job)
all_used from [] e j lt = absurd (omega arith)
all_used from (None ∷ slots) e j lt = absurd (cc)
all_used from (Some job ∷ slots) e zero lt = (job, refl)
all_used from (Some job ∷ slots) e (suc j) lt = all_used (from + 1) slots e j (omega arith)

pub least_unused-least : (slots : List (Option Job)) (number : ℕ) → least_unused 1 slots ≡ Some number → IsLeastUnused slots number
least_unused-least slots number e =
    let (i, is, lt, at, used) = least_unused-found 1 slots number e in
    record {
      low = omega arith;
      high = omega arith;
      unused = at_number slots number i is ∙ at;
      lower = λ other low before. let (job, here) = used (other - 1) (omega arith) in (job, (low, here));
    }

pub least_unused-each : (slots : List (Option Job)) → least_unused 1 slots ≡ None → IsEachUsed slots
least_unused-each slots e number low high = let (job, here) = all_used 1 slots e (number - 1) (omega arith) in (job, (low, here))

pub option_cases : (o : Option ℕ) → ((n : ℕ) × (o ≡ Some n)) ⊎ (o ≡ None)
option_cases None = inr refl
option_cases (Some n) = inl (n, refl)

not_used : (slots : List (Option Job)) (number : ℕ) → job_in slots number ≡ None → IsUsed slots number → ⊥
not_used slots number e used = let here : job_in slots number ≡ Some used.0 = used.1.1 in absurd (cc)

one_least_unused : (slots : List (Option Job)) (n m : ℕ) → IsLeastUnused slots n → IsLeastUnused slots m → n ≡ m
one_least_unused slots n m a b = elim (cases_lt n m) [
  | inl lt ↦ absurd (not_used slots n a.unused (b.lower n a.low lt))
  | inr ge ↦ elim (cases_lt m n) [ inl lt ↦ absurd (not_used slots m b.unused (a.lower m b.low lt)) | inr le ↦ omega arith ]
]

pub least_unused_law : (slots : List (Option Job)) (number : ℕ) → (least_unused 1 slots ≡ Some number) ↔ IsLeastUnused slots number
least_unused_law slots number = (least_unused-least slots number, back)
  where
    back : IsLeastUnused slots number → least_unused 1 slots ≡ Some number
    back least = elim (option_cases (least_unused 1 slots)) [
      | inl found ↦ found.1 ∙ ap Some (one_least_unused slots found.0 number (least_unused-least slots found.0 found.1) least)
      | inr off ↦ absurd (not_used slots number least.unused (least_unused-each slots off number least.low least.high))
    ]

pub each_used_law : (slots : List (Option Job)) → (least_unused 1 slots ≡ None) ↔ IsEachUsed slots
each_used_law slots = (least_unused-each slots, back)
  where
    back : IsEachUsed slots → least_unused 1 slots ≡ None
    back each = elim (option_cases (least_unused 1 slots)) [
      | inl found ↦ let least : IsLeastUnused slots found.0 = least_unused-least slots found.0 found.1 in absurd (not_used slots found.0 least.unused (each found.0 least.low least.high))
      | inr off ↦ off
    ]

-- who owns an area
owner_at : (area : ℕ) (slots : List (Option Job)) → is_owned area slots ≡ true → (j : ℕ) × (job : Job) × At slots j (Some job) × (job.area ≡ area)
owner_at area [] e = absurd (cc)
owner_at area (None ∷ slots) e = let (j, job, at, is) = owner_at area slots e in (suc j, job, at, is)
owner_at area (Some first ∷ slots) e = elim (cases_eq first.area area) [
  | inl same ↦ (0, first, refl, same)
  | inr ne ↦ let rest : is_owned area slots ≡ true = grind (arith, common_steps) in let (j, job, at, is) = owner_at area slots rest in (suc j, job, at, is)
]

no_owner_at : (area : ℕ) (slots : List (Option Job)) → is_owned area slots ≡ false → (j : ℕ) (job : Job) → At slots j (Some job) → job.area ≢ area
no_owner_at area [] e j job at = absurd (cc)
no_owner_at area (None ∷ slots) e zero job at = absurd (cc)
no_owner_at area (None ∷ slots) e (suc j) job at = no_owner_at area slots e j job at
no_owner_at area (Some first ∷ slots) e zero job at = let same : first ≡ job = same_Some first job at in grind (arith, common_steps)
no_owner_at area (Some first ∷ slots) e (suc j) job at = let rest : is_owned area slots ≡ false = grind (arith, common_steps) in no_owner_at area slots rest j job at

pub owned : (area : ℕ) (slots : List (Option Job)) → is_owned area slots ≡ true → IsOwned slots area
owned area slots e = let (j, job, at, is) = owner_at area slots e in (1 + j, job, lives_at slots j job at, is)

pub unowned : (area : ℕ) (slots : List (Option Job)) → is_owned area slots ≡ false → IsUnowned slots area
unowned area slots e number job lives is = no_owner_at area slots e (number - 1) job lives.1 is

least_unowned-found : (more from : ℕ) (slots : List (Option Job)) (area : ℕ) → least_unowned more from slots ≡ Some area → (from ≤ area) × (area < from + more) × (is_owned area slots ≡ false) × ((m : ℕ) → from ≤ m → m < area → is_owned m slots ≡ true)
least_unowned-found zero from slots area e = absurd (cc)
least_unowned-found (suc more) from slots area e = elim (cases_Bool (is_owned from slots)) [
  | inl here ↦
      let (low, high, off, before) = least_unowned-found more (from + 1) slots area (rw here at e) in
      (omega arith, omega arith, off, λ m le lt. elim (cases_eq m from) [ inl same ↦ rw same here | inr ne ↦ before m (omega arith) lt ])
  | inr off ↦
      let same : from ≡ area = same_Some from area (rw off at e) in
      (omega arith, omega arith, rw (← same) off, λ m le lt. absurd (omega arith))
]

all_owned : (more from : ℕ) (slots : List (Option Job)) → least_unowned more from slots ≡ None → (m : ℕ) → from ≤ m → m < from + more → is_owned m slots ≡ true
all_owned zero from slots e m low high = absurd (omega arith)
all_owned (suc more) from slots e m low high = elim (cases_Bool (is_owned from slots)) [
  | inl here ↦ elim (cases_eq m from) [ inl same ↦ rw same here | inr ne ↦ all_owned more (from + 1) slots (rw here at e) m (omega arith) (omega arith) ]
  | inr off ↦ let no : Some from ≡ None = rw off at e in absurd (cc)
]

pub least_unowned-least : (slots : List (Option Job)) (area : ℕ) → least_unowned 5 1 slots ≡ Some area → IsLeastUnowned slots area
least_unowned-least slots area e =
    let (low, high, off, before) = least_unowned-found 5 1 slots area e in
    record {
      low = low;
      high = omega arith;
      unowned = unowned area slots off;
      lower = λ other least lt. owned other slots (before other least lt);
    }

pub least_unowned-each : (slots : List (Option Job)) → least_unowned 5 1 slots ≡ None → IsEachOwned slots
least_unowned-each slots e area low high = owned area slots (all_owned 5 1 slots e area low (omega arith))

not_owned : (slots : List (Option Job)) (area : ℕ) → IsUnowned slots area → IsOwned slots area → ⊥
not_owned slots area off has = off has.0 has.1 has.2 has.3

one_least_unowned : (slots : List (Option Job)) (n m : ℕ) → IsLeastUnowned slots n → IsLeastUnowned slots m → n ≡ m
one_least_unowned slots n m a b = elim (cases_lt n m) [
  | inl lt ↦ absurd (not_owned slots n a.unowned (b.lower n a.low lt))
  | inr ge ↦ elim (cases_lt m n) [ inl lt ↦ absurd (not_owned slots m b.unowned (a.lower m b.low lt)) | inr le ↦ omega arith ]
]

pub least_unowned_law : (slots : List (Option Job)) (area : ℕ) → (least_unowned 5 1 slots ≡ Some area) ↔ IsLeastUnowned slots area
least_unowned_law slots area = (least_unowned-least slots area, back)
  where
    back : IsLeastUnowned slots area → least_unowned 5 1 slots ≡ Some area
    back least = elim (option_cases (least_unowned 5 1 slots)) [
      | inl found ↦ found.1 ∙ ap Some (one_least_unowned slots found.0 area (least_unowned-least slots found.0 found.1) least)
      | inr off ↦ absurd (not_owned slots area least.unowned (least_unowned-each slots off area least.low least.high))
    ]

pub each_owned_law : (slots : List (Option Job)) → (least_unowned 5 1 slots ≡ None) ↔ IsEachOwned slots
each_owned_law slots = (least_unowned-each slots, back)
  where
    back : IsEachOwned slots → least_unowned 5 1 slots ≡ None
    back each = elim (option_cases (least_unowned 5 1 slots)) [
      | inl found ↦ let least : IsLeastUnowned slots found.0 = least_unowned-least slots found.0 found.1 in absurd (not_owned slots found.0 least.unowned (each found.0 least.low least.high))
      | inr off ↦ off
    ]

-- whether a job sleeps until this address is called
is_sleeper-true : (at : ℕ) (job : Job) → is_sleeper at job ≡ true → (job.asleep ≡ true) × (job.at ≡ at)
is_sleeper-true at job e = (grind (arith, common_steps), grind (arith, common_steps))

true-is_sleeper : (at : ℕ) (job : Job) → job.asleep ≡ true → job.at ≡ at → is_sleeper at job ≡ true
true-is_sleeper at job asleep here = grind (arith, common_steps)

sleeper_from-found : (from at : ℕ) (slots : List (Option Job)) (n : ℕ) → sleeper_from from at slots ≡ Some n → (i : ℕ) × (job : Job) × (n ≡ from + i) × At slots i (Some job) × (is_sleeper at job ≡ true) × ((j : ℕ) (other : Job) → At slots j (Some other) → is_sleeper at other ≡ true → i ≤ j)
sleeper_from-found from at [] n e = absurd (cc)
sleeper_from-found from at (None ∷ slots) n e =
    let (i, job, is, here, sleeps, first) = sleeper_from-found (from + 1) at slots n e in
    (suc i, job, omega arith, here, sleeps, behind i first)
  where
    behind : (i : ℕ) → ((j : ℕ) (other : Job) → At slots j (Some other) → is_sleeper at other ≡ true → i ≤ j) → (j : ℕ) (other : Job) → At (None ∷ slots) j (Some other) → is_sleeper at other ≡ true → suc i ≤ j
    behind i first zero other there sleeps = absurd (cc)
    behind i first (suc j) other there sleeps = let le : i ≤ j = first j other there sleeps in omega arith
sleeper_from-found from at (Some s ∷ slots) n e = elim (cases_Bool (is_sleeper at s)) [
  | inl here ↦ let same : from ≡ n = same_Some from n (rw here at e) in (0, s, omega arith, refl, here, λ j other there sleeps. omega arith)
  | inr off ↦
      let (i, job, is, here, sleeps, first) = sleeper_from-found (from + 1) at slots n (rw off at e) in
      (suc i, job, omega arith, here, sleeps, behind i first off)
]
  where
    behind : (i : ℕ) → ((j : ℕ) (other : Job) → At slots j (Some other) → is_sleeper at other ≡ true → i ≤ j) → is_sleeper at s ≡ false → (j : ℕ) (other : Job) → At (Some s ∷ slots) j (Some other) → is_sleeper at other ≡ true → suc i ≤ j
    behind i first off zero other there sleeps = let same : s ≡ other = same_Some s other there in let no : true ≡ false = sym sleeps ∙ ap (is_sleeper at) (sym same) ∙ off in absurd (cc)
    behind i first off (suc j) other there sleeps = let le : i ≤ j = first j other there sleeps in omega arith

no_sleeper_from : (from at : ℕ) (slots : List (Option Job)) → sleeper_from from at slots ≡ None → (j : ℕ) (other : Job) → At slots j (Some other) → is_sleeper at other ≡ false
no_sleeper_from from at [] e j other there = absurd (cc)
no_sleeper_from from at (None ∷ slots) e zero other there = absurd (cc)
no_sleeper_from from at (None ∷ slots) e (suc j) other there = no_sleeper_from (from + 1) at slots e j other there
no_sleeper_from from at (Some s ∷ slots) e j other there = elim (cases_Bool (is_sleeper at s)) [
  | inl here ↦ let no : Some from ≡ None = rw here at e in absurd (cc)
  | inr off ↦ neither (no_sleeper_from (from + 1) at slots (rw off at e)) off j other there
]
  where
    neither : ((j : ℕ) (other : Job) → At slots j (Some other) → is_sleeper at other ≡ false) → is_sleeper at s ≡ false → (j : ℕ) (other : Job) → At (Some s ∷ slots) j (Some other) → is_sleeper at other ≡ false
    neither rest off zero other here = let same : s ≡ other = same_Some s other here in rw (← same) off
    neither rest off (suc j) other here = rest j other here

pub sleeper_from-first : (at : ℕ) (slots : List (Option Job)) (number : ℕ) → sleeper_from 1 at slots ≡ Some number → IsFirstSleeper at slots number
sleeper_from-first at slots number e =
    let (i, job, is, here, sleeps, first) = sleeper_from-found 1 at slots number e in
    let (asleep, place) = is_sleeper-true at job sleeps in
    record {
      job = job;
      sleeps = ((omega arith, at_number slots number i is ∙ here), asleep, place);
      lowest = λ other rival s. let low : 1 ≤ other = s.0.0 in let le : i ≤ other - 1 = first (other - 1) rival s.0.1 (true-is_sleeper at rival s.1 s.2) in omega arith;
    }

pub sleeper_from-nobody : (at : ℕ) (slots : List (Option Job)) → sleeper_from 1 at slots ≡ None → NobodySleepsAt at slots
sleeper_from-nobody at slots e number job s =
    let off : is_sleeper at job ≡ false = no_sleeper_from 1 at slots e (number - 1) job s.0.1 in
    let no : true ≡ false = sym (true-is_sleeper at job s.1 s.2) ∙ off in absurd (cc)

pub sleeper_law : (at : ℕ) (slots : List (Option Job)) (number : ℕ) → (sleeper_from 1 at slots ≡ Some number) ↔ IsFirstSleeper at slots number
sleeper_law at slots number = (sleeper_from-first at slots number, back)
  where
    back : IsFirstSleeper at slots number → sleeper_from 1 at slots ≡ Some number
    back s = elim (option_cases (sleeper_from 1 at slots)) [
      | inl found ↦
          let f : IsFirstSleeper at slots found.0 = sleeper_from-first at slots found.0 found.1 in
          let low : found.0 ≤ number = f.lowest number s.job s.sleeps in
          let high : number ≤ found.0 = s.lowest found.0 f.job f.sleeps in
          let same : found.0 ≡ number = omega arith in
          found.1 ∙ ap Some same
      | inr off ↦ absurd (sleeper_from-nobody at slots off number s.job s.sleeps)
    ]

pub no_sleeper_law : (at : ℕ) (slots : List (Option Job)) → (sleeper_from 1 at slots ≡ None) ↔ NobodySleepsAt at slots
no_sleeper_law at slots = (sleeper_from-nobody at slots, back)
  where
    back : NobodySleepsAt at slots → sleeper_from 1 at slots ≡ None
    back nobody = elim (option_cases (sleeper_from 1 at slots)) [
      | inl found ↦ let f : IsFirstSleeper at slots found.0 = sleeper_from-first at slots found.0 found.1 in absurd (nobody found.0 f.job f.sleeps)
      | inr off ↦ off
    ]
