-- What the searches in the plain list of jobs find.
use Rattle.std.proofs.Common.{◌≡◌, ◌⊎◌, ℕ, zero, suc, ◌+◌, ◌<◌, ◌≤◌, Bool, true, false, List, [], ◌∷◌, Option, Some, None, length, slice_index_or, refl, inl, inr, is_some, nat_lt, arith}
use Rattle.std.proofs.lemmas.Option.{same_Some}
use Rattle.std.proofs.lemmas.Grind.{common_steps}
use Rattle.std.proofs.lemmas.Bool.{cases_Bool}
use Rattle.agc_plan.specs.Jobs.{Job, least_unused, Ready, best_from, more_urgent, is_sleeper, sleeper_from}

-- the least unused number: its slot is empty, and each one before it isn't
pub least_unused-at : (from : ℕ) (slots : List (Option Job)) (i : ℕ) → i < length slots → slice_index_or slots i None ≡ None → ((j : ℕ) → j < i → is_some (slice_index_or slots j None) ≡ true) → least_unused from slots ≡ Some (from + i)
least_unused-at from [] i lt free used = absurd (omega arith)
least_unused-at from (None ∷ slots) zero lt free used = let z : from + 0 ≡ from = omega arith in rw z
least_unused-at from (None ∷ slots) (suc i) lt free used = absurd (let h : false ≡ true = used 0 (omega arith) in cc)
least_unused-at from (Some job ∷ slots) zero lt free used = absurd (cc)
least_unused-at from (Some job ∷ slots) (suc i) lt free used =
    let z : from + suc i ≡ from + 1 + i = omega arith in
    rw z (least_unused-at (from + 1) slots i (omega arith) free (λ j h. used (suc j) (omega arith)))

-- with no slot empty, no number is unused
pub least_unused-none : (from : ℕ) (slots : List (Option Job)) → ((j : ℕ) → j < length slots → is_some (slice_index_or slots j None) ≡ true) → least_unused from slots ≡ None
least_unused-none from [] used = refl
least_unused-none from (None ∷ slots) used = absurd (let h : false ≡ true = used 0 (omega arith) in cc)
least_unused-none from (Some job ∷ slots) used = least_unused-none (from + 1) slots (λ j h. used (suc j) (omega arith))

more_urgent-bound : (first : Ready) (rest : Option Ready) (p : ℕ) → first.priority ≤ p → ((s : Ready) → rest ≡ Some s → s.priority ≤ p) → (r : Ready) → more_urgent first rest ≡ Some r → r.priority ≤ p
more_urgent-bound first None p here behind r e = let same : first ≡ r = cc in rw (← same) here
more_urgent-bound first (Some second) p here behind r e =
    let b : second.priority ≤ p = behind second refl in
    elim (cases_Bool (nat_lt first.priority second.priority)) [
      | inl less ↦ let same : second ≡ r = same_Some second r (rw less at e) in rw (← same) b
      | inr more ↦ let same : first ≡ r = same_Some first r (rw more at e) in rw (← same) here
    ]

more_urgent-first : (first : Ready) (rest : Option Ready) → ((s : Ready) → rest ≡ Some s → s.priority ≤ first.priority) → more_urgent first rest ≡ Some first
more_urgent-first first None h = refl
more_urgent-first first (Some second) h = let le : second.priority ≤ first.priority = h second refl in grind (arith, common_steps)

more_urgent-second : (first second : Ready) → first.priority < second.priority → more_urgent first (Some second) ≡ Some second
more_urgent-second first second lt = grind (arith, common_steps)

-- each awake job is at most so urgent, and so is the best
pub best_from-bound : (from : ℕ) (slots : List (Option Job)) (p : ℕ) → ((j : ℕ) (job : Job) → slice_index_or slots j None ≡ Some job → job.asleep ≡ false → job.priority ≤ p) → (r : Ready) → best_from from slots ≡ Some r → r.priority ≤ p
best_from-bound from [] p h r e = absurd (cc)
best_from-bound from (None ∷ slots) p h r e = best_from-bound (from + 1) slots p (λ j. h (suc j)) r e
best_from-bound from (Some job ∷ slots) p h r e = elim (cases_Bool job.asleep) [
  | inl asleep ↦ best_from-bound (from + 1) slots p (λ j. h (suc j)) r (rw asleep at e)
  | inr awake ↦ more_urgent-bound (record { number = from; priority = job.priority }) (best_from (from + 1) slots) p (h 0 job refl awake) (best_from-bound (from + 1) slots p (λ j. h (suc j))) r (rw awake at e)
]

-- with nobody awake there is no best job
pub best_from-none : (from : ℕ) (slots : List (Option Job)) → ((j : ℕ) (job : Job) → slice_index_or slots j None ≡ Some job → job.asleep ≡ true) → best_from from slots ≡ None
best_from-none from [] h = refl
best_from-none from (None ∷ slots) h = best_from-none (from + 1) slots (λ j. h (suc j))
best_from-none from (Some job ∷ slots) h =
    let asleep : job.asleep ≡ true = h 0 job refl in
    rw asleep (best_from-none (from + 1) slots (λ j. h (suc j)))

-- the best job: an awake one, than which no awake job is more urgent, nor as urgent and of a lower
-- number
pub best_from-is : (from : ℕ) (slots : List (Option Job)) (i : ℕ) (best : Job) → slice_index_or slots i None ≡ Some best → best.asleep ≡ false → ((j : ℕ) (job : Job) → slice_index_or slots j None ≡ Some job → job.asleep ≡ false → (job.priority < best.priority) ⊎ ((job.priority ≡ best.priority) × (i ≤ j))) → best_from from slots ≡ Some (record { number = from + i; priority = best.priority })
best_from-is from [] i best at awake first = absurd (cc)
best_from-is from (None ∷ slots) zero best at awake first = absurd (cc)
best_from-is from (None ∷ slots) (suc i) best at awake first =
    let z : from + suc i ≡ from + 1 + i = omega arith in
    rw z (best_from-is (from + 1) slots i best at awake (λ j other h a. elim (first (suc j) other h a) [ inl lt ↦ inl lt | inr both ↦ inr (both.0, omega arith) ]))
best_from-is from (Some job ∷ slots) zero best at awake first =
    let z : from + 0 ≡ from = omega arith in
    let same : job ≡ best = same_Some job best at in
    let here : job.asleep ≡ false = rw same awake in
    let most : job.priority ≡ best.priority = rw same in
    let bound : (s : Ready) → best_from (from + 1) slots ≡ Some s → s.priority ≤ job.priority = best_from-bound (from + 1) slots job.priority (λ j other h a. elim (first (suc j) other h a) [ inl lt ↦ omega arith | inr both ↦ omega arith ]) in
    rw (z, here, ← most) (more_urgent-first (record { number = from; priority = job.priority }) (best_from (from + 1) slots) bound)
best_from-is from (Some job ∷ slots) (suc i) best at awake first =
    let z : from + suc i ≡ from + 1 + i = omega arith in
    let rest : best_from (from + 1) slots ≡ Some (record { number = from + 1 + i; priority = best.priority }) = best_from-is (from + 1) slots i best at awake (λ j other h a. elim (first (suc j) other h a) [ inl lt ↦ inl lt | inr both ↦ inr (both.0, omega arith) ]) in
    elim (cases_Bool job.asleep) [
      | inl asleep ↦ rw (z, asleep) rest
      | inr ready ↦
          let lt : job.priority < best.priority = elim (first 0 job refl ready) [ inl lt ↦ lt | inr both ↦ absurd (omega arith) ] in
          rw (z, ready, rest) (more_urgent-second (record { number = from; priority = job.priority }) (record { number = from + 1 + i; priority = best.priority }) lt)
    ]

-- the sleeper of an address: it sleeps there, and no job of a lower number does
pub sleeper_from-is : (number at : ℕ) (slots : List (Option Job)) (i : ℕ) (job : Job) → slice_index_or slots i None ≡ Some job → is_sleeper at job ≡ true → ((j : ℕ) (other : Job) → j < i → slice_index_or slots j None ≡ Some other → is_sleeper at other ≡ false) → sleeper_from number at slots ≡ Some (number + i)
sleeper_from-is number at [] i job here sleeps first = absurd (cc)
sleeper_from-is number at (None ∷ slots) zero job here sleeps first = absurd (cc)
sleeper_from-is number at (None ∷ slots) (suc i) job here sleeps first =
    let z : number + suc i ≡ number + 1 + i = omega arith in
    rw z (sleeper_from-is (number + 1) at slots i job here sleeps (λ j other lt. first (suc j) other (omega arith)))
sleeper_from-is number at (Some s ∷ slots) zero job here sleeps first =
    let z : number + 0 ≡ number = omega arith in
    let same : s ≡ job = same_Some s job here in
    let is : is_sleeper at s ≡ true = rw same sleeps in
    rw (z, is)
sleeper_from-is number at (Some s ∷ slots) (suc i) job here sleeps first =
    let z : number + suc i ≡ number + 1 + i = omega arith in
    let is : is_sleeper at s ≡ false = first 0 s (omega arith) refl in
    rw (z, is) (sleeper_from-is (number + 1) at slots i job here sleeps (λ j other lt. first (suc j) other (omega arith)))

-- with nobody asleep there, there is no sleeper
pub sleeper_from-none : (number at : ℕ) (slots : List (Option Job)) → ((j : ℕ) (other : Job) → slice_index_or slots j None ≡ Some other → is_sleeper at other ≡ false) → sleeper_from number at slots ≡ None
sleeper_from-none number at [] h = refl
sleeper_from-none number at (None ∷ slots) h = sleeper_from-none (number + 1) at slots (λ j. h (suc j))
sleeper_from-none number at (Some s ∷ slots) h =
    let is : is_sleeper at s ≡ false = h 0 s refl in
    rw is (sleeper_from-none (number + 1) at slots (λ j. h (suc j)))
