use Rattle.std.proofs.Common.{◌≡◌, ◌↔◌, ◌⊎◌, ℕ, ◌<◌, ◌≤◌, ◌==◌, ◌&&◌, ◌||◌, zero, suc, Bool, true, false, List, [], ◌∷◌, length, get_or, Option, Some, None, inl, inr, arith, refl, sym, ap, ◌∙◌}
use Rattle.std.proofs.lemmas.Bool.{and_from, and_parts, or_cases, or_left, or_right, eqb-true, eq-eqb}
use Rattle.agc_plan.specs.declared.request.Action.{Action}
use Rattle.agc_plan.specs.declared.request.JobStart.{JobStart}
use Rattle.agc_plan.specs.declared.request.JobStart.TheVariants.{Novac, Findvac}
use Rattle.agc_plan.specs.declared.request.Task.{Task}
use Rattle.agc_plan.specs.Begins.{Begins}
use Rattle.agc_plan.specs.Plans.{Rows, same_task, has_task, task_twice, is_for, has_entry, phase_twice, wants_area, group_wants, all_want}
use Rattle.agc_plan.specs.Laws.{IsOneTask, HasTwoRows, IsOnePhase, HasTwoEntries, IsWithArea, HasArea, HasEachArea}

-- one of these is alike to x
abbrev any_alike : {X : Type 0} → (X → X → Bool) → List X → X → Bool
any_alike alike [] x = false
any_alike alike (y ∷ ys) x = alike y x || any_alike alike ys x

-- one of these is alike to a later one
abbrev two_alike : {X : Type 0} → (X → X → Bool) → List X → Bool
two_alike alike [] = false
two_alike alike (x ∷ xs) = any_alike alike xs x || two_alike alike xs

-- the place of one that is alike
abbrev AnyAt : {X : Type 0} → (X → X → Bool) → List X → X → Type 0
AnyAt {X} alike ys x = (j : ℕ) × (j < length ys) × ((d : X) → alike (get_or ys j d) x ≡ true)

-- the places of two that are alike
abbrev TwoAt : {X : Type 0} → (X → X → Bool) → List X → Type 0
TwoAt {X} alike xs = (i : ℕ) × (j : ℕ) × (i < j) × (j < length xs) × ((d : X) → alike (get_or xs j d) (get_or xs i d) ≡ true)

any_next : {X : Type 0} (alike : X → X → Bool) (y : X) (ys : List X) (x : X)
    → (any_alike alike ys x ≡ true → AnyAt alike ys x) → (alike y x ≡ true) ⊎ (any_alike alike ys x ≡ true) → AnyAt alike (y ∷ ys) x
any_next alike y ys x rest (inl here) = (0, omega arith, λ d. here)
any_next alike y ys x rest (inr later) = let r = rest later in (suc r.0, omega (arith, r.1), λ d. r.2 d)

any_at : {X : Type 0} (alike : X → X → Bool) (ys : List X) (x : X) → any_alike alike ys x ≡ true → AnyAt alike ys x
any_at alike [] x h = absurd cc
any_at alike (y ∷ ys) x h = any_next alike y ys x (any_at alike ys x) (or_cases (alike y x) (any_alike alike ys x) h)

at_any : {X : Type 0} (alike : X → X → Bool) (ys : List X) (x : X) (j : ℕ) → j < length ys → ((d : X) → alike (get_or ys j d) x ≡ true) → any_alike alike ys x ≡ true
at_any alike [] x j lt h = absurd (omega (arith, lt))
at_any alike (y ∷ ys) x zero lt h = or_left (alike y x) (any_alike alike ys x) (h y)
at_any alike (y ∷ ys) x (suc j) lt h = or_right (alike y x) (any_alike alike ys x) (at_any alike ys x j (omega (arith, lt)) h)

two_next : {X : Type 0} (alike : X → X → Bool) (x : X) (xs : List X)
    → (two_alike alike xs ≡ true → TwoAt alike xs) → (any_alike alike xs x ≡ true) ⊎ (two_alike alike xs ≡ true) → TwoAt alike (x ∷ xs)
two_next alike x xs rest (inl here) = let r = any_at alike xs x here in (0, suc r.0, omega arith, omega (arith, r.1), λ d. r.2 d)
two_next alike x xs rest (inr later) = let r = rest later in (suc r.0, suc r.1, omega (arith, r.2), omega (arith, r.3), λ d. r.4 d)

two_at : {X : Type 0} (alike : X → X → Bool) (xs : List X) → two_alike alike xs ≡ true → TwoAt alike xs
two_at alike [] h = absurd cc
two_at alike (x ∷ xs) h = two_next alike x xs (two_at alike xs) (or_cases (any_alike alike xs x) (two_alike alike xs) h)

at_two : {X : Type 0} (alike : X → X → Bool) (xs : List X) (i j : ℕ) → i < j → j < length xs → ((d : X) → alike (get_or xs j d) (get_or xs i d) ≡ true) → two_alike alike xs ≡ true
at_two alike [] i j before within h = absurd (omega (arith, within))
at_two alike (x ∷ xs) i zero before within h = absurd (omega (arith, before))
at_two alike (x ∷ xs) zero (suc j) before within h = or_left (any_alike alike xs x) (two_alike alike xs) (at_any alike xs x j (omega (arith, within)) h)
at_two alike (x ∷ xs) (suc i) (suc j) before within h =
    or_right (any_alike alike xs x) (two_alike alike xs) (at_two alike xs i j (omega (arith, before)) (omega (arith, within)) h)

-- rows of one task
abbrev same_row : Task × List Action → Task × List Action → Bool
same_row a b = same_task a.0 b.0

has_task_is : (rows : Rows) (row : Task × List Action) → has_task rows row.0 ≡ any_alike same_row rows row
has_task_is [] row = refl
has_task_is (r ∷ rows) row = ap (λ b. same_task r.0 row.0 || b) (has_task_is rows row)

task_twice_is : (rows : Rows) → task_twice rows ≡ two_alike same_row rows
task_twice_is [] = refl
task_twice_is (row ∷ rows) = ap (λ b. b || task_twice rows) (has_task_is rows row) ∙ ap (λ b. any_alike same_row rows row || b) (task_twice_is rows)

one_task : (a b : Task) → same_task a b ≡ true → IsOneTask b a
one_task a b h = let r = and_parts (a.at == b.at) (a.bank == b.bank) h in (sym (eqb-true a.at b.at r.0), sym (eqb-true a.bank b.bank r.1))

task_one : (a b : Task) → IsOneTask b a → same_task a b ≡ true
task_one a b h = and_from (a.at == b.at) (a.bank == b.bank) (eq-eqb a.at b.at (sym h.0)) (eq-eqb a.bank b.bank (sym h.1))

pub two_rows_law : (rows : Rows) → (task_twice rows ≡ true) ↔ HasTwoRows rows
two_rows_law rows = (
  (λ h. let r = two_at same_row rows (sym (task_twice_is rows) ∙ h) in record {
    first = r.0;
    second = r.1;
    before = r.2;
    within = r.3;
    same = λ d. one_task (get_or rows r.1 d).0 (get_or rows r.0 d).0 (r.4 d);
  }),
  (λ two. task_twice_is rows ∙ at_two same_row rows two.first two.second two.before two.within (λ d. task_one (get_or rows two.second d).0 (get_or rows two.first d).0 (two.same d))),
)

-- entries of one group and phase
abbrev same_entry : Begins → Begins → Bool
same_entry a b = is_for a b.group b.phase

has_entry_is : (entries : List Begins) (e : Begins) → has_entry entries e.group e.phase ≡ any_alike same_entry entries e
has_entry_is [] e = refl
has_entry_is (f ∷ entries) e = ap (λ b. is_for f e.group e.phase || b) (has_entry_is entries e)

phase_twice_is : (entries : List Begins) → phase_twice entries ≡ two_alike same_entry entries
phase_twice_is [] = refl
phase_twice_is (e ∷ entries) = ap (λ b. b || phase_twice entries) (has_entry_is entries e) ∙ ap (λ b. any_alike same_entry entries e || b) (phase_twice_is entries)

one_phase : (a b : Begins) → same_entry a b ≡ true → IsOnePhase b a
one_phase a b h = let r = and_parts (a.group == b.group) (a.phase == b.phase) h in (sym (eqb-true a.group b.group r.0), sym (eqb-true a.phase b.phase r.1))

phase_one : (a b : Begins) → IsOnePhase b a → same_entry a b ≡ true
phase_one a b h = and_from (a.group == b.group) (a.phase == b.phase) (eq-eqb a.group b.group (sym h.0)) (eq-eqb a.phase b.phase (sym h.1))

pub two_entries_law : (entries : List Begins) → (phase_twice entries ≡ true) ↔ HasTwoEntries entries
two_entries_law entries = (
  (λ h. let r = two_at same_entry entries (sym (phase_twice_is entries) ∙ h) in record {
    first = r.0;
    second = r.1;
    before = r.2;
    within = r.3;
    same = λ d. one_phase (get_or entries r.1 d) (get_or entries r.0 d) (r.4 d);
  }),
  (λ two. phase_twice_is entries ∙ at_two same_entry entries two.first two.second two.before two.within (λ d. phase_one (get_or entries two.second d) (get_or entries two.first d) (two.same d))),
)

-- jobs that want an area
with_area : (job : Option JobStart) → wants_area job ≡ true → IsWithArea job
with_area None h = absurd cc
with_area (Some (Novac priority entry)) h = absurd cc
with_area (Some (Findvac priority entry)) h = (priority, entry, refl)

area_with : (job : Option JobStart) → IsWithArea job → wants_area job ≡ true
area_with job h = ap wants_area h.2

wants_next : (e : Begins) (es : List Begins) (group : ℕ) → (group_wants es group ≡ true → HasArea es group)
    → (((e.group == group) && wants_area e.job) ≡ true) ⊎ (group_wants es group ≡ true) → HasArea (e ∷ es) group
wants_next e es group rest (inl here) =
    let r = and_parts (e.group == group) (wants_area e.job) here in
    record { place = 0; within = omega arith; its = λ d. eqb-true e.group group r.0; with_area = λ d. with_area e.job r.1 }
wants_next e es group rest (inr later) =
    let r = rest later in record { place = suc r.place; within = omega (arith, r.within); its = λ d. r.its d; with_area = λ d. r.with_area d }

wants_at : (es : List Begins) (group : ℕ) → group_wants es group ≡ true → HasArea es group
wants_at [] group h = absurd cc
wants_at (e ∷ es) group h = wants_next e es group (wants_at es group) (or_cases ((e.group == group) && wants_area e.job) (group_wants es group) h)

at_wants : (es : List Begins) (group place : ℕ) → place < length es → ((d : Begins) → (get_or es place d).group ≡ group) → ((d : Begins) → IsWithArea (get_or es place d).job) → group_wants es group ≡ true
at_wants [] group place within its area = absurd (omega (arith, within))
at_wants (e ∷ es) group zero within its area =
    or_left ((e.group == group) && wants_area e.job) (group_wants es group)
    (and_from (e.group == group) (wants_area e.job) (eq-eqb e.group group (its e)) (area_with e.job (area e)))
at_wants (e ∷ es) group (suc place) within its area =
    or_right ((e.group == group) && wants_area e.job) (group_wants es group) (at_wants es group place (omega (arith, within)) its area)

one_wants : (es : List Begins) (group : ℕ) → HasArea es group → group_wants es group ≡ true
one_wants es group h = at_wants es group h.place h.within h.its h.with_area

-- all of six that hold together
six : (a b c d e f : Bool) → (a && (b && (c && (d && (e && f))))) ≡ true → (a ≡ true) × (b ≡ true) × (c ≡ true) × (d ≡ true) × (e ≡ true) × (f ≡ true)
six a b c d e f h =
    let p = and_parts a (b && (c && (d && (e && f)))) h in
    let q = and_parts b (c && (d && (e && f))) p.1 in
    let r = and_parts c (d && (e && f)) q.1 in
    let s = and_parts d (e && f) r.1 in
    let t = and_parts e f s.1 in
    (p.0, q.0, r.0, s.0, t.0, t.1)

-- six that hold, together
all_six : (a b c d e f : Bool) → a ≡ true → b ≡ true → c ≡ true → d ≡ true → e ≡ true → f ≡ true → (a && (b && (c && (d && (e && f))))) ≡ true
all_six a b c d e f p q r s t u =
    and_from a (b && (c && (d && (e && f)))) p
    (and_from b (c && (d && (e && f))) q (and_from c (d && (e && f)) r (and_from d (e && f) s (and_from e f t u))))

each_wants : (es : List Begins) → all_want es ≡ true → (group : ℕ) → 1 ≤ group → group ≤ 6 → group_wants es group ≡ true
each_wants es h group low high =
    wants_of group (six (group_wants es 1) (group_wants es 2) (group_wants es 3) (group_wants es 4) (group_wants es 5) (group_wants es 6) h) low high
  where
    wants_of : (group : ℕ)
        → (group_wants es 1 ≡ true) × (group_wants es 2 ≡ true) × (group_wants es 3 ≡ true) × (group_wants es 4 ≡ true) × (group_wants es 5 ≡ true) × (group_wants es 6 ≡ true)
        → 1 ≤ group → group ≤ 6 → group_wants es group ≡ true
    wants_of zero all low high = absurd (omega (arith, low))
    wants_of (suc zero) all low high = all.0
    wants_of (suc (suc zero)) all low high = all.1
    wants_of (suc (suc (suc zero))) all low high = all.2
    wants_of (suc (suc (suc (suc zero)))) all low high = all.3
    wants_of (suc (suc (suc (suc (suc zero))))) all low high = all.4
    wants_of (suc (suc (suc (suc (suc (suc zero)))))) all low high = all.5
    wants_of (suc (suc (suc (suc (suc (suc (suc more))))))) all low high = absurd (omega (arith, high))

pub each_area_law : (entries : List Begins) → (all_want entries ≡ true) ↔ HasEachArea entries
each_area_law es = (
  (λ h group low high. wants_at es group (each_wants es h group low high)),
  (λ each.
      all_six (group_wants es 1) (group_wants es 2) (group_wants es 3) (group_wants es 4) (group_wants es 5) (group_wants es 6)
      (one_wants es 1 (each 1 (omega arith) (omega arith))) (one_wants es 2 (each 2 (omega arith) (omega arith))) (one_wants es 3 (each 3 (omega arith) (omega arith)))
      (one_wants es 4 (each 4 (omega arith) (omega arith))) (one_wants es 5 (each 5 (omega arith) (omega arith))) (one_wants es 6 (each 6 (omega arith) (omega arith)))),
)
