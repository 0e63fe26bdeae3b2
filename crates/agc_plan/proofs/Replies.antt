-- Which alarm comes, and exactly when.
use Rattle.std.proofs.Common.{◌≡◌, ◌↔◌, ℕ, zero, suc, ◌+◌, ◌-◌, ◌<◌, ◌≤◌, List, [], ◌∷◌, Option, Some, None, length, slice_index_or, refl, ap, sym, subst, ◌∙◌, inl, inr, arith}
use Rattle.std.proofs.lemmas.Bool.{cases_Bool}
use Rattle.std.proofs.lemmas.List.{get_or-set_same}
use Rattle.std.proofs.lemmas.Option.{same_Some}
use Rattle.std.proofs.lemmas.Grind.{common_steps}
use Rattle.agc_plan.specs.declared.reply.Alarm.{Alarm}
use Rattle.agc_plan.specs.declared.reply.Alarm.TheVariants.{A1201, A1202, A1203}
use Rattle.agc_plan.specs.declared.reply.Reply.TheVariants.{Established, Listed, Alarmed}
use Rattle.agc_plan.specs.declared.request.Entry.{Entry}
use Rattle.agc_plan.specs.declared.request.Task.{Task}
use Rattle.agc_plan.specs.Jobs.{Job, Jobs, with_job, least_unused, least_unowned, new_job, establish_at, novac, findvac_at, findvac}
use Rattle.agc_plan.specs.Tasks.{has_room}
use Rattle.agc_plan.specs.Eras.{Work}
use Rattle.agc_plan.specs.Steps.{with_listed}
use Rattle.agc_plan.specs.Laws.{Lives, IsUsed, IsLeastUnused, IsEachUsed, IsLeastUnowned, IsEachOwned, SomeAreaIsUnowned, living}
use Rattle.agc_plan.proofs.Searches.{At, option_cases, least_unused_law, each_used_law, each_owned_law, least_unowned-least, least_unused-least}

-- as many live as there are slots exactly where each number is somebody's
living-most : (slots : List (Option Job)) → living slots ≤ length slots
living-most [] = omega arith
living-most (None ∷ slots) = let le : living slots ≤ length slots = living-most slots in omega arith
living-most (Some job ∷ slots) = let le : living slots ≤ length slots = living-most slots in omega arith

living-all : (slots : List (Option Job)) → living slots ≡ length slots → (i : ℕ) → i < length slots → (job : Job) × At slots i (Some job)
living-all [] e i lt = absurd (omega arith)
living-all (None ∷ slots) e i lt = let le : living slots ≤ length slots = living-most slots in absurd (omega arith)
living-all (Some job ∷ slots) e zero lt = (job, refl)
living-all (Some job ∷ slots) e (suc i) lt = living-all slots (omega arith) i (omega arith)

all-living : (slots : List (Option Job)) → ((i : ℕ) → i < length slots → (job : Job) × At slots i (Some job)) → living slots ≡ length slots
all-living [] h = refl
all-living (None ∷ slots) h = let (job, at) = h 0 (omega arith) in absurd (let no : None ≡ Some job = at in cc)
all-living (Some job ∷ slots) h = ap suc (all-living slots (λ i lt. h (suc i) (omega arith)))

each_lives : (slots : List (Option Job)) → IsEachUsed slots → living slots ≡ length slots
each_lives slots each = all-living slots (λ i lt. let (job, low, at) = used i (each (1 + i) (omega arith) (omega arith)) in (job, at))
  where
    used : (i : ℕ) → IsUsed slots (1 + i) → (job : Job) × (0 ≤ i) × At slots i (Some job)
    used i (job, lives) = let z : 1 + i - 1 ≡ i = omega arith in (job, omega arith, ap (λ k. slice_index_or slots k None) (sym z) ∙ lives.1)

lives_each : (slots : List (Option Job)) → living slots ≡ length slots → IsEachUsed slots
lives_each slots e number low high = let (job, at) = living-all slots e (number - 1) (omega arith) in (job, (low, at))

-- establishing is answered by 1202 exactly where no number is unused
full : (o : Option ℕ) (job : Job) (jobs : Jobs) → ((establish_at o job jobs).reply ≡ Alarmed A1202) ↔ (o ≡ None)
full None job jobs = (λ e. refl, λ e. refl)
full (Some n) job jobs = (λ e. absurd (cc), λ e. absurd (cc))

all_live : (jobs : Jobs) → (least_unused 1 jobs.slots ≡ None) ↔ (living jobs.slots ≡ length jobs.slots)
all_live jobs = (
  λ off. each_lives jobs.slots ((each_used_law jobs.slots).0 off),
  λ all. (each_used_law jobs.slots).1 (lives_each jobs.slots all),
)

pub novac_1202 : (priority : ℕ) (entry : Entry) (jobs : Jobs) → ((novac priority entry jobs).reply ≡ Alarmed A1202) ↔ (living jobs.slots ≡ length jobs.slots)
novac_1202 priority entry jobs = (
  λ e. (all_live jobs).0 ((full (least_unused 1 jobs.slots) (new_job priority entry 0) jobs).0 e),
  λ all. (full (least_unused 1 jobs.slots) (new_job priority entry 0) jobs).1 ((all_live jobs).1 all),
)

findvac_full : (o : Option ℕ) (priority : ℕ) (entry : Entry) (jobs : Jobs) → ((findvac_at o priority entry jobs).reply ≡ Alarmed A1202) ↔ (((area : ℕ) × (o ≡ Some area)) × (least_unused 1 jobs.slots ≡ None))
findvac_full None priority entry jobs = (λ e. absurd (cc), λ both. absurd (let no : None ≡ Some both.0.0 = both.0.1 in cc))
findvac_full (Some area) priority entry jobs = (
  λ e. ((area, refl), (full (least_unused 1 jobs.slots) (new_job priority entry area) jobs).0 e),
  λ both. (full (least_unused 1 jobs.slots) (new_job priority entry area) jobs).1 both.1,
)

some_unowned : (slots : List (Option Job)) → SomeAreaIsUnowned slots → (area : ℕ) × (least_unowned 5 1 slots ≡ Some area)
some_unowned slots some = elim (option_cases (least_unowned 5 1 slots)) [
  | inl found ↦ found
  | inr off ↦ let (number, job, lives, is) = (each_owned_law slots).0 off some.0 some.1 some.2 in absurd (some.3 number job lives is)
]

pub findvac_1202 : (priority : ℕ) (entry : Entry) (jobs : Jobs) → ((findvac priority entry jobs).reply ≡ Alarmed A1202) ↔ (SomeAreaIsUnowned jobs.slots × (living jobs.slots ≡ length jobs.slots))
findvac_1202 priority entry jobs = (
  λ e.
      let (found, off) = (findvac_full (least_unowned 5 1 jobs.slots) priority entry jobs).0 e in
      let least : IsLeastUnowned jobs.slots found.0 = least_unowned-least jobs.slots found.0 found.1 in
      ((found.0, least.low, least.high, least.unowned), (all_live jobs).0 off),
  λ both. (findvac_full (least_unowned 5 1 jobs.slots) priority entry jobs).1 (some_unowned jobs.slots both.0, (all_live jobs).1 both.1),
)

not_1201 : (o : Option ℕ) (job : Job) (jobs : Jobs) → (establish_at o job jobs).reply ≡ Alarmed A1201 → ⊥
not_1201 None job jobs e = cc
not_1201 (Some n) job jobs e = cc

no_area : (o : Option ℕ) (priority : ℕ) (entry : Entry) (jobs : Jobs) → ((findvac_at o priority entry jobs).reply ≡ Alarmed A1201) ↔ (o ≡ None)
no_area None priority entry jobs = (λ e. refl, λ e. refl)
no_area (Some area) priority entry jobs = (λ e. absurd (not_1201 (least_unused 1 jobs.slots) (new_job priority entry area) jobs e), λ e. absurd (cc))

pub findvac_1201 : (priority : ℕ) (entry : Entry) (jobs : Jobs) → ((findvac priority entry jobs).reply ≡ Alarmed A1201) ↔ IsEachOwned jobs.slots
findvac_1201 priority entry jobs = (
  λ e. (each_owned_law jobs.slots).0 ((no_area (least_unowned 5 1 jobs.slots) priority entry jobs).0 e),
  λ each. (no_area (least_unowned 5 1 jobs.slots) priority entry jobs).1 ((each_owned_law jobs.slots).1 each),
)

pub novac_1201 : (priority : ℕ) (entry : Entry) (jobs : Jobs) → (novac priority entry jobs).reply ≡ Alarmed A1201 → ⊥
novac_1201 priority entry jobs = not_1201 (least_unused 1 jobs.slots) (new_job priority entry 0) jobs

-- an alarm changes nothing
establish-unchanged : (o : Option ℕ) (job : Job) (jobs : Jobs) (alarm : Alarm) → (establish_at o job jobs).reply ≡ Alarmed alarm → (establish_at o job jobs).jobs ≡ jobs
establish-unchanged None job jobs alarm e = refl
establish-unchanged (Some n) job jobs alarm e = absurd (cc)

pub novac_unchanged : (priority : ℕ) (entry : Entry) (jobs : Jobs) (alarm : Alarm) → (novac priority entry jobs).reply ≡ Alarmed alarm → (novac priority entry jobs).jobs ≡ jobs
novac_unchanged priority entry jobs = establish-unchanged (least_unused 1 jobs.slots) (new_job priority entry 0) jobs

findvac-unchanged : (o : Option ℕ) (priority : ℕ) (entry : Entry) (jobs : Jobs) (alarm : Alarm) → (findvac_at o priority entry jobs).reply ≡ Alarmed alarm → (findvac_at o priority entry jobs).jobs ≡ jobs
findvac-unchanged None priority entry jobs alarm e = refl
findvac-unchanged (Some area) priority entry jobs alarm e = establish-unchanged (least_unused 1 jobs.slots) (new_job priority entry area) jobs alarm e

pub findvac_unchanged : (priority : ℕ) (entry : Entry) (jobs : Jobs) (alarm : Alarm) → (findvac priority entry jobs).reply ≡ Alarmed alarm → (findvac priority entry jobs).jobs ≡ jobs
findvac_unchanged priority entry jobs = findvac-unchanged (least_unowned 5 1 jobs.slots) priority entry jobs

pub listed_1203 : (delay : ℕ) (task : Task) (work : Work) → length work.agenda.tasks ≤ 9 → ((with_listed delay task work).reply ≡ Alarmed A1203) ↔ (length work.agenda.tasks ≡ 9)
listed_1203 delay task work most = elim (cases_Bool (has_room work.agenda)) [
  | inl room ↦
      let lt : length work.agenda.tasks < 9 = grind (arith, common_steps) in
      (λ e. let no : Listed ≡ Alarmed A1203 = rw room at e in absurd (cc), λ e. absurd (omega arith))
  | inr off ↦
      let ge : 9 ≤ length work.agenda.tasks = grind (arith, common_steps) in
      (λ e. omega arith, λ e. rw off)
]

pub listed_unchanged : (delay : ℕ) (task : Task) (work : Work) (alarm : Alarm) → (with_listed delay task work).reply ≡ Alarmed alarm → (with_listed delay task work).work ≡ work
listed_unchanged delay task work alarm e = elim (cases_Bool (has_room work.agenda)) [
  | inl room ↦ let no : Listed ≡ Alarmed alarm = rw room at e in absurd (cc)
  | inr off ↦ rw off
]

-- a new job's number and area
at_number_established : (o : Option ℕ) (job : Job) (jobs : Jobs) (number : ℕ) → (establish_at o job jobs).reply ≡ Established number → o ≡ Some number
at_number_established None job jobs number e = absurd (cc)
at_number_established (Some n) job jobs number e = let same : n ≡ number = cc in ap Some same

number-established : (o : Option ℕ) (job : Job) (jobs : Jobs) (number : ℕ) → o ≡ Some number → (establish_at o job jobs).reply ≡ Established number
number-established None job jobs number e = absurd (cc)
number-established (Some n) job jobs number e = ap Established (same_Some n number e)

pub novac_number : (priority : ℕ) (entry : Entry) (jobs : Jobs) (number : ℕ) → ((novac priority entry jobs).reply ≡ Established number) ↔ IsLeastUnused jobs.slots number
novac_number priority entry jobs number = (
  λ e. (least_unused_law jobs.slots number).0 (at_number_established (least_unused 1 jobs.slots) (new_job priority entry 0) jobs number e),
  λ least. number-established (least_unused 1 jobs.slots) (new_job priority entry 0) jobs number ((least_unused_law jobs.slots number).1 least),
)

-- the job that was established stands at its number
stands : (o : Option ℕ) (job : Job) (jobs : Jobs) (number : ℕ) → o ≡ Some number → IsLeastUnused jobs.slots number → (new : Job) → Lives (establish_at o job jobs).jobs.slots number new → job ≡ new
stands None job jobs number e least new lives = absurd (cc)
stands (Some n) job jobs number e least new lives =
    let same : n ≡ number = same_Some n number e in
    let low : 1 ≤ number = least.low in
    let high : number ≤ length jobs.slots = least.high in
    let here : slice_index_or (with_job jobs.slots number (Some job)) (number - 1) None ≡ Some job = get_or-set_same jobs.slots (number - 1) (Some job) None (omega arith) in
    same_Some job new (sym here ∙ (rw same at lives.1))

findvac_at_number : (o : Option ℕ) (priority : ℕ) (entry : Entry) (jobs : Jobs) (number : ℕ) → (findvac_at o priority entry jobs).reply ≡ Established number → least_unused 1 jobs.slots ≡ Some number
findvac_at_number None priority entry jobs number e = absurd (cc)
findvac_at_number (Some area) priority entry jobs number e = at_number_established (least_unused 1 jobs.slots) (new_job priority entry area) jobs number e

findvac_at_area : (o : Option ℕ) (priority : ℕ) (entry : Entry) (jobs : Jobs) (number : ℕ) → ((area : ℕ) → o ≡ Some area → IsLeastUnowned jobs.slots area) → least_unused 1 jobs.slots ≡ Some number → (findvac_at o priority entry jobs).reply ≡ Established number → (job : Job) → Lives (findvac_at o priority entry jobs).jobs.slots number job → IsLeastUnowned jobs.slots job.area
findvac_at_area None priority entry jobs number least is e job lives = absurd (cc)
findvac_at_area (Some area) priority entry jobs number least is e job lives =
    let same : new_job priority entry area ≡ job = stands (least_unused 1 jobs.slots) (new_job priority entry area) jobs number is (least_unused-least jobs.slots number is) job lives in
    subst (λ (x : Job). IsLeastUnowned jobs.slots x.area) same (least area refl)

pub findvac_number : (priority : ℕ) (entry : Entry) (jobs : Jobs) (number : ℕ) → (findvac priority entry jobs).reply ≡ Established number → IsLeastUnused jobs.slots number
findvac_number priority entry jobs number e = least_unused-least jobs.slots number (findvac_at_number (least_unowned 5 1 jobs.slots) priority entry jobs number e)

pub findvac_area : (priority : ℕ) (entry : Entry) (jobs : Jobs) (number : ℕ) (job : Job) → (findvac priority entry jobs).reply ≡ Established number → Lives (findvac priority entry jobs).jobs.slots number job → IsLeastUnowned jobs.slots job.area
findvac_area priority entry jobs number job e lives =
    findvac_at_area (least_unowned 5 1 jobs.slots) priority entry jobs number (least_unowned-least jobs.slots) (findvac_at_number (least_unowned 5 1 jobs.slots) priority entry jobs number e) e job lives
