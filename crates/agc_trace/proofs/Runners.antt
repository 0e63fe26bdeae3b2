-- Who runs after a change of job or of priority, and what stays.
use Rattle.std.proofs.Common.{◌≡◌, ◌⊎◌, ℕ, ◌-◌, ◌==◌, ◌&&◌, Bool, true, false, if◌then◌else◌, List, [], ◌∷◌, map, Option, Some, None, option_map, slice_index_or, slice_set, refl, sym, ap, ◌∙◌, inl, inr, arith}
use Rattle.std.specs.List.{list_any}
use Rattle.std.proofs.lemmas.Bool.{and_parts, cases_Bool, eqb-true}
use Rattle.std.proofs.lemmas.List.{set-get_or}
use Rattle.agc_plan.specs.Jobs.{Job, Jobs, job_in, with_job, with_changed, with_priority}
use Rattle.agc_exec.specs.declared.seats.Seat.{Seat}
use Rattle.agc_run.specs.Scenes.{Scene, seat_of, seated}
use Rattle.agc_trace.specs.declared.brief.Quiet.{Quiet}
use Rattle.agc_trace.specs.Brief.{has_priority, is_of_priority, is_running}

-- where something is answered, the condition held
pub if_true : (b : Bool) (o : Option Quiet) (q : Quiet) → (if b then o else None) ≡ Some q → (b ≡ true) × (o ≡ Some q)
if_true true o q e = (refl, e)
if_true false o q e = absurd (let no : None ≡ Some q = e in cc)

-- the job that runs is the one that ran
same_runner : (before : Scene) (n now : ℕ) → before.running ≡ Some n → is_running before now ≡ true → n ≡ now
same_runner before n now is runs = eqb-true n now (rw is at runs)

pub stays_runner : (jobs : Jobs) (before : Scene) (n now : ℕ) → before.running ≡ Some n → jobs.running ≡ Some n → is_running before now ≡ true → record { slots = jobs.slots; running = Some now } ≡ jobs
stays_runner jobs before n now seen is runs =
    ap (λ (r : Option ℕ). record { slots = jobs.slots; running = r }) (ap Some (sym (same_runner before n now seen runs)) ∙ sym is)

-- a job that has this priority already
kept_priority : (priority : ℕ) (job : Job) → job.priority ≡ priority → Some (with_priority priority job) ≡ Some job
kept_priority priority job is = ap (λ (p : ℕ). Some (record job { priority = p })) (sym is)

job_kept : (jobs : Jobs) (n priority m : ℕ) (o : Option Job) → job_in jobs.slots m ≡ o → is_of_priority n priority (option_map (seated m) o) ≡ true → option_map (with_priority priority) (job_in jobs.slots n) ≡ job_in jobs.slots n
job_kept jobs n priority m None is h = absurd (cc)
job_kept jobs n priority m (Some job) is h =
    let parts = and_parts (m == n) (job.priority == priority) h in
    let here : job_in jobs.slots n ≡ Some job = ap (job_in jobs.slots) (sym (eqb-true m n parts.0)) ∙ is in
    ap (option_map (with_priority priority)) here ∙ kept_priority priority job (eqb-true _ _ parts.1) ∙ sym here

seat_kept : (jobs : Jobs) (n priority m : ℕ) → is_of_priority n priority (seat_of jobs m) ≡ true → option_map (with_priority priority) (job_in jobs.slots n) ≡ job_in jobs.slots n
seat_kept jobs n priority m h = elim (cases_Bool (m == 0)) [
  | inl free ↦ absurd (let no : false ≡ true = rw free at h in cc)
  | inr not ↦ job_kept jobs n priority m (job_in jobs.slots m) refl (rw not at h)
]

seats_kept : (jobs : Jobs) (places : List ℕ) (n priority : ℕ) → has_priority (map (seat_of jobs) places) n priority ≡ true → option_map (with_priority priority) (job_in jobs.slots n) ≡ job_in jobs.slots n
seats_kept jobs [] n priority h = absurd (cc)
seats_kept jobs (m ∷ places) n priority h = elim (cases_Bool (is_of_priority n priority (seat_of jobs m))) [
  | inl here ↦ seat_kept jobs n priority m here
  | inr there ↦ seats_kept jobs places n priority (rw there at h)
]

-- so its priority changes nothing
pub same_priority : (jobs : Jobs) (places : List ℕ) (before : Scene) (n now priority : ℕ) → before.running ≡ Some n → before.seats ≡ map (seat_of jobs) places → is_running before now ≡ true → has_priority before.seats now priority ≡ true → with_changed (with_priority priority) jobs.slots n ≡ jobs.slots
same_priority jobs places before n now priority seen seats runs has =
    let kept = seats_kept jobs places now priority (rw seats at has) in
    ap (λ (k : ℕ). with_changed (with_priority priority) jobs.slots k) (same_runner before n now seen runs)
    ∙ ap (with_job jobs.slots now) kept ∙ set-get_or jobs.slots (now - 1) None
