-- A scene that is read from words, and that of the plain state for which they stand.
use Rattle.std.proofs.Common.{◌≡◌, ℕ, suc, ◌+◌, ◌-◌, ◌≤◌, ◌==◌, false, List, [], ◌∷◌, ◌++◌, map, Option, Some, None, option_map, refl, sym, ap, subst, ◌∙◌, append_assoc, append-nil, arith}
use Rattle.std.proofs.lemmas.Grind.{common_steps}
use Rattle.std.specs.List.{fold}
use Rattle.agc_plan.specs.Base.{Base}
use Rattle.agc_plan.specs.Jobs.{Job, Jobs, job_in}
use Rattle.agc_plan.specs.Tasks.{Pending, Agenda, Waiting, InOrder, StandsFor, timed}
use Rattle.agc_plan.specs.Steps.{Plain}
use Rattle.agc_exec.specs.HeldJob.{HeldJob}
use Rattle.agc_exec.specs.Image.{sets_of, jobs_in, entries_in, IsLawfulWords}
use Rattle.agc_exec.specs.Seats.{named_of, seen, seats_in}
use Rattle.agc_exec.specs.Sets.{Holds, IsLawful, job_of, number_in}
use Rattle.agc_exec.specs.Stages.{jobs_of}
use Rattle.agc_exec.specs.declared.seats.Seat.{Seat}
use Rattle.agc_exec.proofs.Seating.{numbered}
use Rattle.agc_wait.specs.Table.{waits_of}
use Rattle.agc_wait.proofs.Orders.{set_in, InOrder-append, InOrder-one}
use Rattle.agc_phase.specs.Image.{base_of}
use Rattle.agc_machine.specs.Image.{WordsStandFor}
use Rattle.agc_run.specs.Reading.{scene_in}
use Rattle.agc_run.specs.Scenes.{Scene, seated, seat_of, put_in, by_due, time_left, waits_in, scene_of}

by_number : (jobs : Jobs) (number : ℕ) (job : Job) → 1 ≤ number → job_in jobs.slots number ≡ Some job → seat_of jobs number ≡ Some (seated number job)
by_number jobs number job low is =
    let some : (number == 0) ≡ false = grind (arith, common_steps) in
    rw (some, is) refl

seat_is : (sets : List (Option HeldJob)) (i : ℕ) (r : HeldJob) → IsLawful sets → Holds sets i r → seat_of (jobs_of sets) r.number ≡ Some (seen r)
seat_is sets i r lawful at = by_number (jobs_of sets) r.number (job_of r) (lawful.low i r at) (numbered sets i r lawful at)

seats_are : (jobs : Jobs) (sets : List (Option HeldJob)) → ((i : ℕ) (r : HeldJob) → Holds sets i r → seat_of jobs r.number ≡ Some (seen r)) → map (seat_of jobs) (map number_in sets) ≡ map (option_map seen) sets
seats_are jobs [] each = refl
seats_are jobs (None ∷ sets) each = ap (λ (l : List (Option Seat)). None ∷ l) (seats_are jobs sets (λ i r at. each (suc i) r at))
seats_are jobs (Some r ∷ sets) each =
    ap (λ (s : Option Seat). s ∷ map (seat_of jobs) (map number_in sets)) (each 0 r refl)
    ∙ ap (λ (l : List (Option Seat)). Some (seen r) ∷ l) (seats_are jobs sets (λ i s at. each (suc i) s at))

-- what the core sets hold
seats_of_words : (words : List ℕ) → IsLawfulWords words → seats_in words ≡ map (seat_of (jobs_in words)) (entries_in words)
unfolding seats_in
seats_of_words words lawful = sym (seats_are (jobs_in words) (sets_of words) (λ i r at. seat_is (sets_of words) i r lawful.sets.standing.lawful at))

-- tasks in order
put_in_is : (task : Pending) (xs : List Pending) → put_in task xs ≡ set_in task xs
put_in_is task [] = refl
put_in_is task (x ∷ xs) = rw (put_in_is task xs) refl

ordered_from : (before ordered rest : List Pending) → InOrder before ordered → InOrder (before ++ rest) (fold (λ (l : List Pending) (t : Pending). put_in t l) ordered rest)
ordered_from before ordered [] is = rw (append-nil before) is
ordered_from before ordered (t ∷ rest) is =
    let one : InOrder (before ++ t ∷ []) (put_in t ordered) = rw (put_in_is t ordered) (InOrder-append before ordered t is) in
    subst (λ (l : List Pending). InOrder l (fold (λ (o : List Pending) (u : Pending). put_in u o) (put_in t ordered) rest)) (append_assoc before (t ∷ []) rest)
    (ordered_from (before ++ t ∷ []) (put_in t ordered) rest one)

by_due-ordered : (tasks : List Pending) → InOrder tasks (by_due tasks)
by_due-ordered tasks = ordered_from [] [] tasks (record { rises = tt; same_at = λ time. refl })

left_of : (time : ℕ) (waits : List Waiting) → map (time_left time) (timed time waits) ≡ waits
left_of time [] = refl
left_of time (w ∷ waits) =
    let same : (time + w.distance) - time ≡ w.distance = omega arith in
    ap (λ (d : ℕ). record { task = w.task; distance = d } ∷ map (time_left time) (timed time waits)) same
    ∙ ap (λ (l : List Waiting). w ∷ l) (left_of time waits)

waits_are : (waits : List Waiting) (agenda : Agenda) → StandsFor waits agenda → waits ≡ waits_in agenda
waits_are waits agenda stands =
    sym (left_of agenda.time waits)
    ∙ ap (map (time_left agenda.time)) (InOrder-one agenda.tasks (timed agenda.time waits) (by_due agenda.tasks) stands (by_due-ordered agenda.tasks))

-- of jobs, a placement, tasks and base
abbrev scene_with : Jobs → List ℕ → List Waiting → Base → Scene
scene_with jobs places waits base = record { running = jobs.running; next_job = named_of jobs; seats = map (seat_of jobs) places; waits = waits; base = base }

pub scene_is : (words : List ℕ) (plain : Plain) (places : List ℕ) → IsLawfulWords words → WordsStandFor words plain → entries_in words ≡ places → scene_in words ≡ scene_of plain places
scene_is words plain places lawful stands placed =
    ap (λ (s : List (Option Seat)). record { running = (jobs_in words).running; next_job = named_of (jobs_in words); seats = s; waits = waits_of words; base = base_of words }) (seats_of_words words lawful)
    ∙ ap (λ (j : Jobs). scene_with j (entries_in words) (waits_of words) (base_of words)) stands.jobs
    ∙ ap (λ (p : List ℕ). scene_with plain.work.jobs p (waits_of words) (base_of words)) placed
    ∙ ap (λ (w : List Waiting). scene_with plain.work.jobs places w (base_of words)) (waits_are (waits_of words) plain.work.agenda stands.tasks)
    ∙ ap (scene_with plain.work.jobs places (waits_in plain.work.agenda)) stands.base
