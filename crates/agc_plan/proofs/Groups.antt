-- An era by its actions is an era by its groups.
use Rattle.std.proofs.Common.{◌≡◌, ℕ, ◌+◌, List, [], ◌∷◌, ◌++◌, Option, Some, None, refl, ap, sym, ◌∙◌, append_assoc}
use Rattle.std.proofs.lemmas.List.{append-nil}
use Rattle.std.proofs.lemmas.List.Sums.{fold-append}
use Rattle.std.specs.List.{fold}
use Rattle.std.specs.Option.{option_map, option_map_or, option_to_list}
use Rattle.agc_plan.specs.declared.reply.Alarm.{Alarm}
use Rattle.agc_plan.specs.declared.request.Action.{Action}
use Rattle.agc_plan.specs.declared.request.Action.TheVariants as action
use Rattle.agc_plan.specs.declared.request.JobStart.{JobStart}
use Rattle.agc_plan.specs.declared.request.JobStart.TheVariants.{Novac, Findvac}
use Rattle.agc_plan.specs.declared.request.Task.{Task}
use Rattle.agc_plan.specs.Base.{Base}
use Rattle.agc_plan.specs.Begins.{Begins}
use Rattle.agc_plan.specs.Plans.{Planned}
use Rattle.agc_plan.specs.Jobs.{Jobs}
use Rattle.agc_plan.specs.Eras.{Work, no_work, active, start_of, actions_of, actions_from}
use Rattle.agc_plan.specs.Steps.{done, begun}
use Rattle.agc_plan.specs.Seats.{Seated, seated_new, seated_action, seated_by, era_places}
use Rattle.agc_plan.specs.Groups.{no_places}
use Rattle.agc_plan.specs.Quiet.{alarms_of}
use Rattle.agc_plan.specs.Groups.{started, jobs_begun, job_alarms, agenda_begun, task_alarms, group_begun, group_alarms, begun_from, alarms_from, places_begun, places_from}

abbrev done_by : List Action → Work → Work
done_by actions work = fold (λ work act. (done act work).work) work actions

-- what a job and a task do
abbrev both_of : Option JobStart → Option (ℕ × Task) → List Action
both_of job task = option_to_list (option_map start_of job) ++ option_to_list (option_map (λ listing. action.List listing.0 listing.1) task)

abbrev group_of : Option Begins → List Action
group_of entry = option_map_or actions_of entry []

both_done : (job : Option JobStart) (task : Option (ℕ × Task)) (work : Work) → done_by (both_of job task) work ≡ record { jobs = jobs_begun job work.jobs; agenda = agenda_begun task work.agenda }
both_done None None work = refl
both_done None (Some listing) work = refl
both_done (Some (Novac priority entry)) None work = refl
both_done (Some (Novac priority entry)) (Some listing) work = refl
both_done (Some (Findvac priority entry)) None work = refl
both_done (Some (Findvac priority entry)) (Some listing) work = refl

group_done : (entry : Option Begins) (work : Work) → done_by (group_of entry) work ≡ group_begun entry work
group_done None work = refl
group_done (Some e) work = both_done e.job e.task work

from_done : (entries : List Begins) (group : ℕ) (phases : List ℕ) (work : Work) → done_by (actions_from entries group phases) work ≡ begun_from entries group phases work
from_done entries group [] work = refl
from_done entries group (phase ∷ phases) work =
    fold-append (λ (w : Work) (act : Action). (done act w).work) work (group_of (active entries group phase)) (actions_from entries (group + 1) phases)
    ∙ ap (λ (w : Work). done_by (actions_from entries (group + 1) phases) w) (group_done (active entries group phase) work)
    ∙ from_done entries (group + 1) phases (group_begun (active entries group phase) work)

pub begun_is : (plan : Planned) (phases : List ℕ) → begun plan phases ≡ begun_from plan.entries 1 phases (no_work plan.sets)
begun_is plan phases = from_done plan.entries 1 phases (no_work plan.sets)

both_seated : (job : Option JobStart) (task : Option (ℕ × Task)) (jobs : Jobs) (places : List ℕ) → seated_by (both_of job task) (record { jobs = jobs; places = places }) ≡ record { jobs = jobs_begun job jobs; places = option_map_or (λ start. (seated_new (started start jobs) places).places) job places }
both_seated None None jobs places = refl
both_seated None (Some listing) jobs places = refl
both_seated (Some (Novac priority entry)) None jobs places = refl
both_seated (Some (Novac priority entry)) (Some listing) jobs places = refl
both_seated (Some (Findvac priority entry)) None jobs places = refl
both_seated (Some (Findvac priority entry)) (Some listing) jobs places = refl

group_seated : (entry : Option Begins) (work : Work) (places : List ℕ) → seated_by (group_of entry) (record { jobs = work.jobs; places = places }) ≡ record { jobs = (group_begun entry work).jobs; places = places_begun entry work.jobs places }
group_seated None work places = refl
group_seated (Some e) work places = both_seated e.job e.task work.jobs places

from_seated : (entries : List Begins) (group : ℕ) (phases : List ℕ) (work : Work) (places : List ℕ) → (seated_by (actions_from entries group phases) (record { jobs = work.jobs; places = places })).places ≡ places_from entries group phases work places
from_seated entries group [] work places = refl
from_seated entries group (phase ∷ phases) work places =
    let start : Seated = record { jobs = work.jobs; places = places } in
    ap (λ (s : Seated). s.places) (fold-append (λ (s : Seated) (act : Action). seated_action act s) start (group_of (active entries group phase)) (actions_from entries (group + 1) phases))
    ∙ ap (λ (s : Seated). (seated_by (actions_from entries (group + 1) phases) s).places) (group_seated (active entries group phase) work places)
    ∙ from_seated entries (group + 1) phases (group_begun (active entries group phase) work) (places_begun (active entries group phase) work.jobs places)

pub era_places_is : (plan : Planned) (base : Base) → era_places plan base ≡ places_from plan.entries 1 base.phases (no_work plan.sets) (no_places plan.sets)
era_places_is plan base = from_seated plan.entries 1 base.phases (no_work plan.sets) (no_places plan.sets)

alarms_append : (a b : List Action) (work : Work) → alarms_of (a ++ b) work ≡ alarms_of a work ++ alarms_of b (done_by a work)
alarms_append [] b work = refl
alarms_append (act ∷ a) b work =
    ap (λ (l : List Alarm). option_to_list (done act work).alarm ++ l) (alarms_append a b (done act work).work)
    ∙ sym (append_assoc (option_to_list (done act work).alarm) (alarms_of a (done act work).work) (alarms_of b (done_by a (done act work).work)))

both_alarms : (job : Option JobStart) (task : Option (ℕ × Task)) (work : Work) → alarms_of (both_of job task) work ≡ job_alarms job work.jobs ++ task_alarms task work.agenda
both_alarms None None work = refl
both_alarms None (Some listing) work = append-nil (task_alarms (Some listing) work.agenda)
both_alarms (Some (Novac priority entry)) None work = refl
both_alarms (Some (Novac priority entry)) (Some listing) work = ap (λ (l : List Alarm). job_alarms (Some (Novac priority entry)) work.jobs ++ l) (append-nil (task_alarms (Some listing) work.agenda))
both_alarms (Some (Findvac priority entry)) None work = refl
both_alarms (Some (Findvac priority entry)) (Some listing) work = ap (λ (l : List Alarm). job_alarms (Some (Findvac priority entry)) work.jobs ++ l) (append-nil (task_alarms (Some listing) work.agenda))

group_raises : (entry : Option Begins) (work : Work) → alarms_of (group_of entry) work ≡ group_alarms entry work
group_raises None work = refl
group_raises (Some e) work = both_alarms e.job e.task work

-- the alarms by actions are those by groups
pub alarms_from_is : (entries : List Begins) (group : ℕ) (phases : List ℕ) (work : Work) → alarms_of (actions_from entries group phases) work ≡ alarms_from entries group phases work
alarms_from_is entries group [] work = refl
alarms_from_is entries group (phase ∷ phases) work =
    let entry : Option Begins = active entries group phase in
    let rest : List Action = actions_from entries (group + 1) phases in
    alarms_append (group_of entry) rest work
    ∙ ap (λ (l : List Alarm). l ++ alarms_of rest (done_by (group_of entry) work)) (group_raises entry work)
    ∙ ap (λ (w : Work). group_alarms entry work ++ alarms_of rest w) (group_done entry work)
    ∙ ap (λ (l : List Alarm). group_alarms entry work ++ l) (alarms_from_is entries (group + 1) phases (group_begun entry work))
