-- Placement over a run of requests: which core set holds which job. It reads the plain states, and
-- nothing in them reads it.
use Rattle.std.specs.Prelude.{ℕ, if◌then◌else◌, List, replicate}
use Rattle.std.specs.List.{fold}
use Rattle.agc_plan.specs.declared.request.Action.{Action}
use Rattle.agc_plan.specs.declared.request.Action.TheVariants as action
use Rattle.agc_plan.specs.declared.request.Request.{Request}
use Rattle.agc_plan.specs.declared.request.Request.TheVariants as request
use Rattle.agc_plan.specs.Jobs.{Jobs, Outcome, no_jobs, novac, findvac, end_of_job, sleep, rouse}
use Rattle.agc_plan.specs.Jobs.{prio, change, established}
use Rattle.agc_plan.specs.Places.{placed_new, placed_end, fronted}
use Rattle.agc_plan.specs.Base.{Base}
use Rattle.agc_plan.specs.Plans.{Planned}
use Rattle.agc_plan.specs.Eras.{actions_from}
use Rattle.agc_plan.specs.Steps.{Plain, era, step, begins, tick_fires}

-- the jobs, and the core sets that hold them
pub record Seated : Type 0 where
  pub jobs : Jobs
  pub places : List ℕ

-- a new job, if one was established, came to the first free set
abbrev pub seated_new : Outcome → List ℕ → Seated
seated_new outcome places = record { jobs = outcome.jobs; places = placed_new (established outcome.reply) outcome.jobs.running places }

-- an action of the plan is done; after a rouse nobody came and nobody left, and the running job has
-- core set 0
abbrev pub seated_action : Action → Seated → Seated
seated_action (action.Novac priority entry) seated = seated_new (novac priority entry seated.jobs) seated.places
seated_action (action.Findvac priority entry) seated = seated_new (findvac priority entry seated.jobs) seated.places
seated_action (action.Rouse at) seated = record { jobs = (rouse at seated.jobs).jobs; places = fronted (rouse at seated.jobs).jobs.running seated.places }
seated_action other seated = seated

-- the core sets after these actions, done in order
abbrev pub seated_by : List Action → Seated → Seated
seated_by actions seated = fold (λ s act. seated_action act s) seated actions

-- the core sets after a request, before an era begins with it
abbrev pub places_acted : Planned → Request → Plain → List ℕ → List ℕ
places_acted plan (request.Novac priority entry) plain places = (seated_new (novac priority entry plain.work.jobs) places).places
places_acted plan (request.Findvac priority entry) plain places = (seated_new (findvac priority entry plain.work.jobs) places).places
places_acted plan request.EndOfJob plain places = placed_end plain.work.jobs.running (end_of_job plain.work.jobs).jobs.running places
places_acted plan (request.Sleep at) plain places = fronted (sleep at plain.work.jobs).jobs.running places
places_acted plan (request.Rouse at) plain places = fronted (rouse at plain.work.jobs).jobs.running places
places_acted plan (request.Prio priority) plain places = fronted (prio priority plain.work.jobs).jobs.running places
places_acted plan request.Change plain places = fronted (change plain.work.jobs).jobs.running places
places_acted plan request.Tick plain places =
    let before : Seated = record { jobs = plain.work.jobs; places = places } in
    (fold (λ s its. seated_by its s) before (tick_fires plan.rows plain.work).acts).places
places_acted plan other plain places = places

-- the core sets with which an era begins
abbrev pub era_places : Planned → Base → List ℕ
era_places plan base =
    let empty : Seated = record { jobs = no_jobs plan.sets; places = replicate plan.sets 0 } in
    (seated_by (actions_from plan.entries 1 base.phases) empty).places

-- the core sets after one request
abbrev pub places_after : Planned → Request → Plain → List ℕ → List ℕ
places_after plan asked plain places =
    let now = step plan asked plain in
    if begins now.reply then era_places plan now.plain.base else places_acted plan asked plain places

-- a plain state, and the core sets
pub record Placed : Type 0 where
  pub plain : Plain
  pub places : List ℕ

-- the state and the core sets after a log, from the beginning of an era on
abbrev pub placed : Planned → Base → List Request → Placed
placed plan base log =
    let start : Placed = record { plain = era plan base; places = era_places plan base } in
    fold (λ p asked. record { plain = (step plan asked p.plain).plain; places = places_after plan asked p.plain p.places }) start log
