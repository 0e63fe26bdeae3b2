-- How full the tables are, by the words in which a request was answered.
use Rattle.std.proofs.Common.{◌≡◌, ℕ, ◌+◌, ◌-◌, ◌^◌, ◌≤◌, min, Bool, true, false, cond, if◌then◌else◌, List, [], ◌∷◌, length, drop, Option, Some, None, slice_get, Result, Ok, Err, refl, sym, ap, ◌∙◌, arith}
use Rattle.std.specs.Prelude.{◌||◌, is_some, IfOk}
use Rattle.std.specs.List.{count_by}
use Rattle.std.specs.Option.{option_map_or}
use Rattle.std.proofs.lemmas.List.Sums.{sum_by-cons}
use Rattle.std.proofs.lemmas.Option.{slice_get_within, get_or_from_slice_get}
use Rattle.agc_plan.proofs.Lists.{next_is, none_left}
use Rattle.agc_plan.specs.declared.reply.Reply.{Reply}
use Rattle.agc_plan.specs.declared.reply.Reply.TheVariants.{Restarted}
use Rattle.agc_plan.specs.declared.request.Request.{Request}
use Rattle.agc_plan.specs.declared.request.Request.TheVariants.{Fresh, Restart}
use Rattle.agc_plan.specs.Seats.{places_acted}
use Rattle.agc_plan.specs.Steps.{acted, begins}
use Rattle.agc_plan.specs.Tasks.{Waiting}
use Rattle.agc_exec.specs.Seats.{seats_in}
use Rattle.agc_exec.specs.declared.seats.Seat.{Seat}
use Rattle.agc_machine.specs.declared.answer.Refusal.{Refusal}
use Rattle.agc_machine.specs.Image.{IsImage}
use Rattle.agc_machine.specs.Machines.{Machined, after, answer_of, begins_with, places_of, plain_of, refusal_of, served, starts_over, stepped}
use Rattle.agc_machine.specs.Moments.{Acting, IsMoment}
use Rattle.agc_run.specs.Events.{leaves, scene_at, scene_now}
use Rattle.agc_run.specs.Reading.{IsServed, scene_in}
use Rattle.agc_run.specs.Scenes.{Scene, scene_of}
use Rattle.agc_run.proofs.Scenes.{scene_is}
use Rattle.agc_run.proofs.Showing.{scene_now_is, shown_kept, shown_on}
use Rattle.agc_stats.specs.Occupancies.{occupancy_of, owns_area}
use Rattle.agc_stats.specs.Runs.{occupancy_now}
use Rattle.agc_stats.specs.declared.occupancy.Occupancy.{Occupancy}

-- one core set more
pub next_seat : (seats : List (Option Seat)) (k : ℕ) (seat : Option Seat) → slice_get seats k ≡ Some seat → drop k seats ≡ seat ∷ drop (k + 1) seats
next_seat seats k seat is = next_is seats k seat (slice_get_within seats k seat is) (sym (get_or_from_slice_get seats k seat seat is))

pub counted_on : (p : Option Seat → Bool) (seats : List (Option Seat)) (k : ℕ) (seat : Option Seat) (old n new total : ℕ) → slice_get seats k ≡ Some seat → n ≡ cond (p seat) 1 0 → new ≡ min (old + n) (2 ^ 64 - 1) → old ≤ 8 → old + count_by p (drop k seats) ≡ total → new + count_by p (drop (k + 1) seats) ≡ total
counted_on p seats k seat old n new total at is sum few before =
    let rest : count_by p (drop k seats) ≡ cond (p seat) 1 0 + count_by p (drop (k + 1) seats) =
    ap (count_by p) (next_seat seats k seat at) ∙ sum_by-cons (λ (s : Option Seat). cond (p s) 1 0) seat (drop (k + 1) seats) in
    let low : cond (p seat) 1 0 ≤ 1 = one_at_most (p seat) in
    omega arith
  where
    one_at_most : (b : Bool) → cond b 1 0 ≤ 1
    one_at_most true = omega arith
    one_at_most false = omega arith

pub few_on : (k old n new : ℕ) (b : Bool) → n ≡ cond b 1 0 → new ≡ min (old + n) (2 ^ 64 - 1) → old ≤ k → new ≤ k + 1
few_on k old n new true is sum few = omega arith
few_on k old n new false is sum few = omega arith

-- between two requests
pub now_is : (m : Machined) (words : List ℕ) (full : Occupancy) → IsImage m words → full ≡ occupancy_of (scene_in words) → full ≡ occupancy_now m
now_is m words full image is = is ∙ ap occupancy_of (scene_now_is m words image)

-- the scene in which a request is answered, where it starts over
or_true : (b : Bool) → (b || true) ≡ true
or_true true = refl
or_true false = refl

scene_by : (m : Machined) (asked : Request) (b : Bool) → leaves m asked ≡ b → scene_at m asked ≡ (if b then scene_now m else scene_of (acted m.plan asked (plain_of m)).plain (places_acted m.plan asked (plain_of m) (places_of m)))
scene_by m asked b e = ap (λ (x : Bool). if x then scene_now m else scene_of (acted m.plan asked (plain_of m)).plain (places_acted m.plan asked (plain_of m) (places_of m))) e

started : (m : Machined) (asked : Request) → starts_over asked ≡ true → scene_at m asked ≡ scene_now m
started m asked e = scene_by m asked true (ap (λ (b : Bool). is_some (refusal_of m asked) || b) e ∙ or_true (is_some (refusal_of m asked)))

refused : (m : Machined) (asked : Request) (refusal : Refusal) → refusal_of m asked ≡ Some refusal → scene_at m asked ≡ scene_now m
refused m asked refusal e = scene_by m asked true (ap (λ (o : Option Refusal). is_some o || starts_over asked) e)

-- the tables of jobs and tasks, and the running job
abbrev tables_of : Scene → List (Option Seat) × List Waiting × Option ℕ
tables_of scene = (scene.seats, scene.waits, scene.running)

-- a restart and a fresh start leave them
same_tables : (m : Machined) (asked : Request) → starts_over asked ≡ true → tables_of (scene_of (acted m.plan asked (plain_of m)).plain (places_acted m.plan asked (plain_of m) (places_of m))) ≡ tables_of (scene_now m)
same_tables m Restart e = refl
same_tables m Fresh e = refl
same_tables m asked e = absurd (let no : false ≡ true = e in cc)

kept_is : (m : Machined) (asked : Request) (answer : Result Reply Refusal) (moment : Acting) → begins_with answer ≡ true → IfOk answer (λ reply. begins reply ≡ true → IsMoment m asked moment) → IsMoment m asked moment
kept_is m asked (Ok reply) moment e kept = kept e
kept_is m asked (Err refusal) moment e kept = absurd (let no : false ≡ true = e in cc)

none_before : (m : Machined) (asked : Request) → starts_over asked ≡ false → None ≡ (if starts_over asked then Some (scene_now m) else None)
none_before m asked e = rw e refl

-- an era begins with it
as_begun : (m : Machined) (asked : Request) (now : Machined) (answer : Result Reply Refusal) (moment : Acting) → IsServed m asked now answer moment → begins_with answer ≡ true → (b : Bool) → starts_over asked ≡ b → tables_of (scene_in moment.words) ≡ tables_of (scene_at m asked)
as_begun m asked now answer moment is begun true e =
    let at : IsMoment m asked moment = kept_is m asked answer moment begun is.kept in
    ap tables_of (scene_is moment.words (acted m.plan asked (plain_of m)).plain (places_acted m.plan asked (plain_of m) (places_of m)) at.tables.cores at.stands at.placed)
    ∙ same_tables m asked e
    ∙ ap tables_of (sym (started m asked e))
as_begun m asked now answer moment is begun false e =
    ap tables_of (shown_kept m asked None now answer moment refl (none_before m asked e) is begun)

-- none does
vacuous : (m : Machined) (asked : Request) (answer : Result Reply Refusal) (moment : Acting) → begins_with answer ≡ false → IfOk answer (λ reply. begins reply ≡ true → IsMoment m asked moment)
vacuous m asked (Ok reply) moment goes = λ e. absurd (let no : false ≡ true = sym goes ∙ e in cc)
vacuous m asked (Err refusal) moment goes = tt

begins_over : (m : Machined) (asked : Request) → starts_over asked ≡ true → begins (stepped m asked).reply ≡ true
begins_over m Restart e = refl
begins_over m Fresh e = refl
begins_over m asked e = absurd (let no : false ≡ true = e in cc)

over_refused : (m : Machined) (asked : Request) (o : Option Refusal) → refusal_of m asked ≡ o → begins (stepped m asked).reply ≡ true → begins_with (option_map_or Err o (Ok (stepped m asked).reply)) ≡ false → scene_now (option_map_or (λ refusal. m) o (served (stepped m asked) asked m)) ≡ scene_at m asked
over_refused m asked None e begun goes = absurd (let no : true ≡ false = sym begun ∙ goes in cc)
over_refused m asked (Some refusal) e begun goes = sym (refused m asked refusal e)

by_start : (m : Machined) (asked : Request) → begins_with (answer_of m asked) ≡ false → (b : Bool) → starts_over asked ≡ b → scene_now (after m asked) ≡ scene_at m asked
by_start m asked goes true e = over_refused m asked (refusal_of m asked) refl (begins_over m asked e) goes
by_start m asked goes false e =
    let moment : Acting = record { words = []; reply = Restarted; fired = []; number = 0 } in
    shown_on m asked None (after m asked) (answer_of m asked) moment refl (none_before m asked e) (record { now_is = refl; answer_is = refl; kept = vacuous m asked (answer_of m asked) moment goes }) goes

pub went_on : (m : Machined) (asked : Request) → begins_with (answer_of m asked) ≡ false → scene_now (after m asked) ≡ scene_at m asked
went_on m asked goes = by_start m asked goes (starts_over asked) refl

-- the words in which a request was answered
left_tables : (m : Machined) (asked : Request) (now : Machined) (answer : Result Reply Refusal) (moment : Acting) (words : List ℕ) → IsServed m asked now answer moment → (begins_with answer ≡ true → words ≡ moment.words) → (begins_with answer ≡ false → IsImage now words) → tables_of (scene_in words) ≡ tables_of (scene_at m asked)
left_tables m asked now answer moment words is begun goes = go (begins_with answer) refl where
  go : (b : Bool) → begins_with answer ≡ b → tables_of (scene_in words) ≡ tables_of (scene_at m asked)
  go true e = ap (λ (w : List ℕ). tables_of (scene_in w)) (begun e) ∙ as_begun m asked now answer moment is e (starts_over asked) refl
  go false e =
      ap tables_of (scene_now_is now words (goes e) ∙ ap scene_now is.now_is
      ∙ went_on m asked (sym (ap begins_with is.answer_is) ∙ e))

pub left_is : (m : Machined) (asked : Request) (now : Machined) (answer : Result Reply Refusal) (moment : Acting) (words : List ℕ) → IsServed m asked now answer moment → (begins_with answer ≡ true → words ≡ moment.words) → (begins_with answer ≡ false → IsImage now words) → occupancy_of (scene_in words) ≡ occupancy_of (scene_at m asked)
left_is m asked now answer moment words is begun goes =
    ap (λ (t : List (Option Seat) × List Waiting × Option ℕ). record { sets = count_by is_some t.0; areas = count_by owns_area t.0; tasks = length t.1; runs = is_some t.2 })
    (left_tables m asked now answer moment words is begun goes)

pub left_seats : (m : Machined) (asked : Request) (now : Machined) (answer : Result Reply Refusal) (moment : Acting) (words : List ℕ) → IsServed m asked now answer moment → (begins_with answer ≡ true → words ≡ moment.words) → (begins_with answer ≡ false → IsImage now words) → seats_in words ≡ (scene_at m asked).seats
left_seats m asked now answer moment words is begun goes =
    ap (λ (t : List (Option Seat) × List Waiting × Option ℕ). t.0) (left_tables m asked now answer moment words is begun goes)

pub seats_now : (m : Machined) (words : List ℕ) → IsImage m words → seats_in words ≡ (scene_now m).seats
seats_now m words image = ap (λ (s : Scene). s.seats) (scene_now_is m words image)

-- all core sets
pub all_counted : (p : Option Seat → Bool) (seats : List (Option Seat)) (k n : ℕ) → length seats ≤ k → n + count_by p (drop k seats) ≡ count_by p seats → n ≡ count_by p seats
all_counted p seats k n past is =
    let none : count_by p (drop k seats) ≡ 0 = ap (count_by p) (none_left seats k past) in
    omega arith

pub tables_are : (scene : Scene) (sets areas tasks : ℕ) (runs : Bool) → sets ≡ count_by is_some scene.seats → areas ≡ count_by owns_area scene.seats → tasks ≡ length scene.waits → runs ≡ is_some scene.running → record { sets = sets; areas = areas; tasks = tasks; runs = runs } ≡ occupancy_of scene
tables_are scene sets areas tasks runs sets_are areas_are tasks_are runs_are = rw (sets_are, areas_are, tasks_are, runs_are) refl
