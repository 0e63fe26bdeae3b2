-- The scene in which a request was answered.
use Rattle.std.proofs.Common.{◌≡◌, ℕ, Bool, true, false, if◌then◌else◌, List, [], ◌∷◌, ◌++◌, Option, Some, None, Result, Ok, Err, refl, sym, ap, ◌∙◌}
use Rattle.std.specs.Option.{option_map_or}
use Rattle.std.specs.Prelude.{◌||◌, is_some, IfOk}
use Rattle.std.proofs.lemmas.List.Sums.{fold_push}
use Rattle.agc_plan.specs.declared.reply.Reply.{Reply}
use Rattle.agc_plan.specs.declared.request.Request.{Request}
use Rattle.agc_plan.specs.Base.{Base}
use Rattle.agc_plan.specs.Groups.{placed_step}
use Rattle.agc_plan.specs.Plans.{Planned}
use Rattle.agc_plan.specs.Seats.{Placed, era_places, placed, places_acted, places_after}
use Rattle.agc_plan.specs.Steps.{Plain, Stepped, acted, begins, ended, era, reached}
use Rattle.agc_machine.specs.declared.answer.Refusal.{Refusal}
use Rattle.agc_machine.specs.Image.{IsImage}
use Rattle.agc_machine.specs.Machines.{Machined, begins_with, places_of, plain_of, refusal_of, served, starts_over, stepped}
use Rattle.agc_machine.specs.Moments.{Acting, IsMoment}
use Rattle.agc_machine.proofs.Serving.{placed_plain, reached_more}
use Rattle.agc_run.specs.Events.{leaves, scene_at, scene_now}
use Rattle.agc_run.specs.Reading.{IsServed, scene_in}
use Rattle.agc_run.specs.Scenes.{Scene, scene_of}
use Rattle.agc_run.proofs.Scenes.{scene_is}

-- the machine's own words have its scene
pub scene_now_is : (m : Machined) (words : List ℕ) → IsImage m words → scene_in words ≡ scene_now m
scene_now_is m words is = scene_is words (plain_of m) (places_of m) is.lawful.tables.cores is.stands is.placed

else_is : {A : Type 0} (b : Bool) (x y : A) → b ≡ false → (if b then x else y) ≡ y
else_is b x y e = rw e refl

-- where no era begins, the state goes on
went_on : (plan : Planned) (did : Stepped) → begins did.reply ≡ false → ended plan did ≡ did.plain
went_on plan did e = rw e refl

places_more : (plan : Planned) (base : Base) (log : List Request) (asked : Request) → (placed plan base (log ++ asked ∷ [])).places ≡ places_after plan asked (reached plan base log) (placed plan base log).places
places_more plan base log asked =
    ap (λ (p : Placed). p.places) (fold_push (λ (p : Placed) (r : Request). placed_step plan r p) (record { plain = era plan base; places = era_places plan base }) log asked)
    ∙ ap (λ (plain : Plain). places_after plan asked plain (placed plan base log).places) (placed_plain plan base log)

-- the scene after a request that was served, where no era began
scene_on : (m : Machined) (asked : Request) → begins (stepped m asked).reply ≡ false → scene_now (served (stepped m asked) asked m) ≡ scene_of (acted m.plan asked (plain_of m)).plain (places_acted m.plan asked (plain_of m) (places_of m))
scene_on m asked goes =
    let kept : Machined = served (stepped m asked) asked m in
    let base_is : kept.base ≡ m.base = else_is (begins (stepped m asked).reply) (stepped m asked).plain.base m.base goes in
    let log_is : kept.log ≡ m.log ++ asked ∷ [] = else_is (begins (stepped m asked).reply) [] (m.log ++ asked ∷ []) goes in
    let plain_is : plain_of kept ≡ (acted m.plan asked (plain_of m)).plain =
    ap (λ (b : Base). reached m.plan b kept.log) base_is ∙ ap (λ (l : List Request). reached m.plan m.base l) log_is
    ∙ reached_more m.plan m.base m.log asked ∙ went_on m.plan (acted m.plan asked (plain_of m)) goes in
    let places_is : places_of kept ≡ places_acted m.plan asked (plain_of m) (places_of m) =
    ap (λ (b : Base). (placed m.plan b kept.log).places) base_is ∙ ap (λ (l : List Request). (placed m.plan m.base l).places) log_is
    ∙ places_more m.plan m.base m.log asked
    ∙ else_is (begins (stepped m asked).reply) (era_places m.plan (stepped m asked).plain.base) (places_acted m.plan asked (plain_of m) (places_of m)) goes in
    ap (λ (p : Plain). scene_of p (places_of kept)) plain_is ∙ ap (λ (l : List ℕ). scene_of (acted m.plan asked (plain_of m)).plain l) places_is

or_true : (b : Bool) → (b || true) ≡ true
or_true true = refl
or_true false = refl

-- the scene to show, where a request leaves what is there, and where it doesn't
left_is : (m : Machined) (asked : Request) → leaves m asked ≡ true → scene_now m ≡ scene_at m asked
left_is m asked e = ap (λ (b : Bool). if b then scene_now m else scene_of (acted m.plan asked (plain_of m)).plain (places_acted m.plan asked (plain_of m) (places_of m))) (sym e)

did_is : (m : Machined) (asked : Request) → leaves m asked ≡ false → scene_of (acted m.plan asked (plain_of m)).plain (places_acted m.plan asked (plain_of m) (places_of m)) ≡ scene_at m asked
did_is m asked e = ap (λ (b : Bool). if b then scene_now m else scene_of (acted m.plan asked (plain_of m)).plain (places_acted m.plan asked (plain_of m) (places_of m))) (sym e)

stays : (o : Option Refusal) (b : Bool) → o ≡ None → b ≡ false → (is_some o || b) ≡ false
stays o b none e = rw (none, e) refl

-- the scene before a request that starts over
by_start : (m : Machined) (asked : Request) (b : Bool) (scene : Scene) → starts_over asked ≡ b → Some scene ≡ (if b then Some (scene_now m) else None) → scene ≡ scene_at m asked
by_start m asked true scene e is =
    let same : scene ≡ scene_now m = cc in
    same ∙ left_is m asked (ap (λ (b : Bool). is_some (refusal_of m asked) || b) e ∙ or_true (is_some (refusal_of m asked)))
by_start m asked false scene e is = absurd (let no : Some scene ≡ None = is in cc)

pub shown_before : (m : Machined) (asked : Request) (before : Option Scene) (scene : Scene) → before ≡ Some scene → before ≡ (if starts_over asked then Some (scene_now m) else None) → scene ≡ scene_at m asked
shown_before m asked before scene is kept = by_start m asked (starts_over asked) scene refl (sym is ∙ kept)

goes_on : (b : Bool) (scene : Scene) → None ≡ (if b then Some scene else None) → b ≡ false
goes_on true scene e = absurd (let no : None ≡ Some scene = e in cc)
goes_on false scene e = refl

not_refused : (o : Option Refusal) (reply : Reply) → begins_with (option_map_or Err o (Ok reply)) ≡ true → o ≡ None
not_refused None reply e = refl
not_refused (Some refusal) reply e = absurd (let no : false ≡ true = e in cc)

kept_is : (m : Machined) (asked : Request) (answer : Result Reply Refusal) (moment : Acting) → begins_with answer ≡ true → IfOk answer (λ reply. begins reply ≡ true → IsMoment m asked moment) → IsMoment m asked moment
kept_is m asked (Ok reply) moment e kept = kept e
kept_is m asked (Err refusal) moment e kept = absurd (let no : false ≡ true = e in cc)

-- the scene as an era began
pub shown_kept : (m : Machined) (asked : Request) (before : Option Scene) (now : Machined) (answer : Result Reply Refusal) (moment : Acting) → before ≡ None → before ≡ (if starts_over asked then Some (scene_now m) else None) → IsServed m asked now answer moment → begins_with answer ≡ true → scene_in moment.words ≡ scene_at m asked
shown_kept m asked before now answer moment none kept is e =
    let at : IsMoment m asked moment = kept_is m asked answer moment e is.kept in
    scene_is moment.words (acted m.plan asked (plain_of m)).plain (places_acted m.plan asked (plain_of m) (places_of m)) at.tables.cores at.stands at.placed
    ∙ did_is m asked (stays (refusal_of m asked) (starts_over asked) (not_refused (refusal_of m asked) (stepped m asked).reply (sym (ap begins_with is.answer_is) ∙ e)) (goes_on (starts_over asked) (scene_now m) (sym none ∙ kept)))

-- and where none did
by_refusal : (m : Machined) (asked : Request) (o : Option Refusal) → refusal_of m asked ≡ o → starts_over asked ≡ false → begins_with (option_map_or Err o (Ok (stepped m asked).reply)) ≡ false → scene_now (option_map_or (λ refusal. m) o (served (stepped m asked) asked m)) ≡ scene_at m asked
by_refusal m asked None e over goes = scene_on m asked goes ∙ did_is m asked (stays (refusal_of m asked) (starts_over asked) e over)
by_refusal m asked (Some refusal) e over goes = left_is m asked (ap (λ (o : Option Refusal). is_some o || starts_over asked) e)

pub shown_on : (m : Machined) (asked : Request) (before : Option Scene) (now : Machined) (answer : Result Reply Refusal) (moment : Acting) → before ≡ None → before ≡ (if starts_over asked then Some (scene_now m) else None) → IsServed m asked now answer moment → begins_with answer ≡ false → scene_now now ≡ scene_at m asked
shown_on m asked before now answer moment none kept is e =
    ap scene_now is.now_is
    ∙ by_refusal m asked (refusal_of m asked) refl (goes_on (starts_over asked) (scene_now m) (sym none ∙ kept)) (sym (ap begins_with is.answer_is) ∙ e)

-- the scene of the words as the request left them
pub shown_left : (m : Machined) (asked : Request) (before : Option Scene) (now : Machined) (answer : Result Reply Refusal) (moment : Acting) (words : List ℕ) → before ≡ None → before ≡ (if starts_over asked then Some (scene_now m) else None) → IsServed m asked now answer moment → (begins_with answer ≡ true → words ≡ moment.words) → (begins_with answer ≡ false → IsImage now words) → scene_in words ≡ scene_at m asked
shown_left m asked before now answer moment words none kept is begun goes = go (begins_with answer) refl where
  go : (b : Bool) → begins_with answer ≡ b → scene_in words ≡ scene_at m asked
  go true e = ap scene_in (begun e) ∙ shown_kept m asked before now answer moment none kept is e
  go false e = scene_now_is now words (goes e) ∙ shown_on m asked before now answer moment none kept is e
