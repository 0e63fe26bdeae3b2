-- What a quiet request leaves of a machine's state.
use Rattle.std.proofs.Common.{◌≡◌, Bool, false, if◌then◌else◌, List, [], ◌∷◌, ◌++◌, Option, Some, None, refl, sym, ap, ◌∙◌}
use Rattle.std.proofs.lemmas.List.Sums.{fold_push}
use Rattle.std.proofs.lemmas.Option.{same_Some}
use Rattle.std.specs.Option.{option_map_or}
use Rattle.agc_plan.specs.declared.reply.Reply.{Reply}
use Rattle.agc_plan.specs.declared.reply.Reply.TheVariants.{Established, Left, Roused, Runs, Stored, Listed, Ticked, Phased, Restarted, Alarmed}
use Rattle.agc_plan.specs.declared.reply.Reply.TheVariants as reply
use Rattle.agc_plan.specs.declared.request.Request.{Request}
use Rattle.agc_plan.specs.declared.request.Task.{Task}
use Rattle.agc_plan.specs.Base.{Base}
use Rattle.agc_plan.specs.Plans.{Planned}
use Rattle.agc_plan.specs.Seats.{Placed, era_places, placed, places_acted, places_after}
use Rattle.agc_plan.specs.Groups.{placed_step}
use Rattle.agc_plan.specs.Steps.{Plain, acted, base_after, begins, era, fired_in, reached, step}
use Rattle.agc_machine.specs.declared.answer.Refusal.{Refusal}
use Rattle.agc_machine.specs.declared.answer.Refusal.TheVariants as refusal
use Rattle.agc_machine.specs.Machines.{Machined, after, plain_of, places_of, refusal_of, result_of, served, stepped}
use Rattle.agc_machine.proofs.Serving.{placed_plain, reached_more}
use Rattle.agc_run.specs.Events.{Watching, event_of, scene_now}
use Rattle.agc_run.specs.Scenes.{Scene, scene_of}
use Rattle.agc_trace.specs.declared.brief.Quiet.{Quiet}
use Rattle.agc_trace.specs.declared.brief.Quiet.TheVariants.{Spent, LogFull}
use Rattle.agc_trace.specs.Brief.{later_by, quiet_answer, quiet_of, quiet_reply, quiet_run, time_of}
use Rattle.agc_trace.proofs.Fronts.{places_front}
use Rattle.agc_trace.proofs.Still.{not_later, still}

-- no era begins with it
goes_on : (before : Scene) (asked : Request) (r : Reply) (fired : List Task) (q : Quiet) → quiet_reply before asked r fired ≡ Some q → begins r ≡ false
goes_on before asked (Ticked None) fired q e = refl
goes_on before asked (Ticked (Some alarm)) fired q e = absurd (let no : None ≡ Some q = e in cc)
goes_on before asked reply.NoSleeper fired q e = refl
goes_on before asked reply.NoJob fired q e = refl
goes_on before asked (Established n) fired q e = absurd (let no : None ≡ Some q = e in cc)
goes_on before asked (Left n) fired q e = absurd (let no : None ≡ Some q = e in cc)
goes_on before asked (Roused n) fired q e = absurd (let no : None ≡ Some q = e in cc)
goes_on before asked (Runs n) fired q e = refl
goes_on before asked Stored fired q e = absurd (let no : None ≡ Some q = e in cc)
goes_on before asked Listed fired q e = absurd (let no : None ≡ Some q = e in cc)
goes_on before asked Phased fired q e = absurd (let no : None ≡ Some q = e in cc)
goes_on before asked Restarted fired q e = absurd (let no : None ≡ Some q = e in cc)
goes_on before asked (Alarmed alarm) fired q e = absurd (let no : None ≡ Some q = e in cc)

places_more : (plan : Planned) (base : Base) (log : List Request) (asked : Request) → (placed plan base (log ++ asked ∷ [])).places ≡ places_after plan asked (reached plan base log) (placed plan base log).places
places_more plan base log asked =
    ap (λ (p : Placed). p.places) (fold_push (λ (p : Placed) (r : Request). placed_step plan r p) (record { plain = era plan base; places = era_places plan base }) log asked)
    ∙ ap (λ (plain : Plain). places_after plan asked plain (placed plan base log).places) (placed_plain plan base log)

-- of a request that is served
served_plain : (m : Machined) (asked : Request) (q : Quiet) → quiet_reply (scene_of (plain_of m) (places_of m)) asked (acted m.plan asked (plain_of m)).reply (fired_in m.plan asked (plain_of m)) ≡ Some q → plain_of (served (stepped m asked) asked m) ≡ later_by (time_of q) (plain_of m)
served_plain m asked q e =
    let did = acted m.plan asked (plain_of m) in
    let on : begins did.reply ≡ false = goes_on (scene_of (plain_of m) (places_of m)) asked did.reply (fired_in m.plan asked (plain_of m)) q e in
    ap (λ (b : Bool). reached m.plan (if b then (stepped m asked).plain.base else m.base) (if b then [] else m.log ++ asked ∷ [])) on
    ∙ reached_more m.plan m.base m.log asked
    ∙ ap (λ (b : Bool). if b then era m.plan (base_after did.reply did.plain.base) else did.plain) on
    ∙ (still m.plan asked (plain_of m) (places_of m) q e).plain_is

served_places : (m : Machined) (asked : Request) (q : Quiet) → quiet_reply (scene_of (plain_of m) (places_of m)) asked (acted m.plan asked (plain_of m)).reply (fired_in m.plan asked (plain_of m)) ≡ Some q → places_of (served (stepped m asked) asked m) ≡ places_of m
served_places m asked q e =
    let did = acted m.plan asked (plain_of m) in
    let on : begins did.reply ≡ false = goes_on (scene_of (plain_of m) (places_of m)) asked did.reply (fired_in m.plan asked (plain_of m)) q e in
    ap (λ (b : Bool). (placed m.plan (if b then (stepped m asked).plain.base else m.base) (if b then [] else m.log ++ asked ∷ [])).places) on
    ∙ places_more m.plan m.base m.log asked
    ∙ ap (λ (b : Bool). if b then era_places m.plan (step m.plan asked (plain_of m)).plain.base else places_acted m.plan asked (plain_of m) (places_of m)) on
    ∙ (still m.plan asked (plain_of m) (places_of m) q e).places_are (places_of m) (places_front m.plan m.base m.log)

-- of one that is served or refused
plain_by : (m : Machined) (asked : Request) (q : Quiet) (r : Option Refusal) → quiet_answer (scene_of (plain_of m) (places_of m)) asked (result_of r (acted m.plan asked (plain_of m)).reply) (option_map_or (λ (why : Refusal). []) r (fired_in m.plan asked (plain_of m))) ≡ Some q → plain_of (option_map_or (λ (why : Refusal). m) r (served (stepped m asked) asked m)) ≡ later_by (time_of q) (plain_of m)
plain_by m asked q None e = served_plain m asked q e
plain_by m asked q (Some refusal.Spent) e = sym (not_later (plain_of m)) ∙ ap (λ (o : Quiet). later_by (time_of o) (plain_of m)) (same_Some Spent q e)
plain_by m asked q (Some refusal.LogFull) e = sym (not_later (plain_of m)) ∙ ap (λ (o : Quiet). later_by (time_of o) (plain_of m)) (same_Some LogFull q e)

places_by : (m : Machined) (asked : Request) (q : Quiet) (r : Option Refusal) → quiet_answer (scene_of (plain_of m) (places_of m)) asked (result_of r (acted m.plan asked (plain_of m)).reply) (option_map_or (λ (why : Refusal). []) r (fired_in m.plan asked (plain_of m))) ≡ Some q → places_of (option_map_or (λ (why : Refusal). m) r (served (stepped m asked) asked m)) ≡ places_of m
places_by m asked q None e = served_places m asked q e
places_by m asked q (Some refusal.Spent) e = refl
places_by m asked q (Some refusal.LogFull) e = refl

pub quiet_plain : (w : Watching) (asked : Request) (q : Quiet) → quiet_of (scene_now w.machine) (event_of w asked) ≡ Some q → plain_of (after w.machine asked) ≡ later_by (time_of q) (plain_of w.machine)
unfolding event_of
quiet_plain w asked q e = plain_by w.machine asked q (refusal_of w.machine asked) e

pub quiet_places : (w : Watching) (asked : Request) (q : Quiet) → quiet_of (scene_now w.machine) (event_of w asked) ≡ Some q → places_of (after w.machine asked) ≡ places_of w.machine
unfolding event_of
quiet_places w asked q e = places_by w.machine asked q (refusal_of w.machine asked) e
