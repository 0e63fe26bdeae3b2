use Rattle.std.proofs.Common.{◌≡◌, ◌<◌, ◌≤◌, ℕ, IfSome, slice_get, length, List, [], ◌∷◌, Option, Some, None, sym, arith}
use Rattle.std.specs.Option.{option_to_list}
use Rattle.std.proofs.lemmas.List.{length-append}
use Rattle.std.proofs.lemmas.Option.{slice_get_within}
use Rattle.agc_plan.specs.declared.request.Action.{Action}
use Rattle.agc_plan.specs.declared.request.Request.{Request}
use Rattle.agc_plan.specs.Pulses.{action_request, requests_for}
use Rattle.agc_plan.proofs.pulse.pulse_request.Goals as goal

at_most_one : (o : Option Request) → length (option_to_list o) ≤ 1
at_most_one None = omega arith
at_most_one (Some q) = omega arith

-- there are at most as many requests as actions
no_more : (actions : List Action) → length (requests_for actions) ≤ length actions
no_more [] = omega arith
no_more (act ∷ actions) =
    omega (arith, length-append (option_to_list (action_request act)) (requests_for actions), at_most_one (action_request act), no_more actions)

within_four : (actions : List Action) (o : Option Request) (others : ℕ) → o ≡ slice_get (requests_for actions) others → length actions ≤ 4
    → IfSome o (λ _. others < 4)
within_four actions None others is few = tt
within_four actions (Some q) others is few =
    omega (arith, slice_get_within (requests_for actions) others q (sym is), no_more actions, few)

pub returns-in-Key-clause-few : goal.returns-in-Key-clause-few
returns-in-Key-clause-few c = within_four c.key_actions.result.now c.request_after.result c.args.others c.request_after.ensures c.key_actions.ensures.most

pub returns-in-Radar-clause-few : goal.returns-in-Radar-clause-few
returns-in-Radar-clause-few c =
    within_four c.radar_actions.result.now c.request_after-in-Radar.result c.args.others c.request_after-in-Radar.ensures c.radar_actions.ensures.most
