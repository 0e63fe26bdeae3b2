-- The three lines, and what their pulses ask for.
use Rattle.std.specs.Prelude.{ℕ, ◌==◌, Bool, List, [], ◌∷◌, Option, Some, None, length, replicate}
use Rattle.std.specs.List.{flat_map}
use Rattle.std.specs.Option.{option_to_list}
use Rattle.agc_plan.specs.declared.line.Line.{Line}
use Rattle.agc_plan.specs.declared.line.Line.TheVariants.{Timer, Key, Radar}
use Rattle.agc_plan.specs.declared.request.Action.{Action}
use Rattle.agc_plan.specs.declared.request.Action.TheVariants as action
use Rattle.agc_plan.specs.declared.request.Request.{Request}
use Rattle.agc_plan.specs.declared.request.Request.TheVariants as request
use Rattle.agc_plan.specs.Plans.{Planned}

-- the place of a line's word, and of its number
abbrev pub word_of : Line → ℕ
word_of Timer = 0
word_of Key = 1
word_of Radar = 2

-- the request by which an action is asked for, if it does anything
abbrev pub action_request : Action → Option Request
action_request action.Nothing = None
action_request (action.Novac priority entry) = Some (request.Novac priority entry)
action_request (action.Findvac priority entry) = Some (request.Findvac priority entry)
action_request (action.Rouse at) = Some (request.Rouse at)
action_request (action.List delay task) = Some (request.List delay task)

-- the requests of actions, in order
abbrev pub requests_for : List Action → List Request
requests_for actions = flat_map (λ act. option_to_list (action_request act)) actions

-- the requests of a pulse, in order: a tick, or those of the plan's actions
abbrev pub pulse_requests : Planned → Line → List Request
pulse_requests plan Timer = request.Tick ∷ []
pulse_requests plan Key = requests_for plan.key
pulse_requests plan Radar = requests_for plan.radar

-- whether pulses of a line ask for nothing
abbrev pub asks_nothing : Planned → Line → Bool
asks_nothing plan line = length (pulse_requests plan line) == 0

-- a list, repeated this many times
abbrev pub repeated : {A : Type 0} → List A → ℕ → List A
repeated asked times = flat_map (λ all. all) (replicate times asked)
