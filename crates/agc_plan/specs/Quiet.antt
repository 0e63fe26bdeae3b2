-- An era that begins with no alarm.
use Rattle.std.specs.Prelude.{◌≡◌, ℕ, ◌≤◌, List, [], ◌∷◌, ◌++◌, length}
use Rattle.std.specs.Option.{option_to_list}
use Rattle.agc_plan.specs.declared.reply.Alarm.{Alarm}
use Rattle.agc_plan.specs.declared.request.Action.{Action}
use Rattle.agc_plan.specs.Plans.{Written}
use Rattle.agc_plan.specs.Eras.{Work, no_work, actions_from}
use Rattle.agc_plan.specs.Steps.{done}

-- the alarms that these actions raise, one after another
abbrev pub alarms_of : List Action → Work → List Alarm
alarms_of [] work = []
alarms_of (action ∷ actions) work =
    option_to_list (done action work).alarm ++ alarms_of actions (done action work).work

-- an era of this plan begins with no alarm, whatever the six phases, with as many core sets as
-- groups or more
abbrev pub BeginsQuietly : Written → Type 0
BeginsQuietly plan =
    (sets : ℕ) → 6 ≤ sets → (phases : List ℕ) → length phases ≡ 6
    → alarms_of (actions_from plan.entries 1 phases) (no_work sets) ≡ []
