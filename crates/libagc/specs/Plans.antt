-- The plan in a caller's rows and entries, where a number out of its range does nothing; and its
-- faults.
use Rattle.std.specs.Prelude.{ℕ, ◌==◌, if◌then◌else◌, List, [], ◌∷◌, Option, None, map, nat_lt}
use Rattle.std.specs.Prelude.{◌&&◌, ◌||◌, not, Bool, Some}
use Rattle.std.specs.Option.{option_map, option_map_or, is_some}
use Rattle.agc_plan.specs.declared.request.Action.{Action}
use Rattle.agc_plan.specs.declared.request.Action.TheVariants as action
use Rattle.agc_plan.specs.declared.request.JobStart.{JobStart}
use Rattle.agc_plan.specs.declared.request.JobStart.TheVariants as job
use Rattle.agc_plan.specs.declared.request.Task.{Task}
use Rattle.agc_plan.specs.Begins.{Begins}
use Rattle.agc_plan.specs.Plans.{Written, Rows, task_twice, phase_twice, all_want}
use Rattle.libagc.specs.declared.reading.AgcRequest.{AgcRequest}
use Rattle.libagc.specs.declared.plans.AgcPhaseEntry.{AgcPhaseEntry}
use Rattle.libagc.specs.declared.plans.AgcRow.{AgcRow}
use Rattle.libagc.specs.Numbers.{address_from_c, start_from_c, listing_from_c, six_from_c}
use Rattle.libagc.specs.Numbers.{phase_from_c, task_told, is_request}
use Rattle.std.specs.List.{list_all}
use Rattle.libagc.specs.declared.fault.Fault.{Fault}
use Rattle.libagc.specs.declared.fault.Fault.TheVariants.{PlanRange, TaskTwice, PhaseTwice}
use Rattle.libagc.specs.declared.fault.Fault.TheVariants.{TooManyAreas}

-- an action is a request of kind 1, 2, 5 or 9; any other does nothing
abbrev pub action_from_c : AgcRequest → Action
action_from_c a =
    if a.kind == 1 then option_map_or (λ s. action.Novac s.0 s.1)
    (start_from_c a.first a.second a.third) action.Nothing
    else if a.kind == 2 then option_map_or (λ s. action.Findvac s.0 s.1)
    (start_from_c a.first a.second a.third) action.Nothing
    else if a.kind == 5 then option_map_or action.Rouse (address_from_c a.first) action.Nothing
    else if a.kind == 9 then option_map_or (λ l. action.List l.0 l.1)
    (listing_from_c a.first a.second a.third) action.Nothing
    else action.Nothing

abbrev pub actions_from_c : AgcRow → List Action
actions_from_c row =
    action_from_c row.first ∷ action_from_c row.second ∷ action_from_c row.third
    ∷ action_from_c row.fourth ∷ []

abbrev pub row_from_c : AgcRow → Task × List Action
row_from_c row = (record { at = row.at; bank = row.bank }, actions_from_c row)

abbrev pub rows_from_c : List AgcRow → Rows
rows_from_c rows = map row_from_c rows

abbrev pub job_told : AgcPhaseEntry → Option JobStart
job_told e =
    if e.job == 1 then option_map (λ s. job.Novac s.0 s.1)
    (start_from_c e.priority e.job_at e.job_bank)
    else if e.job == 2 then option_map (λ s. job.Findvac s.0 s.1)
    (start_from_c e.priority e.job_at e.job_bank)
    else None

-- a delay of 0 lists none
abbrev pub listed_from_c : AgcPhaseEntry → Option (ℕ × Task)
listed_from_c e = listing_from_c e.delay e.task_at e.task_bank

abbrev pub begins_from_c : AgcPhaseEntry → Begins
begins_from_c e = record {
  group = e.group;
  phase = e.phase;
  job = job_told e;
  task =
      listed_from_c e;
}

abbrev pub entries_from_c : List AgcPhaseEntry → List Begins
entries_from_c entries = map begins_from_c entries

abbrev pub plan_from_c : List AgcRow → List AgcPhaseEntry → Written
plan_from_c rows entries = record {
  rows = rows_from_c rows;
  entries = entries_from_c entries;
  key =
      [];
  radar = [];
}

-- nothing, a NOVAC, a FINDVAC, a rouse or a listing, with numbers in range
abbrev pub is_action : AgcRequest → Bool
is_action a =
    a.kind == 0 || (is_request a
    && (a.kind == 1 || (a.kind == 2 || (a.kind == 5 || a.kind == 9))))

-- the row of a task, with four actions
abbrev pub is_row : AgcRow → Bool
is_row row =
    is_some (task_told row.at row.bank)
    && (is_action row.first && (is_action row.second &&
    (is_action row.third && is_action row.fourth)))

-- the entry of a group's phase other than 0, with no job or one with numbers in range, and with no
-- task or one
abbrev pub is_entry : AgcPhaseEntry → Bool
is_entry e =
    is_some (six_from_c e.group)
    && (is_some (phase_from_c e.phase) && (nat_lt 0 e.phase
    && (((e.job == 0) || is_some (job_told e)) && ((e.delay == 0) || is_some (listed_from_c e)))))

-- the first thing that is wrong
abbrev pub lacking : List AgcRow → List AgcPhaseEntry → Option Fault
lacking rows entries =
    if not (list_all is_row rows && list_all is_entry entries) then Some PlanRange
    else if task_twice (rows_from_c rows) then Some TaskTwice
    else if phase_twice (entries_from_c entries) then Some PhaseTwice
    else if all_want (entries_from_c entries) then Some TooManyAreas
    else None
