-- A plan: the actions of tasks, what begins again with a phase, and what may be wrong with them.
use Rattle.std.specs.Prelude.{ℕ, ◌==◌, ◌&&◌, ◌||◌, Bool, true, false, if◌then◌else◌, List, [], ◌∷◌}
use Rattle.std.specs.Prelude.{Option, Some, None, map}
use Rattle.agc_plan.specs.declared.request.Action.{Action}
use Rattle.agc_plan.specs.declared.request.Action.TheVariants.{Nothing}
use Rattle.agc_plan.specs.declared.request.JobStart.{JobStart}
use Rattle.agc_plan.specs.declared.request.JobStart.TheVariants.{Novac, Findvac}
use Rattle.agc_plan.specs.declared.request.Task.{Task}
use Rattle.agc_plan.specs.declared.plan.PlanFault.{PlanFault}
use Rattle.agc_plan.specs.declared.plan.PlanFault.TheVariants.{TaskTwice, PhaseTwice, TooManyAreas}
use Rattle.agc_plan.specs.Begins.{Begins}

-- rows: each names a task, and what is done when it fires, in order
abbrev pub Rows : Type 0
Rows = List (Task × List Action)

-- a plan, as it is written: a row for each task that does something, an entry for each phase with
-- which something begins, and what is done for a key or radar pulse, in order
pub record Written : Type 0 where
  pub rows : Rows
  pub entries : List Begins
  pub key : List Action
  pub radar : List Action

-- a plan on a computer with so many core sets
pub record Planned : Type 0 where
  pub rows : Rows
  pub entries : List Begins
  pub key : List Action
  pub radar : List Action
  pub sets : ℕ

-- the plan that is written so, on a computer with so many core sets
abbrev pub planned_with : Written → ℕ → Planned
planned_with plan sets = record { rows = plan.rows; entries = plan.entries; key = plan.key; radar = plan.radar; sets = sets }

-- rows of one action each, as rows of lists
abbrev pub one_each : List (Task × Action) → Rows
one_each rows = map (λ row. (row.0, row.1 ∷ [])) rows

-- the first of some actions, nothing where there is none
abbrev pub first_action : List Action → Action
first_action [] = Nothing
first_action (act ∷ acts) = act

-- whether two tasks have the same address and bank
abbrev pub same_task : Task → Task → Bool
same_task a b = (a.at == b.at) && (a.bank == b.bank)

-- the actions of a task's row, none where it has no row
abbrev pub actions_in : Rows → Task → List Action
actions_in [] task = []
actions_in (row ∷ rows) task = if same_task row.0 task then row.1 else actions_in rows task

-- whether a task has a row
abbrev pub has_task : Rows → Task → Bool
has_task [] task = false
has_task (row ∷ rows) task = same_task row.0 task || has_task rows task

-- whether one task has two rows
abbrev pub task_twice : Rows → Bool
task_twice [] = false
task_twice (row ∷ rows) = has_task rows row.0 || task_twice rows

-- whether an entry is that of a group's phase
abbrev pub is_for : Begins → ℕ → ℕ → Bool
is_for e group phase = (e.group == group) && (e.phase == phase)

-- the entry of a group's phase
abbrev pub entry_at : List Begins → ℕ → ℕ → Option Begins
entry_at [] group phase = None
entry_at (e ∷ es) group phase = if is_for e group phase then Some e else entry_at es group phase

-- whether a group's phase has an entry
abbrev pub has_entry : List Begins → ℕ → ℕ → Bool
has_entry [] group phase = false
has_entry (e ∷ es) group phase = is_for e group phase || has_entry es group phase

-- whether one group and phase has two entries
abbrev pub phase_twice : List Begins → Bool
phase_twice [] = false
phase_twice (e ∷ es) = has_entry es e.group e.phase || phase_twice es

-- whether a job wants an area
abbrev pub wants_area : Option JobStart → Bool
wants_area None = false
wants_area (Some (Novac priority entry)) = false
wants_area (Some (Findvac priority entry)) = true

-- whether an entry of the group names a job with an area
abbrev pub group_wants : List Begins → ℕ → Bool
group_wants [] group = false
group_wants (e ∷ es) group = ((e.group == group) && wants_area e.job) || group_wants es group

-- whether each of the six groups has an entry that wants a VAC area
abbrev pub all_want : List Begins → Bool
all_want es = group_wants es 1 && (group_wants es 2 && (group_wants es 3 && (group_wants es 4 && (group_wants es 5 && group_wants es 6))))

-- the first thing that is wrong
abbrev pub fault_of : Rows → List Begins → Option PlanFault
fault_of rows entries =
    if task_twice rows then Some TaskTwice
    else if phase_twice entries then Some PhaseTwice
    else if all_want entries then Some TooManyAreas
    else None
