-- Requests and actions, and how a line spells them.
use Rattle.std.specs.Prelude.{ℕ, List, ◌∷◌, ◌++◌, codes}
use Rattle.std.specs.Fmt.{decimal}
use Rattle.agc_plan.specs.declared.request.Entry.{Entry}
use Rattle.agc_plan.specs.declared.request.Task.{Task}
use Rattle.agc_plan.specs.declared.request.Request.{Request}
use Rattle.agc_plan.specs.declared.request.Request.TheVariants.{Novac, Findvac, EndOfJob, Sleep}
use Rattle.agc_plan.specs.declared.request.Request.TheVariants.{Rouse, Prio, Change, Store}
use Rattle.agc_plan.specs.declared.request.Request.TheVariants.{List as ListTask, Tick, SetPhase}
use Rattle.agc_plan.specs.declared.request.Request.TheVariants.{Restart, Fresh}
use Rattle.agc_plan.specs.declared.request.Action.{Action}
use Rattle.agc_plan.specs.declared.request.Action.TheVariants.{Nothing, Novac as DoNovac}
use Rattle.agc_plan.specs.declared.request.Action.TheVariants.{Findvac as DoFindvac}
use Rattle.agc_plan.specs.declared.request.Action.TheVariants.{Rouse as DoRouse, List as DoList}
use Rattle.agc_text.specs.Numbers.{octal}

-- a priority of two octal digits, an address and a bank word of five, each after a space but the
-- first
abbrev pub entry_text : ℕ → Entry → List ℕ
entry_text priority entry = octal 2 priority ++ 32 ∷ octal 5 entry.at ++ 32 ∷ octal 5 entry.bank

-- a delay in decimal, an address and a bank word of five octal digits
abbrev pub task_text : ℕ → Task → List ℕ
task_text delay task = decimal delay ++ 32 ∷ octal 5 task.at ++ 32 ∷ octal 5 task.bank

-- the line of a request, without its end
abbrev pub line_of : Request → List ℕ
line_of (Novac priority entry) = codes "novac " ++ entry_text priority entry
line_of (Findvac priority entry) = codes "findvac " ++ entry_text priority entry
line_of EndOfJob = codes "end"
line_of (Sleep at) = codes "sleep " ++ octal 5 at
line_of (Rouse at) = codes "rouse " ++ octal 5 at
line_of (Prio priority) = codes "prio " ++ octal 2 priority
line_of Change = codes "change"
line_of (Store place word) = codes "store " ++ octal 1 place ++ 32 ∷ octal 5 word
line_of (ListTask delay task) = codes "list " ++ task_text delay task
line_of Tick = codes "tick"
line_of (SetPhase group phase) = codes "phase " ++ octal 1 group ++ 32 ∷ decimal phase
line_of Restart = codes "restart"
line_of Fresh = codes "fresh"

-- the text of an action: nothing, or the line of the request that asks for the same
abbrev pub action_line_of : Action → List ℕ
action_line_of Nothing = codes "nothing"
action_line_of (DoNovac priority entry) = line_of (Novac priority entry)
action_line_of (DoFindvac priority entry) = line_of (Findvac priority entry)
action_line_of (DoRouse at) = line_of (Rouse at)
action_line_of (DoList delay task) = line_of (ListTask delay task)
