-- The effect of each call on the words, and on the agenda that they stand for.
use Rattle.std.specs.Prelude.{◌≡◌, ◌↔◌, ℕ, ◌+◌, ◌≤◌, Bool, true, false, IsTrue, List, [], Some}
use Rattle.std.specs.Prelude.{IsSome}
use Rattle.agc_word.specs.Layout.{Keeps, OutsideWaitlist}
use Rattle.agc_plan.specs.declared.request.Task.{Task}
use Rattle.agc_plan.specs.Tasks.{Agenda, StandsFor, has_room, listed_if_room, later, first_due}
use Rattle.agc_plan.specs.Tasks.{dispatched}
use Rattle.agc_wait.specs.Table.{waits_of, IsLawfulTable, IsTidy}
use Rattle.agc_wait.specs.Waits.{is_due, due_now, place_for}
use Rattle.agc_wait.specs.Writing.{IsPut, IsTaken, IsCounted, IsBlank}

-- an agenda that the words stand for
abbrev pub ShownAgenda : List ℕ → Type 0
ShownAgenda words = (agenda : Agenda) × StandsFor (waits_of words) agenda

-- whatever agenda the old words stand for, the new ones stand for this change of it
abbrev pub Becomes : (Agenda → Agenda) → List ℕ → List ℕ → Type 0
Becomes change old new =
    (agenda : Agenda) → StandsFor (waits_of old) agenda → StandsFor (waits_of new) (change agenda)

-- a task is due in this agenda
abbrev pub HasDue : Agenda → Type 0
HasDue agenda = IsSome (first_due agenda.time agenda.tasks)

-- a task is listed, or not accepted where nine wait
pub record Lists (delay : ℕ) (task : Task) (old : List ℕ) (accepted : Bool) (new : List ℕ)
    : Type 0 where
  pub shown : ShownAgenda old
  pub room : (agenda : Agenda) → StandsFor (waits_of old) agenda → accepted ≡ has_room agenda
  pub listed : Becomes (listed_if_room delay task) old new
  pub same_due : due_now (waits_of new) ≡ due_now (waits_of old)
  pub lawful : IsLawfulTable new
  pub tidy : IsTidy old → IsTidy new
  pub others : Keeps OutsideWaitlist old new
  pub words : accepted ≡ true → IsPut (place_for delay (waits_of old)) delay task old new
  pub unchanged : accepted ≡ false → new ≡ old

-- a centisecond passes, and it is answered whether a task is due then
pub record Counts (old : List ℕ) (answer : Bool) (new : List ℕ) : Type 0 where
  pub shown : ShownAgenda old
  pub counted : Becomes later old new
  pub due :
      (agenda : Agenda) → StandsFor (waits_of old) agenda → IsTrue answer ↔ HasDue (later agenda)
  pub value : answer ≡ is_due (waits_of new)
  pub few_due : due_now (waits_of new) ≤ 9
  pub lawful : IsLawfulTable new
  pub tidy : IsTidy old → IsTidy new
  pub others : Keeps OutsideWaitlist old new
  pub words : IsCounted old new

-- of the tasks that are due the earliest arrival is taken out
pub record Dispatches (old : List ℕ) (task : Task) (new : List ℕ) : Type 0 where
  pub shown : ShownAgenda old
  pub first :
      (agenda : Agenda) → StandsFor (waits_of old) agenda
      → first_due agenda.time agenda.tasks ≡ Some task
  pub taken : Becomes dispatched old new
  pub fewer_due : due_now (waits_of old) ≡ due_now (waits_of new) + 1
  pub lawful : IsLawfulTable new
  pub tidy : IsTidy old → IsTidy new
  pub others : Keeps OutsideWaitlist old new
  pub words : IsTaken old new

-- the answer is whether a task is due now
pub record TellsDue (words : List ℕ) (answer : Bool) : Type 0 where
  pub shown : ShownAgenda words
  pub due : (agenda : Agenda) → StandsFor (waits_of words) agenda → IsTrue answer ↔ HasDue agenda
  pub value : answer ≡ is_due (waits_of words)

-- the table is emptied, whatever was in it
pub record Clears (old new : List ℕ) : Type 0 where
  pub empty : waits_of new ≡ []
  pub stands : (time : ℕ) → StandsFor (waits_of new) (record { tasks = []; time = time })
  pub none_due : due_now (waits_of new) ≡ 0
  pub lawful : IsLawfulTable new
  pub tidy : IsTidy new
  pub others : Keeps OutsideWaitlist old new
  pub words : IsBlank new
