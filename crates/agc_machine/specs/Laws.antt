-- When a table of a machine is full, and which request finds it so.
use Rattle.std.specs.Prelude.{◌≡◌, length}
use Rattle.agc_plan.specs.declared.reply.Alarm.{Alarm}
use Rattle.agc_plan.specs.declared.reply.Alarm.TheVariants.{A1201, A1202, A1203}
use Rattle.agc_plan.specs.declared.request.Request.{Request}
use Rattle.agc_plan.specs.declared.request.Request.TheVariants.{Novac, Findvac, List}
use Rattle.agc_plan.specs.Laws.{IsEachOwned, SomeAreaIsUnowned, living}
use Rattle.agc_machine.specs.Machines.{Machined, plain_of}

-- each of the five VAC areas is owned
abbrev pub AreasAreOwned : Machined → Type 0
AreasAreOwned m = IsEachOwned (plain_of m).work.jobs.slots

-- one of them is free
abbrev pub SomeAreaIsFree : Machined → Type 0
SomeAreaIsFree m = SomeAreaIsUnowned (plain_of m).work.jobs.slots

-- each core set is held: there are as many jobs as core sets
abbrev pub SetsAreHeld : Machined → Type 0
SetsAreHeld m = living (plain_of m).work.jobs.slots ≡ m.plan.sets

-- nine tasks wait
abbrev pub NineTasksWait : Machined → Type 0
NineTasksWait m = length (plain_of m).work.agenda.tasks ≡ 9

-- the request needs a place in the table of this alarm, and finds it full; of the two tables that
-- FINDVAC needs, the areas come first
abbrev pub FindsFull : Alarm → Request → Machined → Type 0
FindsFull A1201 (Findvac priority entry) m = AreasAreOwned m
FindsFull A1202 (Findvac priority entry) m = SomeAreaIsFree m × SetsAreHeld m
FindsFull A1202 (Novac priority entry) m = SetsAreHeld m
FindsFull A1203 (List delay task) m = NineTasksWait m
FindsFull alarm asked m = ⊥
