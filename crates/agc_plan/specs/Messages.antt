-- The text of each fault of a plan.
use Rattle.std.specs.Prelude.{ℕ, List, codes}
use Rattle.agc_plan.specs.declared.plan.PlanFault.{PlanFault}
use Rattle.agc_plan.specs.declared.plan.PlanFault.TheVariants.{NoMemory, TaskTwice, PhaseTwice}
use Rattle.agc_plan.specs.declared.plan.PlanFault.TheVariants.{TooManyAreas}

-- the text of a fault
abbrev pub plan_fault_text : PlanFault → List ℕ
plan_fault_text NoMemory = codes "no memory"
plan_fault_text TaskTwice = codes "task twice"
plan_fault_text PhaseTwice = codes "phase twice"
plan_fault_text TooManyAreas = codes "too many areas"
