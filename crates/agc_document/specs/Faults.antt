-- When each fault of a bench comes.
use Rattle.std.specs.Prelude.{◌≡◌, ◌≢◌, Option, Some, None}
use Rattle.std.specs.Option.{option_map}
use Rattle.toml.specs.Data.{Members}
use Rattle.agc_plan.specs.Plans.{fault_of}
use Rattle.agc_plan.specs.declared.plan.PlanFault.{PlanFault}
use Rattle.agc_plan.specs.declared.plan.PlanFault.TheVariants.{NoMemory as NoMemoryToPlan}
use Rattle.agc_plan.specs.declared.plan.PlanFault.TheVariants.{TaskTwice as TwiceTask}
use Rattle.agc_plan.specs.declared.plan.PlanFault.TheVariants.{PhaseTwice as TwicePhase}
use Rattle.agc_plan.specs.declared.plan.PlanFault.TheVariants.{TooManyAreas as ManyAreas}
use Rattle.agc_document.specs.declared.fault.BenchFault.{BenchFault}
use Rattle.agc_document.specs.declared.fault.BenchFault.TheVariants.{NoMemory as NoMemoryForBench}
use Rattle.agc_document.specs.declared.fault.BenchFault.TheVariants.{NotToml, Key, Line as NoLine}
use Rattle.agc_document.specs.declared.fault.BenchFault.TheVariants.{TaskTwice, PhaseTwice}
use Rattle.agc_document.specs.declared.fault.BenchFault.TheVariants.{TooManyAreas}
use Rattle.agc_document.specs.Texts.{Texts}
use Rattle.agc_document.specs.declared.rows.TheConstants.{DEVICES, WORKERS}
use Rattle.agc_document.specs.Keys.{texts_by}
use Rattle.agc_document.specs.Benches.{Benched, bench_texts, IsInRange}

-- the fault of a bench whose plan has this fault
abbrev pub bench_fault : PlanFault → BenchFault
bench_fault NoMemoryToPlan = NoMemoryForBench
bench_fault TwiceTask = TaskTwice
bench_fault TwicePhase = PhaseTwice
bench_fault ManyAreas = TooManyAreas

-- the document is there, and its keys and kinds give these texts
abbrev pub HasTexts : Option Members → Texts → Type 0
HasTexts read texts = (ms : Members) × (read ≡ Some ms) × (texts_by WORKERS DEVICES ms ≡ Some texts)

-- why numbers and texts spell no bench, by their first fault, unless memory runs out: a text of no
-- form, or a bench in its ranges whose rows and entries make no plan
abbrev pub RefusesTexts : Texts → BenchFault → Type 0
RefusesTexts texts NoMemoryForBench = Unit {0}
RefusesTexts texts NotToml = ⊥
RefusesTexts texts Key = ⊥
RefusesTexts texts NoLine = (b : Benched) → IsInRange b → texts ≢ bench_texts b
RefusesTexts texts fault = (b : Benched) × IsInRange b × (texts ≡ bench_texts b)
    × (option_map bench_fault (fault_of b.rows b.entries) ≡ Some fault)

-- why a document is no bench, by its first fault, unless memory runs out
abbrev pub RefusesBench : Option Members → BenchFault → Type 0
RefusesBench document NoMemoryForBench = Unit {0}
RefusesBench document NotToml = document ≡ None
RefusesBench read Key = (ms : Members) × (read ≡ Some ms) × (texts_by WORKERS DEVICES ms ≡ None)
RefusesBench document fault = (texts : Texts) × HasTexts document texts × RefusesTexts texts fault
