-- When each fault of a scenario comes.
use Rattle.std.specs.Prelude.{◌≡◌, ◌≢◌, Option, Some, None}
use Rattle.std.specs.Option.{option_map}
use Rattle.toml.specs.Data.{Members}
use Rattle.agc_plan.specs.Plans.{fault_of}
use Rattle.agc_document.specs.declared.fault.BenchFault.{BenchFault}
use Rattle.agc_document.specs.declared.fault.BenchFault.TheVariants as refusal
use Rattle.agc_document.specs.Faults.{bench_fault}
use Rattle.agc_scenario.specs.Texts.{ScenarioTexts}
use Rattle.agc_scenario.specs.Keys.{scenario_in}
use Rattle.agc_scenario.specs.Scenarios.{Scenarioed, IsInRange, scenario_texts}

-- the document is there, and its keys and kinds give these texts
abbrev pub HasTexts : Option Members → ScenarioTexts → Type 0
HasTexts document texts = (ms : Members) × (document ≡ Some ms) × (scenario_in ms ≡ Some texts)

-- why numbers and texts spell no scenario, by their first fault, unless memory runs out: a text of
-- no form, or a scenario in its ranges whose rows and entries make no plan
abbrev pub RefusesTexts : ScenarioTexts → BenchFault → Type 0
RefusesTexts texts refusal.NoMemory = Unit {0}
RefusesTexts texts refusal.NotToml = ⊥
RefusesTexts texts refusal.Key = ⊥
RefusesTexts texts refusal.Line = (s : Scenarioed) → IsInRange s → texts ≢ scenario_texts s
RefusesTexts texts fault = (s : Scenarioed) × IsInRange s × (texts ≡ scenario_texts s)
    × (option_map bench_fault (fault_of s.bench.rows s.bench.entries) ≡ Some fault)

-- why a document is no scenario, by its first fault, unless memory runs out
abbrev pub RefusesScenario : Option Members → BenchFault → Type 0
RefusesScenario document refusal.NoMemory = Unit {0}
RefusesScenario document refusal.NotToml = document ≡ None
RefusesScenario document refusal.Key =
    (ms : Members) × (document ≡ Some ms) × (scenario_in ms ≡ None)
RefusesScenario document fault =
    (texts : ScenarioTexts) × HasTexts document texts × RefusesTexts texts fault
