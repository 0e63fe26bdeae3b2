-- Why a scenario is refused, from why its bench is.
use Rattle.std.proofs.Common.{◌≡◌, ◌≢◌, ◌∙◌, Bool, true, false, ◌&&◌, List, [], ◌∷◌, ℕ, map, Option, Some, Result, Ok, Err, IfOk, refl, sym, ap, ap₂, subst}
use Rattle.std.proofs.lemmas.List.{map-id}
use Rattle.std.proofs.lemmas.Bool.{false≢true}
use Rattle.std.specs.List.{AllByRecursion}
use Rattle.agc_document.specs.Gives.{RefusedLine}
use Rattle.agc_document.proofs.Refusals.{refused_because}
use Rattle.std.specs.List.{list_all}
use Rattle.std.specs.Option.{option_map}
use Rattle.toml.specs.Data.{Members}
use Rattle.agc_plan.specs.Plans.{fault_of}
use Rattle.agc_document.specs.declared.fault.BenchFault.{BenchFault}
use Rattle.agc_document.specs.declared.fault.BenchFault.TheVariants.{NoMemory, NotToml, Key, Line, TaskTwice, PhaseTwice, TooManyAreas}
use Rattle.agc_document.specs.Texts.{Texts}
use Rattle.agc_document.specs.Benches.{Benched, bench_texts}
use Rattle.agc_document.specs.Benches.{IsInRange as IsInRangeBench}
use Rattle.agc_document.specs.Faults as bench
use Rattle.agc_scenario.specs.Texts.{ScenarioTexts, TimingTexts}
use Rattle.agc_scenario.specs.Keys.{scenario_in}
use Rattle.agc_scenario.specs.Scenarios.{Scenarioed, Timed, IsInRange, IsTimed, can_be_shown, scenario_texts, timing_texts}
use Rattle.agc_scenario.specs.Faults.{RefusesTexts, RefusesScenario}

-- texts, with others of their parts
with_parts : (texts : ScenarioTexts) (b : Texts) (t : TimingTexts) → texts.bench ≡ b → texts.timing ≡ t → texts ≡ record { bench = b; row_names = texts.row_names; entry_names = texts.entry_names; timing = t }
with_parts texts b t p q =
    subst (λ x. texts ≡ record { bench = x; row_names = texts.row_names; entry_names = texts.entry_names; timing = t }) p
    (subst (λ y. texts ≡ record { bench = texts.bench; row_names = texts.row_names; entry_names = texts.entry_names; timing = y }) q refl)

-- a bench whose rows and entries have a fault, as part of a scenario
abbrev pub HasPlanFault : Benched → BenchFault → Type 0
HasPlanFault b fault = option_map bench.bench_fault (fault_of b.rows b.entries) ≡ Some fault

spells : (texts : ScenarioTexts) (t : Timed) (fault : BenchFault) → list_all can_be_shown texts.row_names ≡ true → list_all can_be_shown texts.entry_names ≡ true → IsTimed t → texts.timing ≡ timing_texts t
    → (b : Benched) × IsInRangeBench b × (texts.bench ≡ bench_texts b) × HasPlanFault b fault
    → (s : Scenarioed) × IsInRange s × (texts ≡ scenario_texts s) × HasPlanFault s.bench fault
spells texts t fault rows entries timed is h = (
  record { bench = h.0; row_names = texts.row_names; entry_names = texts.entry_names; timing = t },
  record { bench = h.1; row_names = rows; entry_names = entries; timing = timed },
  with_parts texts (bench_texts h.0) (timing_texts t) h.2 is,
  h.3,
)

pub refused_bench : (texts : ScenarioTexts) (t : Timed) (fault : BenchFault) → list_all can_be_shown texts.row_names ≡ true → list_all can_be_shown texts.entry_names ≡ true → IsTimed t → texts.timing ≡ timing_texts t → bench.RefusesTexts texts.bench fault → RefusesTexts texts fault
refused_bench texts t NoMemory rows entries timed is h = tt
refused_bench texts t NotToml rows entries timed is h = absurd h
refused_bench texts t Key rows entries timed is h = absurd h
refused_bench texts t Line rows entries timed is h = λ s r e. h s.bench r.bench (ap (λ x. x.bench) e)
refused_bench texts t TaskTwice rows entries timed is h = spells texts t TaskTwice rows entries timed is h
refused_bench texts t PhaseTwice rows entries timed is h = spells texts t PhaseTwice rows entries timed is h
refused_bench texts t TooManyAreas rows entries timed is h = spells texts t TooManyAreas rows entries timed is h

-- a document whose texts spell no scenario
pub refused_texts : (ms : Members) (texts : ScenarioTexts) (fault : BenchFault) → scenario_in ms ≡ Some texts → RefusesTexts texts fault → RefusesScenario (Some ms) fault
refused_texts ms texts NoMemory t h = tt
refused_texts ms texts NotToml t h = absurd h
refused_texts ms texts Key t h = absurd h
refused_texts ms texts Line t h = (texts, (ms, refl, t), h)
refused_texts ms texts TaskTwice t h = (texts, (ms, refl, t), h)
refused_texts ms texts PhaseTwice t h = (texts, (ms, refl, t), h)
refused_texts ms texts TooManyAreas t h = (texts, (ms, refl, t), h)

-- names that can be shown
all_shown : (ns : List (Option (List ℕ))) → AllByRecursion (λ n. can_be_shown n ≡ true) ns → list_all can_be_shown ns ≡ true
all_shown [] h = refl
all_shown (n ∷ ns) h = ap₂ (λ a b. a && b) h.0 (all_shown ns h.1)

first_true : (a b : Bool) → (a && b) ≡ true → a ≡ true
first_true true b h = refl
first_true false b h = absurd (false≢true h)

second_true : (a b : Bool) → (a && b) ≡ true → b ≡ true
second_true true b h = h
second_true false b h = absurd (false≢true h)

each_shown : (ns : List (Option (List ℕ))) → list_all can_be_shown ns ≡ true → AllByRecursion (λ n. can_be_shown n ≡ true) ns
each_shown [] h = tt
each_shown (n ∷ ns) h = (first_true (can_be_shown n) (list_all can_be_shown ns) h, each_shown ns (second_true (can_be_shown n) (list_all can_be_shown ns) h))

names_found : (names vs : List (Option (List ℕ))) → AllByRecursion (λ n. can_be_shown n ≡ true) vs → names ≡ map (λ n. n) vs → (vs ≡ names) × (list_all can_be_shown names ≡ true)
names_found names vs h is =
    let same : vs ≡ names = sym (is ∙ map-id vs) in
    (same, subst (λ ns. list_all can_be_shown ns ≡ true) same (all_shown vs h))

pub if_names_found : {V E : Type 0} (items : V → List (Option (List ℕ))) (names : List (Option (List ℕ))) (r : Result V E) → IfOk r (λ v. AllByRecursion (λ n. can_be_shown n ≡ true) (items v) × (names ≡ map (λ n. n) (items v))) → IfOk r (λ v. (items v ≡ names) × (list_all can_be_shown names ≡ true))
if_names_found items names (Ok v) h = names_found names (items v) h.0 h.1
if_names_found items names (Err e) h = tt

pub names_refused : (names : List (Option (List ℕ))) (fault : BenchFault) → RefusedLine ((vs : List (Option (List ℕ))) → AllByRecursion (λ n. can_be_shown n ≡ true) vs → names ≢ map (λ n. n) vs) fault → RefusedLine (list_all can_be_shown names ≢ true) fault
names_refused names fault h = refused_because _ _ fault (λ never shown. never names (each_shown names shown) (sym (map-id names))) h
