-- What comes of a text as a scenario: it is refused, or it is one.
use Rattle.std.proofs.Common.{◌≡◌, ℕ, List, Some, subst, sym}
use Rattle.toml.specs.Data.{Members}
use Rattle.toml.specs.Parse.{parse_document}
use Rattle.agc_document.specs.declared.fault.BenchFault.{BenchFault}
use Rattle.agc_scenario.specs.Scenarios.{Scenarioed, scenario_texts}
use Rattle.agc_scenario.specs.Faults.{HasTexts, RefusesScenario}
use Rattle.agc_check.specs.Findings.{FindingView, AreFindings, IsRefusedWith}

pub refused : (text : List ℕ) (ms : Members) (k : BenchFault) (fs : List FindingView) → parse_document text ≡ Some ms → RefusesScenario (Some ms) k → AreFindings text k fs → IsRefusedWith (RefusesScenario (parse_document text)) text fs
refused text ms k fs is why h = (k, subst (λ d. RefusesScenario d k) (sym is) why, h)

pub accepted : (text : List ℕ) (ms : Members) (s : Scenarioed) → parse_document text ≡ Some ms → HasTexts (Some ms) (scenario_texts s) → HasTexts (parse_document text) (scenario_texts s)
accepted text ms s is has = subst (λ d. HasTexts d (scenario_texts s)) (sym is) has
