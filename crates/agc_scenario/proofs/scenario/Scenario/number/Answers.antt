use Rattle.std.proofs.Common.{◌≡◌, ap, codes, false, rules, subst}
use Rattle.std.specs.Str.{bytes_eq}
use Rattle.agc_scenario.specs.declared.changing.Number.{Number}
use Rattle.agc_scenario.specs.Scenarios.{Scenarioed, Timed}
use Rattle.agc_scenario.specs.Numbers.{NamesNumber}
use Rattle.agc_scenario.proofs.Numbers.{nothing_named}
use Rattle.agc_scenario.proofs.scenario.Scenario.number.Goals as goal

pub returns-in-None-event_named-3-clause-only : goal.returns-in-None-event_named-3-clause-only
returns-in-None-event_named-3-clause-only c =
    let steal : bytes_eq c.args.name.now (codes "steal") ≡ false = search rules in
    let seconds : bytes_eq c.args.name.now (codes "seconds") ≡ false = search rules in
    let seed : bytes_eq c.args.name.now (codes "seed") ≡ false = search rules in
    let is : c.self.inside.timing ≡ c.args.self.now.timing = ap (λ (s : Scenarioed). s.timing) c.self.view_is in
    subst (λ (t : Timed). (n : Number) → ¬ (NamesNumber t c.args.name.now n)) is (nothing_named c.self.inside.timing c.args.name.now steal seconds seed c.in-None.ensures.only c.in-None-event_named.ensures.only c.in-None-event_named-2.ensures.only c.in-None-event_named-3.ensures.only)
