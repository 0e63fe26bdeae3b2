use Rattle.std.proofs.Common.{◌≡◌, ap, sym, subst, ◌∙◌}
use Rattle.agc_word.specs.Profiles.{count_of}
use Rattle.agc_machine.specs.Machines.{Machined}
use Rattle.agc_run.specs.Runs.{Pending, clock_requests, requests_in, to_ask}
use Rattle.agc_scenario.specs.Scenarios.{Timed}
use Rattle.agc_session.specs.Runs.{machine_on}
use Rattle.agc_stats.specs.Runs.{ArePeaks, IsRunStatistics}
use Rattle.agc_stats.proofs.Runs.{of_all}
use Rattle.agc_stats.proofs.running.peaks_of.Goals as goal

pub returns-in-Ok : goal.returns-in-Ok
returns-in-Ok c =
    let sets = count_of c.args.sets in
    let n : Machined = machine_on sets c.args.scenario.now.bench in
    let timed : Timed = c.args.scenario.now.timing in
    let pending : Pending = c.new-run.result.pending in
    let same : c.new-run.result.machine ≡ n = c.new-run.ensures.machine ∙ c.in_ok-machine.ensures.machine ∙ ap (machine_on sets) c.bench.ensures in
    let those : (k : Machined) → to_ask k pending ≡ clock_requests timed k = λ k. ap (to_ask k) c.new-run.ensures.pending ∙ ap requests_in (c.of_scenario.ensures k) ∙ ap (λ (t : Timed). clock_requests t k) c.timing.ensures in
    let are : IsRunStatistics n (clock_requests timed n) c.in-Ok.statistics = of_all c.new-run.result.machine n pending (clock_requests timed) c.in-Ok.statistics same those c.in-Ok.ensures.statistics in
    subst (ArePeaks n (clock_requests timed n)) (sym c.peaks.ensures) are.peaks_are
