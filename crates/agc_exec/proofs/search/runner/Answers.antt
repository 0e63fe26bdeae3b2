use Rattle.std.proofs.Common.{ap, sym, ◌∙◌, option_map, rules}
use Rattle.agc_exec.specs.HeldJob.{HeldJob}
use Rattle.agc_exec.specs.Image.{sets_of}
use Rattle.agc_exec.proofs.Bests.{running_in-awake}
use Rattle.agc_exec.proofs.search.runner.Goals as goal

pub number_in_set-requires-clause-held : goal.number_in_set-requires-clause-held
number_in_set-requires-clause-held c = let (r, at, awake) = c.somebody_runs.ensures.runs (search rules) in (r, at)

pub returns-then-somebody_runs : goal.returns-then-somebody_runs
returns-then-somebody_runs c =
    let (r, at, awake) = c.somebody_runs.ensures.runs (search rules) in
    c.number_in_set.ensures ∙ ap (option_map (λ (r : HeldJob). r.number)) at ∙ sym (running_in-awake (sets_of c.args.e.now) r at awake)
