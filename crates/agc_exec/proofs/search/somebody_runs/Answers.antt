use Rattle.std.proofs.Common.{◌<◌, ◌≤◌, ◌∙◌, ◌+◌, sym, refl, arith, slice_index, false}
use Rattle.std.proofs.lemmas.Grind.{common_steps}
use Rattle.agc_word.specs.Layout.{set_place}
use Rattle.agc_exec.specs.Blocks.{block_in}
use Rattle.agc_exec.specs.Image.{record_of, sets_of}
use Rattle.agc_exec.proofs.Bests.{running_in-asleep}
use Rattle.agc_exec.proofs.Ranks.{at_words, held_by-awake, held_asleep}
use Rattle.agc_exec.proofs.search.somebody_runs.Goals as goal

pub returns-clause-runs : goal.returns-clause-runs
returns-clause-runs c runs =
    let low : slice_index c.args.e.now (set_place 0 + 11) < 16384 = grind (arith, common_steps) in
    (record_of (block_in c.args.e.now 0) (slice_index c.args.e.now (set_place 0 + 11)) false, at_words c.args.e.now 0 (omega arith) ∙ held_by-awake (block_in c.args.e.now 0) (slice_index c.args.e.now (set_place 0 + 11)) low, refl)

pub returns-clause-idle : goal.returns-clause-idle
returns-clause-idle c idle =
    let high : 16384 ≤ slice_index c.args.e.now (set_place 0 + 11) = grind (arith, common_steps) in
    running_in-asleep (sets_of c.args.e.now) (λ r at. held_asleep (block_in c.args.e.now 0) (slice_index c.args.e.now (set_place 0 + 11)) r high (sym (at_words c.args.e.now 0 (omega arith)) ∙ at))
