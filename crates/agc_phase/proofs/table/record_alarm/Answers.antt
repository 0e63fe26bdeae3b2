use Rattle.std.proofs.Common.{◌≡◌, ◌≤◌, length, ◌∙◌, ap, arith}
use Rattle.std.proofs.lemmas.List.{length-set}
use Rattle.agc_word.specs.Layout as layout
use Rattle.agc_word.specs.Layout.{IsSized}
use Rattle.agc_phase.proofs.Records.{Becomes-recorded}
use Rattle.agc_phase.proofs.table.record_alarm.Goals as goal

pub returns : goal.returns
returns c =
    let same : length c.set.new.self ≡ length c.args.e.now = ap length c.set.ensures.value ∙ length-set c.args.e.now c.free_place.result c.code_word-word.result in
    let sized : IsSized c.set.new.self = c.set.ensures.all in
    let size : layout.last_set ≤ length c.args.e.now = omega arith in
    Becomes-recorded c.args.e.now c.set-2.new.self c.code_word-word.result c.free_place.result c.args.code size c.requires c.code_word-word.ensures c.free_place.ensures
    (rw c.set.ensures.value at c.set-2.ensures.value)
