use Rattle.std.proofs.Common.{◌+◌, ◌-◌, ◌==◌, cond, ap, ◌∙◌, arith}
use Rattle.agc_word.specs.Layout as layout
use Rattle.agc_wait.specs.Writing.{gap_word}
use Rattle.agc_wait.proofs.Writes.{after_set}
use Rattle.agc_wait.proofs.table.put_gap.Goals as goal

pub returns-then-is_before-clause-put : goal.returns-then-is_before-clause-put
returns-then-is_before-clause-put c j =
    rw (c.if-is_before.true) (after_set c.move_down.new.e c.set.new.self (layout.lst1 + c.args.place) c.gap_word.result (gap_word (c.args.after - c.args.distance)) c.set.ensures.value c.gap_word.ensures c.set.ensures.all (omega arith) j
    ∙ ap (cond (j == layout.lst1 + c.args.place) (gap_word (c.args.after - c.args.distance))) (c.move_down.ensures.moved j))
