use Rattle.std.proofs.Common.{◌+◌, ◌*◌, ◌==◌, cond, slice_set, ap, ◌∙◌, arith}
use Rattle.agc_word.specs.Layout as layout
use Rattle.agc_wait.proofs.Writes.{after_set}
use Rattle.agc_wait.proofs.table.put_task.Goals as goal

pub returns-clause-put : goal.returns-clause-put
returns-clause-put c j =
    after_set c.set.new.self c.set-2.new.self (layout.lst2 + 1 + 2 * c.args.place) c.of_bits-2.result c.args.task.bank (c.set-2.ensures.value ∙ ap (λ i. slice_set c.set.new.self i c.of_bits-2.result) (omega arith)) (c.of_bits-2.ensures ∙ c.bits.ensures.value) c.set-2.ensures.all (omega arith) j
    ∙ ap (cond (j == layout.lst2 + 1 + 2 * c.args.place) c.args.task.bank)
    (after_set c.move_down.new.e c.set.new.self (layout.lst2 + 2 * c.args.place) c.of_bits.result c.args.task.at c.set.ensures.value (c.of_bits.ensures ∙ c.get.ensures.value) c.set.ensures.all (omega arith) j
    ∙ ap (cond (j == layout.lst2 + 2 * c.args.place) c.args.task.at) (c.move_down.ensures.moved j))
