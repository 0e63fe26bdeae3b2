use Rattle.std.proofs.Common.{◌∙◌, ap, cond, sym, rules, arith}
use Rattle.agc_word.specs.Layout.{sets_in, address_of}
use Rattle.agc_exec.specs.Image.{sets_of}
use Rattle.agc_exec.proofs.Decoding.{length-sets}
use Rattle.agc_exec.proofs.Marks.{marked_owned, unmarked_unowned}
use Rattle.agc_exec.proofs.lawful.use_word.Goals as goal

pub returns-then-areas-area : goal.returns-then-areas-area
returns-then-areas-area c =
    sym (ap (λ b. cond b 0 (address_of c.args.area)) (marked_owned (sets_of c.args.e.now) (sets_in c.args.e.now) c.args.area c.args.areas.now (omega arith) c.requires.marked (search rules)))

pub returns-else-areas-area : goal.returns-else-areas-area
returns-else-areas-area c =
    c.address_of.ensures ∙ sym (ap (λ b. cond b 0 (address_of c.args.area)) (unmarked_unowned (sets_of c.args.e.now) (sets_in c.args.e.now) c.args.area c.args.areas.now (omega arith) (sym (length-sets c.args.e.now)) c.requires.marked (search rules)))
