use Rattle.std.proofs.Common.{◌≡◌, ◌≤◌, ◌∙◌, arith}
use Rattle.agc_phase.specs.Image.{phase_in, phase_words}
use Rattle.agc_phase.proofs.Reading.{phase_in-is}
use Rattle.agc_phase.proofs.table.phase_at.Goals as goal

pub overflow_cast-bits : goal.overflow_cast-bits
overflow_cast-bits c =
    let high : c.bits.result ≤ 127 = (phase_in-is c.args.e.now c.args.group c.bits.result c.requires.table.pairs c.requires.six (c.bits.ensures.value ∙ c.get-word.ensures.value)).1 in
    omega arith

pub unreachable-requires : goal.unreachable-requires
unreachable-requires c =
    let high : c.bits.result ≤ 127 = (phase_in-is c.args.e.now c.args.group c.bits.result c.requires.table.pairs c.requires.six (c.bits.ensures.value ∙ c.get-word.ensures.value)).1 in
    let some = c.new.ensures.valid.1 high in
    let empty = rw c.in-None.is at some in
    absurd (cc)

pub returns : goal.returns
returns c =
    let is : c.bits.result ≡ phase_in (phase_words c.args.e.now) c.args.group = (phase_in-is c.args.e.now c.args.group c.bits.result c.requires.table.pairs c.requires.six (c.bits.ensures.value ∙ c.get-word.ensures.value)).0 in
    c.in-Some.ensures.value ∙ is
