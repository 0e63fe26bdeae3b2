use Rattle.agc_exec.proofs.Reading.{blocks_of-word}
use Rattle.agc_exec.proofs.core_set.set_word.Goals as goal

pub returns-clause-blocks : goal.returns-clause-blocks
returns-clause-blocks c =
    rw (c.set.ensures.value, c.set_place.ensures) (blocks_of-word c.args.e.now c.args.k c.args.i c.args.word c.requires.sized c.requires.set c.requires.place)
