use Rattle.agc_machine.proofs.Stepping.{begins_by}
use Rattle.libagc.proofs.Rising.{era_begun}
use Rattle.libagc.proofs.eras.agc_begin.Goals as goal

pub returns-in-None-clause-served : goal.returns-in-None-clause-served
returns-in-None-clause-served c =
    λ served.
    era_begun c.args.entries.now c.args.alarm c.args.sets c.args.words.now c.write_back.new.array c.in-Ok.image c.note.new.e c.begin.new.e c.in-Ok.ensures.image.count c.in-Ok.ensures.opened c.note.ensures (begins_by _ c.note.new.e c.begin.new.e c.begin.ensures.lawful c.begin.ensures.tidy c.begin.ensures.same_length c.begin.ensures.stands c.begin.ensures.placed) c.write_back.ensures
