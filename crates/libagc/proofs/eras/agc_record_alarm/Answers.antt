use Rattle.agc_phase.specs.Image.{Becomes, base_of}
use Rattle.libagc.specs.Stepping.{base_after}
use Rattle.libagc.proofs.Serving.{changed_phases}
use Rattle.libagc.proofs.eras.agc_record_alarm.Goals as goal

pub returns-else-is_none-clause-served : goal.returns-else-is_none-clause-served
returns-else-is_none-clause-served c =
    λ served.
    changed_phases (λ old new. Becomes (base_after c.args.alarm (base_of old)) old new) c.args.sets c.args.words.now c.write_back.new.array c.in-Ok.image c.note.new.e c.in-Ok.ensures.image c.in-Ok.ensures.opened c.note.ensures c.note.ensures.others c.note.ensures.lawful c.write_back.ensures
