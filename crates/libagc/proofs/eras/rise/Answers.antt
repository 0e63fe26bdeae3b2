use Rattle.std.proofs.Common.{ap, length, ◌∙◌}
use Rattle.std.proofs.lemmas.List.{length-replicate}
use Rattle.agc_word.specs.Profiles.{size_of}
use Rattle.agc_machine.proofs.Stepping.{begins_by}
use Rattle.libagc.specs.declared.reply.AgcNumber.{AgcNumber}
use Rattle.libagc.proofs.Rising.{powered}
use Rattle.libagc.proofs.eras.rise.Goals as goal

pub returns-clause-served : goal.returns-clause-served
returns-clause-served c = λ sets valid same.
    powered sets c.args.count c.args.entries.now c.recover_into-recovered.result c.args.phase_words.now c.args.words.now c.write_back.new.array c.new-image.result c.recover_into-recovered.new.e c.begin.new.e c.of.result.number valid same
    (ap length c.new-image.ensures ∙ length-replicate (size_of c.args.count) 0)
    c.recover_into-recovered.ensures.recovered (ap (λ (r : AgcNumber). r.number) c.of.ensures ∙ c.power_number.ensures) c.recover_into-recovered.ensures.base (begins_by _ c.recover_into-recovered.new.e c.begin.new.e c.begin.ensures.lawful c.begin.ensures.tidy c.begin.ensures.same_length c.begin.ensures.stands c.begin.ensures.placed) c.write_back.ensures
