use Rattle.std.proofs.Common.{rules}
use Rattle.libagc.proofs.Moving.{inside_a_tick, migrated_to}
use Rattle.libagc.proofs.images.agc_migrate.Goals as goal

pub returns-in-None-clause-code : goal.returns-in-None-clause-code
returns-in-None-clause-code c =
    inside_a_tick c.code-in-None.result c.args.words.now c.seven.result c.in-Ok.ensures.image c.seven.ensures (λ lawful. search (rules, c.in-None.ensures.lawful.1 lawful)) c.code-in-None.ensures

pub returns-in-Some-clause-served : goal.returns-in-Some-clause-served
returns-in-Some-clause-served c =
    λ served.
    migrated_to c.args.words.now c.write_all.new.array c.seven.result c.in-Some.migrated c.seven.ensures c.write_all.ensures.all c.write_all.array_long c.write_all.ensures.range c.in-Some.ensures.migrated
