use Rattle.std.proofs.Common.{rules}
use Rattle.agc_exec.specs.Image.{sets_of}
use Rattle.agc_exec.proofs.Judging.{set_awake, fronted_runs, fronted_nobody}
use Rattle.agc_exec.proofs.lawful.is_fronted.Goals as goal

pub returns-then-somebody_runs-clause-yes : goal.returns-then-somebody_runs-clause-yes
returns-then-somebody_runs-clause-yes c e = fronted_runs (sets_of c.args.e.now) (c.somebody_runs.ensures.runs (search rules))

pub returns-clause-yes : goal.returns-clause-yes
returns-clause-yes c e = fronted_nobody c.args.e.now c.requires (c.nobody_awake.ensures.yes e)

pub returns-clause-no : goal.returns-clause-no
returns-clause-no c set = c.nobody_awake.ensures.no (set_awake c.args.e.now c.requires set (c.somebody_runs.ensures.idle (search rules)))
