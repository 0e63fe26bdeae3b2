use Rattle.agc_exec.specs.Image.{sets_of}
use Rattle.std.proofs.Common.{sym, rules}
use Rattle.agc_exec.proofs.Newcomers.{newjob-led, newjob-rests}
use Rattle.agc_exec.proofs.newjob.newjob_of_best.Goals as goal

pub returns-then-somebody_runs-clause-value : goal.returns-then-somebody_runs-clause-value
returns-then-somebody_runs-clause-value c = sym (newjob-led (sets_of c.args.e.now) c.requires.set.standing.lawful (c.somebody_runs.ensures.runs (search rules)) c.requires.first)

pub returns-else-somebody_runs-clause-value : goal.returns-else-somebody_runs-clause-value
returns-else-somebody_runs-clause-value c = sym (newjob-rests (sets_of c.args.e.now) c.requires.set.standing.lawful (c.somebody_runs.ensures.idle (search rules)) c.requires.first)
