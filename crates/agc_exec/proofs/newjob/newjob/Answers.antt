use Rattle.std.proofs.Common.{◌*◌, ◌∙◌, sym, ap, arith}
use Rattle.agc_exec.specs.Image.{sets_of}
use Rattle.agc_exec.proofs.Leads.{newjob-urgent, newjob-idle}
use Rattle.agc_exec.proofs.Finishing.{newjob_of-none}
use Rattle.agc_exec.proofs.newjob.newjob.Goals as goal

pub returns-then-best-eq0-clause-value : goal.returns-then-best-eq0-clause-value
returns-then-best-eq0-clause-value c =
    sym (newjob_of-none (sets_of c.args.e.now) c.requires.standing.lawful (c.best_rank-best.ensures.nobody (omega arith)))

pub returns-then-best-word_of-clause-value : goal.returns-then-best-word_of-clause-value
returns-then-best-word_of-clause-value c =
    ap (λ k. 12 * k) c.set_of_rank.ensures ∙ sym (newjob-urgent c.args.e.now c.best_rank-best.result c.requires c.best_rank-best.ensures (omega arith))

pub returns-else-best-word_of-clause-value : goal.returns-else-best-word_of-clause-value
returns-else-best-word_of-clause-value c =
    sym (newjob-idle c.args.e.now c.best_rank-best.result c.requires c.best_rank-best.ensures (omega arith) (omega arith))
