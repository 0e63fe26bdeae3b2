use Rattle.std.proofs.Common.{◌∙◌, ap}
use Rattle.agc_run.specs.Events.{watching_from}
use Rattle.agc_run.specs.Runs.{all_to_ask}
use Rattle.agc_run.proofs.subject.Subject.watched.Goals as goal

pub returns-clause-watched : goal.returns-clause-watched
returns-clause-watched c = c.new.ensures.watched ∙ ap watching_from c.in_ok-run.ensures.machine

pub returns-clause-pending : goal.returns-clause-pending
returns-clause-pending c m = ap (all_to_ask m) c.new.ensures.pending ∙ c.in_ok-run.ensures.pending m
