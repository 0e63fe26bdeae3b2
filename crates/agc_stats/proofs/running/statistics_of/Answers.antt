use Rattle.agc_stats.proofs.Runs.{of_subject}
use Rattle.agc_stats.proofs.running.statistics_of.Goals as goal

pub returns : goal.returns
returns c =
    of_subject c.args.subject c.run_to_end.result c.in_ok-run.run'.machine c.in_ok-run.run'.pending c.in_ok-run.ensures.machine c.in_ok-run.ensures.pending c.run_to_end.ensures.statistics
