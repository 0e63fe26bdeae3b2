use Rattle.std.proofs.Common.{◌≡◌, drop}
use Rattle.agc_stats.specs.Followed.{deadline_among}
use Rattle.agc_stats.proofs.job_statistics.deadline_among.Given as goal

abbrev pub invariant-loop-job : goal.invariant-loop-job
invariant-loop-job l = deadline_among (drop l.job-index l.jobs) l.at ≡ deadline_among l.jobs l.at
