use Rattle.std.proofs.Common.{◌≡◌}
use Rattle.agc_bench.proofs.Posts.{posted_so_far}
use Rattle.agc_bench.proofs.poster.post_all.Given as goal

abbrev pub invariant-loop-pulse : goal.invariant-loop-pulse
invariant-loop-pulse l = l.device ≡ posted_so_far l.latch l.planned.0 l.planned.1 l._pulse
