use Rattle.std.proofs.Common.{arith}
use Rattle.agc_bench.proofs.Askers.{threads_held}
use Rattle.agc_bench.proofs.asker.count_threads.Goals as goal

pub returns-clause-count : goal.returns-clause-count
returns-clause-count c =
    omega (arith, threads_held c.args.bench.now c.workers.result.now (λ w. w.items) c.workers.ensures.value)
