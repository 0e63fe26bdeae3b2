use Rattle.agc_session.proofs.Pairs.{recovered_is}
use Rattle.agc_session.proofs.run.power_up_bench.Goals as goal

pub returns : goal.returns
returns c =
    let e = recovered_is c.args.words.now c.in_ok-machine._recovered c.in_ok-machine.ensures.recovered in
    rw (e, c.limit.ensures, c.allowance.ensures.value) at c.in_ok-machine.ensures.machine
