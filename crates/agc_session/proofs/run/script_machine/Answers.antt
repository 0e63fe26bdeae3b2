use Rattle.agc_session.specs.Runs.{script_machine}
use Rattle.agc_session.proofs.run.script_machine.Goals as goal

pub returns-clause-machine : goal.returns-clause-machine
unfolding script_machine
returns-clause-machine c =
    rw (c.in_ok-plan.ensures.plan, c.new.ensures, c.new-2.ensures, c.script_limit.ensures) at c.in_ok-machine.ensures
