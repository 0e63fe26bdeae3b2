use Rattle.agc_wait.specs.Calls.{Dispatches}
use Rattle.libagc.proofs.Serving.{changed_waits}
use Rattle.libagc.proofs.requests.agc_dispatch.Goals as goal

pub returns-else-not-due-clause-served : goal.returns-else-not-due-clause-served
returns-else-not-due-clause-served c =
    λ served.
    changed_waits (λ these those. Dispatches these (record { at = c.from.result; bank = c.from-in-Ok.result }) those) c.args.sets c.args.words.now c.write_back.new.array c.in-Ok.image c.dispatch-task.new.e c.in-Ok.ensures.image c.in-Ok.ensures.opened (rw (c.from.ensures, c.get.ensures.value, c.from-in-Ok.ensures, c.bits.ensures.value) c.dispatch-task.ensures) c.dispatch-task.ensures.others c.dispatch-task.ensures.lawful c.write_back.ensures
