use Rattle.std.proofs.Common.{◌∙◌, ◌∷◌, [], ◌++◌, ap}
use Rattle.agc_latch.specs.Accounts.{LineAccounts}
use Rattle.agc_machine.specs.Machines.{after}
use Rattle.agc_machine.specs.Told.{add, told}
use Rattle.agc_desk.specs.Desks.{with_lines}
use Rattle.agc_desk.specs.History.{own_call}
use Rattle.agc_desk.proofs.desk.Desk.serve.Goals as goal

pub returns-clause-desk : goal.returns-clause-desk
returns-clause-desk g c =
    let old = c.args.self.now in
    c.ask_for.ensures.desk
    ∙ ap (λ (l : LineAccounts). with_lines l (record old { machine = after old.machine c.args.request; history = old.history ++ own_call c.args.share.now.number c.ask_for.result ∷ []; booked = add old.booked (told c.ask_for.result.outcome) }))
    c.ask_for.ensures.lines
