use Rattle.std.proofs.Common.{List, rules, ◌≡◌, length, sym, ap, subst}
use Rattle.agc_desk.specs.History.{Holder, IsHistory, Known}
use Rattle.agc_desk.proofs.Calls.{whole_history}
use Rattle.agc_desk.proofs.desk.end_desk.Goals as goal

pub returns-clause-history : goal.returns-clause-history
returns-clause-history g c =
    let shares : List Holder = c.args.shares.items in
    let initial : Known = c.desk.inside.history in
    let back = c.take_all_back.ensures in
    let calls : c.args.desk.history ≡ initial.calls = sym (ap (λ d. d.history) c.desk.view_is) in
    let many : length shares ≡ initial.given = search rules in
    subst (λ l. IsHistory g.N.Names.first shares l c.desk.inside.machine) (sym calls)
    (whole_history g.N.Names.first shares initial.calls c.desk.inside.machine initial.given c.desk.invariant.leads
    back.each back.apart back.below many back.given)
