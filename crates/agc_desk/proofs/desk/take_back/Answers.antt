use Rattle.std.proofs.Common.{ap, false, nat_eq, subst, ◌<◌, ◌≡◌, ◌∙◌, ◌++◌, ◌∷◌, []}
use Rattle.std.specs.List.{list_any}
use Rattle.agc_machine.specs.Told.{add}
use Rattle.agc_desk.specs.Books.{told_in}
use Rattle.agc_desk.specs.History.{Holder, Known, calls_by}
use Rattle.agc_desk.proofs.desk.take_back.Goals as goal

pub returns-clause-back : goal.returns-clause-back
returns-clause-back g c =
    c.merge.ensures.back ∙ ap (λ t. add c.args.ledgers.now.back t) (c.share.invariant ∙ ap (λ (o : Holder). told_in o.heard) c.share.view_is)

pub returns-clause-gathered : goal.returns-clause-gathered
returns-clause-gathered g c =
    let old : Known = c.args.history.now in
    c.gather.ensures.gathered ∙ ap (λ (o : Holder). record old { gathered = old.gathered ++ o.number ∷ [] }) c.share.view_is

pub returns-clause-heard : goal.returns-clause-heard
returns-clause-heard g c = subst (λ (o : Holder). calls_by o.number c.args.history.now.calls ≡ o.heard) c.share.view_is c.gather.ensures.heard

pub returns-clause-given_out : goal.returns-clause-given_out
returns-clause-given_out g c = subst (λ (o : Holder). o.number < c.args.history.now.given) c.share.view_is c.gather.ensures.given_out

pub returns-clause-apart : goal.returns-clause-apart
returns-clause-apart g c = subst (λ (o : Holder). list_any (nat_eq o.number) c.args.history.now.gathered ≡ false) c.share.view_is c.gather.ensures.apart
