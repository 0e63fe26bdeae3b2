use Rattle.std.proofs.Common.{ap, sym, ◌∙◌}
use Rattle.agc_desk.specs.Books.{told_in}
use Rattle.agc_desk.proofs.Calls.{told_none}
use Rattle.agc_desk.proofs.desk.Desk.share.Goals as goal

pub invariant_of-result : goal.invariant_of-result
invariant_of-result g c = c.part.ensures.told ∙ (told_none ∙ sym (ap (λ o. told_in o.heard) c.part-2.ensures.own))
