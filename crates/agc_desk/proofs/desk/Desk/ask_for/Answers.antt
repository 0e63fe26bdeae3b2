use Rattle.std.proofs.Common.{◌≡◌, ap, sym, subst, ◌∙◌, ◌∷◌, [], ◌++◌, ◌+◌, ◌<◌, ◌≤◌, length, IfSome, Option, None, Some}
use Rattle.std.proofs.lemmas.Option.{slice_get_within}
use Rattle.agc_plan.specs.declared.line.Line.{Line}
use Rattle.agc_latch.specs.Accounts.{LineAccounts}
use Rattle.agc_latch.specs.Lines.{on}
use Rattle.agc_plan.specs.declared.request.Request.{Request}
use Rattle.agc_plan.specs.Plans.{Planned}
use Rattle.agc_machine.specs.Machines.{Machined, after, answer_of, said_of}
use Rattle.agc_machine.specs.Said.{Said}
use Rattle.agc_machine.specs.Told.{add, told}
use Rattle.agc_desk.specs.declared.ties.Call.{Call}
use Rattle.agc_desk.specs.Books.{told_in}
use Rattle.agc_desk.specs.Desks.{ArePulses, Desked}
use Rattle.agc_desk.specs.History.{Leads}
use Rattle.agc_plan.specs.Pulses.{pulse_requests}
use Rattle.agc_desk.specs.Stages.{Marks, NextIs}
use Rattle.agc_desk.proofs.Calls.{leads_on, grown_on, same_growth, same_setting, told_after, told_push}
use Rattle.agc_desk.proofs.Emptying.{plan_after}
use Rattle.agc_desk.proofs.Marking.{marked}
use Rattle.agc_desk.proofs.desk.Desk.ask_for.Goals as goal

pub invariant_of-self : goal.invariant_of-self
invariant_of-self g c =
    let call : Call = record { by = c.share.inside.own.number; answer = c.apply-answer.result; pulse = c.args.pulse } in
    let asked = ap (λ (x : Said). x.request) c.apply-answer.ensures.answer in
    let calls = c.self.inside.history.calls in
    let machine = c.self.inside.machine in
    let led = leads_on g.N.Names.first calls machine call c.self.invariant.leads (c.apply-answer.ensures.answer ∙ ap (λ q. said_of machine q) (sym asked)) in
    let there = ap (λ q. after machine q) asked ∙ sym c.apply-answer.ensures.after in
    let plan = same_setting g.N.Names.first calls machine c.self.invariant.leads in
    let stays : c.apply-answer.new.self.plan ≡ machine.plan = ap (λ (m : Machined). m.plan) c.apply-answer.ensures.after ∙ plan_after machine c.args.request in
    let asks : IfSome c.args.pulse (λ line. NextIs machine.plan line c.self.inside.lines c.args.request) =
    subst (λ (d : Desked). IfSome c.args.pulse (λ line. NextIs d.machine.plan line d.lines c.args.request)) (sym c.self.view_is) c.requires.asks in
    let next : IfSome c.args.pulse (λ line. NextIs g.N.Names.first.plan line c.self.inside.lines c.apply-answer.result.request) =
    subst (λ (p : Planned). IfSome c.args.pulse (λ line. NextIs p line c.self.inside.lines c.apply-answer.result.request)) plan.plan
    (subst (λ (q : Request). IfSome c.args.pulse (λ line. NextIs machine.plan line c.self.inside.lines q)) (sym asked) asks) in
    let marks : Marks g.N.Names.first.plan c.args.pulse c.apply-answer.result.outcome c.self.inside.lines c.mark_served.new.lines =
    subst (λ (p : Planned). Marks p c.args.pulse c.apply-answer.result.outcome c.self.inside.lines c.mark_served.new.lines) (stays ∙ plan.plan) c.mark_served.ensures in
    record {
      leads = subst (λ l. Leads g.N.Names.first l c.apply-answer.new.self) (sym (ap (λ k. k.calls) c.note.ensures.calls)) (subst (λ m. Leads g.N.Names.first (calls ++ call ∷ []) m) there led);
      none_gathered = ap (λ k. k.gathered) c.note.ensures.calls ∙ c.self.invariant.none_gathered;
      since_is = c.self.invariant.since_is;
      grown = grown_on c.self.inside.ledgers.total c.self.inside.since c.totals-before.result c.growth-told.result c.apply-answer.new.self.totals c.add.new.self.total (c.self.invariant.grown ∙ sym c.totals-before.ensures.totals) (c.growth-told.ensures ∙ c.totals.ensures.totals) c.add.ensures.total;
      parts = ap (λ n. n + c.note.new.self.given) c.add.ensures.left ∙ (ap (λ k. c.self.inside.ledgers.left + k.given) c.note.ensures.calls ∙ c.self.invariant.parts);
      one = subst (λ n. 1 ≤ n) (sym c.add.ensures.left) c.self.invariant.one;
      none_back = c.add.ensures.back ∙ c.self.invariant.none_back;
      pulses = subst (λ l. ArePulses g.N.Names.first.plan l c.mark_served.new.lines.applied c.mark_served.new.lines.begun) (sym (ap (λ k. k.calls) c.note.ensures.calls))
          (marked g.N.Names.first.plan calls c.share.inside.own.number c.apply-answer.result c.args.pulse c.self.inside.lines c.mark_served.new.lines
          c.self.invariant.pulses next marks);
    }

pub mark_served-requires-clause-owed : goal.mark_served-requires-clause-owed
mark_served-requires-clause-owed g c =
    subst (λ (d : Desked). IfSome c.args.pulse (λ line. 1 ≤ on line d.lines.owed)) (sym c.self.view_is) c.requires.owed

within : (plan : Planned) (pulse : Option Line) (lines : LineAccounts) (q : Request) → IfSome pulse (λ line. NextIs plan line lines q)
    → IfSome pulse (λ line. on line lines.begun < length (pulse_requests plan line))
within plan None lines q next = next
within plan (Some line) lines q next = slice_get_within (pulse_requests plan line) (on line lines.begun) q next

pub mark_served-requires-clause-begun : goal.mark_served-requires-clause-begun
mark_served-requires-clause-begun g c =
    let machine = c.self.inside.machine in
    let stays : c.apply-answer.new.self.plan ≡ machine.plan = ap (λ (m : Machined). m.plan) c.apply-answer.ensures.after ∙ plan_after machine c.args.request in
    within c.apply-answer.new.self.plan c.args.pulse c.self.inside.lines c.args.request
    (subst (λ (p : Planned). IfSome c.args.pulse (λ line. NextIs p line c.self.inside.lines c.args.request)) (sym stays)
    (subst (λ (d : Desked). IfSome c.args.pulse (λ line. NextIs d.machine.plan line d.lines c.args.request)) (sym c.self.view_is) c.requires.asks))

pub returns-clause-lines : goal.returns-clause-lines
returns-clause-lines g c =
    let machine = c.self.inside.machine in
    let stays : c.apply-answer.new.self.plan ≡ machine.plan = ap (λ (m : Machined). m.plan) c.apply-answer.ensures.after ∙ plan_after machine c.args.request in
    subst (λ (d : Desked). Marks d.machine.plan c.args.pulse c.apply-answer.result.outcome d.lines c.mark_served.new.lines) c.self.view_is
    (subst (λ (p : Planned). Marks p c.args.pulse c.apply-answer.result.outcome c.self.inside.lines c.mark_served.new.lines) stays c.mark_served.ensures)

pub invariant_of-share : goal.invariant_of-share
invariant_of-share g c =
    let heard = c.share.inside.own.heard in
    let call : Call = record { by = c.share.inside.own.number; answer = c.apply-answer.result; pulse = c.args.pulse } in
    let same : c.growth-told.result ≡ told c.apply-answer.result.outcome =
    same_growth c.totals-before.result c.growth-told.result (told c.apply-answer.result.outcome)
    (c.growth-told.ensures ∙ (c.totals.ensures.totals ∙ (ap (λ m. m.totals) c.apply-answer.ensures.after ∙ (told_after c.self.inside.machine c.args.request
    ∙ (ap (λ t. add t (told (answer_of c.self.inside.machine c.args.request))) (sym c.totals-before.ensures.totals) ∙ ap (λ o. add c.totals-before.result (told o)) (ap (λ (x : Said). x.outcome) (sym c.apply-answer.ensures.answer))))))) in
    let grew : c.add.new.amounts ≡ add (told_in heard) (told c.apply-answer.result.outcome) =
    c.add.ensures.told ∙ (ap (λ t. add t c.growth-told.result) c.share.invariant ∙ ap (λ t. add (told_in heard) t) same) in
    grew ∙ (sym (told_push heard call) ∙ sym (ap (λ o. told_in o.heard) c.note.ensures.own))

pub returns-clause-given : goal.returns-clause-given
returns-clause-given g c =
    let machine = c.self.inside.machine in
    record {
      calls = c.self.inside.history.calls;
      machine = machine;
      leads = c.self.invariant.leads;
      lawful = c.apply-answer.ensures.lawful;
      answer = c.apply-answer.ensures.answer ∙ ap (λ (x : Said). said_of machine x.request) (sym c.apply-answer.ensures.answer);
    }
