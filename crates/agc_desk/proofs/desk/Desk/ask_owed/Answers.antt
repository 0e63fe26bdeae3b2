use Rattle.std.proofs.Common.{◌≡◌, [], length, Result, Some, refl, sym, ap, arith, subst, ⊎_elim, ◌∙◌}
use Rattle.agc_latch.specs.Accounts.{LineAccounts}
use Rattle.agc_latch.specs.Lines.{on}
use Rattle.agc_plan.specs.declared.reply.Reply.{Reply}
use Rattle.agc_plan.specs.Plans.{Planned}
use Rattle.agc_machine.specs.declared.answer.Refusal.{Refusal}
use Rattle.agc_plan.specs.Pulses.{pulse_requests}
use Rattle.agc_desk.specs.Stages.{Marks, NextIs}
use Rattle.agc_desk.proofs.Emptying.{asked_nothing, asked_more, left_less, line_done, line_refused, plan_stays}
use Rattle.agc_desk.proofs.desk.Desk.ask_owed.Goals as goal

pub loop-request-init : goal.loop-request-init
loop-request-init g c = asked_nothing c.args.self.now.machine.plan c.args.line c.args.self.now c.args.share.now

pub loop-request-smaller : goal.loop-request-smaller
loop-request-smaller g c =
    let plan = c.args.self.now.machine.plan in
    let mid = c.loop-request.self in
    let stays : mid.machine.plan ≡ plan = plan_stays plan c.args.line c.args.self.now c.args.share.now mid c.loop-request.share refl c.loop-request.invariant in
    left_less plan c.args.line c.in-Some.request mid.lines c.ask_for-answer.new.self.lines c.ask_for-answer.result.outcome c.in-Ok._reply
    (subst (λ (p : Planned). NextIs p c.args.line mid.lines c.in-Some.request) stays c.in-Some.ensures.some) c.in-Some.ensures.owed
    (sym c.result.ensures ∙ c.in-Ok.is)
    (subst (λ (p : Planned). Marks p (Some c.args.line) c.ask_for-answer.result.outcome mid.lines c.ask_for-answer.new.self.lines) stays c.ask_for-answer.ensures.lines)

pub loop-request-preserved : goal.loop-request-preserved
loop-request-preserved g c =
    let plan = c.args.self.now.machine.plan in
    let mid = c.loop-request.self in
    let stays : mid.machine.plan ≡ plan = plan_stays plan c.args.line c.args.self.now c.args.share.now mid c.loop-request.share refl c.loop-request.invariant in
    asked_more plan c.args.line c.in-Some.request c.args.self.now c.args.share.now mid c.loop-request.share c.ask_for-answer.result c.ask_for-answer.new.self c.ask_for-answer.new.share c.in-Ok._reply
    c.loop-request.invariant (subst (λ (p : Planned). NextIs p c.args.line mid.lines c.in-Some.request) stays c.in-Some.ensures.some) c.in-Some.ensures.owed
    c.ask_for-answer.ensures.answer c.ask_for-answer.ensures.desk c.ask_for-answer.ensures.heard
    (sym c.result.ensures ∙ c.in-Ok.is)
    (subst (λ (p : Planned). Marks p (Some c.args.line) c.ask_for-answer.result.outcome mid.lines c.ask_for-answer.new.self.lines) stays c.ask_for-answer.ensures.lines)

pub returns-in-Err : goal.returns-in-Err
returns-in-Err g c =
    let plan = c.args.self.now.machine.plan in
    let mid = c.loop-request.self in
    let now = c.ask_for-answer.new.self in
    let stays : mid.machine.plan ≡ plan = plan_stays plan c.args.line c.args.self.now c.args.share.now mid c.loop-request.share refl c.loop-request.invariant in
    let err = sym c.result.ensures ∙ c.in-Err.is in
    let marks : Marks plan (Some c.args.line) c.ask_for-answer.result.outcome mid.lines now.lines =
    subst (λ (p : Planned). Marks p (Some c.args.line) c.ask_for-answer.result.outcome mid.lines now.lines) stays c.ask_for-answer.ensures.lines in
    let same_lines : now.lines ≡ mid.lines = subst (λ (o : Result Reply Refusal). Marks plan (Some c.args.line) o mid.lines now.lines) err marks in
    let same_owed : on c.args.line now.lines.owed ≡ on c.args.line mid.lines.owed = ap (λ (l : LineAccounts). on c.args.line l.owed) same_lines in
    line_refused plan c.args.line c.in-Some.request _ c.args.self.now c.args.share.now mid c.loop-request.share c.ask_for-answer.result now c.ask_for-answer.new.share c.in-Err.refusal
    c.loop-request.invariant (subst (λ (p : Planned). NextIs p c.args.line mid.lines c.in-Some.request) stays c.in-Some.ensures.some) c.in-Some.ensures.owed
    (omega (arith, c.owed_on-owed.ensures, c.owed_on.ensures, same_owed, c.loop-request.invariant.lines.owed))
    c.ask_for-answer.ensures.answer c.ask_for-answer.ensures.desk c.ask_for-answer.ensures.heard err marks

pub returns : goal.returns
returns g c =
    let plan = c.args.self.now.machine.plan in
    let mid = c.loop-request.self in
    let stays : mid.machine.plan ≡ plan = plan_stays plan c.args.line c.args.self.now c.args.share.now mid c.loop-request.share refl c.loop-request.invariant in
    let none : on c.args.line mid.lines.owed ≡ 0 =
    ⊎_elim (λ (e : on c.args.line mid.lines.owed ≡ 0). e)
    (λ (e : pulse_requests mid.machine.plan c.args.line ≡ []).
    let empty : length (pulse_requests plan c.args.line) ≡ 0 = ap (λ (p : Planned). length (pulse_requests p c.args.line)) (sym stays) ∙ ap length e in
    absurd (omega (arith, empty, c.requires)))
    c.in_default.ensures.none in
    line_done plan c.args.line c.owed_on-owed.result c.args.self.now c.args.share.now mid c.loop-request.share c.loop-request.invariant none c.owed_on-owed.ensures
