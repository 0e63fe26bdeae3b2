use Rattle.std.proofs.Common.{◌∙◌}
use Rattle.agc_text.proofs.Sessions.{after_next, after_last}
use Rattle.agc_bench.proofs.Histories.{calls_next, calls_last}
use Rattle.agc_bench.proofs.asker.ask_script.Goals as goal

pub loop-request-preserved : goal.loop-request-preserved
loop-request-preserved g c =
    let i = c.loop-request.invariant in
    let at = c.loop-request.request-index in
    let m = c.loop-request.desk.machine in
    let script = c.args.script.now in
    let r = c.request-item.result in
    rw (c.serve.ensures.desk, c.serve.ensures.heard) (record {
      rest = after_next _ m script at r c.loop-request-test.true c.request-item.is i.rest;
      history = calls_next _ _ m script at r _ c.serve.result c.loop-request-test.true c.request-item.is (i.number ∙ c.requires) c.serve.ensures.answer i.history;
      heard = calls_next _ _ m script at r _ c.serve.result c.loop-request-test.true c.request-item.is (i.number ∙ c.requires) c.serve.ensures.answer i.heard;
      number = i.number;
      drains = i.drains;
      given = i.given;
      lines = i.lines;
    })

pub returns-clause-machine : goal.returns-clause-machine
returns-clause-machine g c =
    after_last _ c.loop-request.desk.machine c.args.script.now c.loop-request.request-index c.loop-request-test.false c.loop-request.invariant.rest

pub returns-clause-history : goal.returns-clause-history
returns-clause-history g c =
    calls_last _ _ c.loop-request.desk.machine c.args.script.now c.loop-request.request-index c.loop-request-test.false c.loop-request.invariant.history

pub returns-clause-heard : goal.returns-clause-heard
returns-clause-heard g c =
    let all = calls_last _ _ c.loop-request.desk.machine c.args.script.now c.loop-request.request-index c.loop-request-test.false c.loop-request.invariant.heard in
    λ i. record { number = c.loop-request.invariant.number i; heard = all i; drains = c.loop-request.invariant.drains i }
