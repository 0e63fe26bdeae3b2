use Rattle.std.proofs.Common.{arith, ap, sym, subst}
use Rattle.agc_desk.specs.History.{Holder}
use Rattle.agc_desk.specs.Runs.{IsFront}
use Rattle.agc_bench.specs.Sharing.{AsksOwn, AsksPulses}
use Rattle.agc_bench.proofs.Askers.{worker_held, attends_held}
use Rattle.agc_bench.proofs.asker.ask_own.Goals as goal

pub returns-in-Some : goal.returns-in-Some
returns-in-Some g c =
    let all = c.work.ensures.2 in
    subst (λ asker. AsksOwn (λ n call answer. g.G.Gate.may_answer c.args.hall.now.gate.now n call answer) (λ n call said. g.G.Gate.is_told c.args.hall.now.gate.now n call said) asker c.args.share c.work.result)
    (sym (worker_held c.args.hall.now.bench.now c.workers.result.now (λ w. w.items) c.args.thread c.in-Some.requests.now c.as_slice-requests.result.now
    c.workers.ensures.value c.in-Some.ensures.lookup.3.0 c.in-Some.ensures.lookup.1 c.as_slice-requests.ensures.value))
    (record {
      calls = all.calls;
      own = (subst (λ asked. IsFront (λ call answer. g.G.Gate.may_answer c.args.hall.now.gate.now c.args.thread call answer) c.as_slice-requests.result.now asked) (sym all.asked) c.work.ensures.1, all.own);
      told = all.told;
      with_it = record {
        number = ap (λ (h : Holder). h.number) all.heard;
        heard = ap (λ (h : Holder). h.heard) all.heard;
        drains_are = omega (arith, ap (λ (h : Holder). h.drains) all.heard);
      };
    })

pub returns-in-None : goal.returns-in-None
returns-in-None g c =
    let told : AsksPulses c.args.hall.now.bench.now.attends c.args.share c.attend_times.result = c.attend_times.ensures in
    subst (λ asker. AsksOwn (λ n call answer. g.G.Gate.may_answer c.args.hall.now.gate.now n call answer) (λ n call said. g.G.Gate.is_told c.args.hall.now.gate.now n call said) asker c.args.share c.attend_times.result)
    (sym (attends_held c.args.hall.now.bench.now c.workers.result.now (λ w. w.items) c.args.thread c.workers.ensures.value c.in-None.ensures.lookup.3))
    (record { calls = told.calls; own = told.own; told = tt; with_it = told.with_it })
