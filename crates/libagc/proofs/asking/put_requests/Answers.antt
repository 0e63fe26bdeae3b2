use Rattle.std.proofs.Common.{◌≡◌, ℕ, suc, ap, sym, ◌∙◌, ◌+◌, ◌++◌, ◌∷◌, List, take, drop, arith}
use Rattle.std.proofs.Math.ListN.{get_or}
use Rattle.std.proofs.Math.Seq.{drop-cons}
use Rattle.libagc.specs.declared.reading.AgcRequest.{AgcRequest}
use Rattle.libagc.specs.Numbers.{request_with}
use Rattle.libagc.proofs.Pulsing.{asks, put_on, drop_on}
use Rattle.libagc.proofs.asking.put_requests.Goals as goal

pub loop-action-preserved : goal.loop-action-preserved
loop-action-preserved c =
    let k = c.loop-action.action-index in
    let action = get_or c.args.actions.now k (request_with 0 0 0 0) in
    let others = drop (k + 1) c.args.actions.now in
    let before = take c.loop-action.count c.loop-action.requests in
    let here : drop k c.args.actions.now ≡ action ∷ others = drop-cons c.args.actions.now k (request_with 0 0 0 0) c.loop-action-test.true ∙ ap (λ (n : ℕ). action ∷ drop n c.args.actions.now) (let one : suc k ≡ k + 1 = omega arith in one) in
    record {
      put = ap (λ (these : List AgcRequest). these ++ asks others) c.put_request-count.ensures.list ∙ put_on before action others (asks c.args.actions.now) (ap (λ (rest : List AgcRequest). before ++ asks rest) (sym here) ∙ c.loop-action.invariant.put);
      rest = c.put_request-count.ensures.rest ∙ drop_on c.loop-action.count c.put_request-count.result c.loop-action.requests c.args.requests.now c.put_request-count.ensures.least c.loop-action.invariant.rest;
      most = omega (arith, c.put_request-count.ensures.most, c.loop-action.invariant.most);
    }
