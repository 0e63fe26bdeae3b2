use Rattle.std.proofs.Common.{◌≡◌, ◌+◌, ◌∷◌, [], ◌++◌, List, length, get_or, arith, length-append, sym, ap, ◌∙◌}
use Rattle.std.proofs.Math.Seq.{get_or-append_seam}
use Rattle.agc_desk.specs.History.{Holder}
use Rattle.agc_bench.specs.Sharing.{IsPledge}
use Rattle.agc_desk.proofs.Runs.{each_push}
use Rattle.agc_bench.proofs.Pledges.{pledge_kept}
use Rattle.agc_bench.proofs.threading.start_askers.Goals as goal

pub loop-share-preserved : goal.loop-share-preserved
loop-share-preserved g c =
    let starts : List Holder = c.loop-share.yielded ++ c.in-Some.share ∷ [] in
    let e = c.in_ok-asking.ensures.ok in
    let n : length c.loop-share.running.items ≡ length c.loop-share.yielded = omega (arith, c.loop-share.invariant.len) in
    let m : c.len-thread.result ≡ length c.loop-share.running.items = omega (arith, c.len-thread.ensures) in
    let grown : length starts ≡ length c.loop-share.yielded + 1 = length-append c.loop-share.yielded (c.in-Some.share ∷ []) in
    let here : IsPledge c.args.hall.now.bench.now starts c.args.hall.now.gate.now (length c.loop-share.running.items) c.in_ok-asking.asking.promise.start.value c.in_ok-asking.asking.promise.bench.now c.in_ok-asking.asking.promise.thread c.in_ok-asking.asking.promise.gate.now = record {
      start_is = λ s. ap (λ p. p.start.value) e ∙ (c.of.ensures ∙ sym (ap (λ k. get_or starts k s) n ∙ get_or-append_seam c.loop-share.yielded c.in-Some.share [] s));
      bench_is = ap (λ p. p.bench.now) e;
      thread_is = ap (λ p. p.thread) e ∙ m;
      gate_is = ap (λ p. p.gate.now) e;
    } in
    record {
      len = omega (arith, grown, n, c.in_ok-push.ensures.len);
      each = λ k d below. rw c.in_ok-push.ensures.items (each_push (λ j h. IsPledge c.args.hall.now.bench.now starts c.args.hall.now.gate.now j h.promise.start.value h.promise.bench.now h.promise.thread h.promise.gate.now) c.loop-share.running.items c.in_ok-asking.asking (λ j h l. pledge_kept c.args.hall.now.bench.now c.loop-share.yielded c.in-Some.share c.args.hall.now.gate.now j (get_or c.loop-share.running.items j h).promise.start.value (get_or c.loop-share.running.items j h).promise.bench.now (get_or c.loop-share.running.items j h).promise.thread (get_or c.loop-share.running.items j h).promise.gate.now (omega (arith, n, l)) (c.loop-share.invariant.each j h (omega (arith, n, l)))) here k d (omega (arith, n, grown, below)));
    }
