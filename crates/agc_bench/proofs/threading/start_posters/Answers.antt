use Rattle.std.proofs.Common.{◌≡◌, ◌<◌, ◌∷◌, [], ◌++◌, List, length, get_or, arith, length-append, append_assoc, append-nil, sym, ap, ◌∙◌}
use Rattle.std.specs.Vec.Iter.{into_iter_items}
use Rattle.std.proofs.lemmas.List.{get_or_default, length-map, length_push}
use Rattle.agc_plan.specs.declared.line.Line.TheVariants.{Timer}
use Rattle.agc_latch.specs.Ends.{Posting, new_device}
use Rattle.agc_bench.specs.Sharing.{IsPosts, new_devices}
use Rattle.agc_desk.proofs.Runs.{each_push}
use Rattle.agc_bench.proofs.Pledges.{nothing_left}
use Rattle.agc_bench.proofs.threading.start_posters.Goals as goal

pub loop-device-preserved : goal.loop-device-preserved
loop-device-preserved g c =
    let latch = c.args.hall.now.latch.now in
    let bench = c.args.hall.now.bench.now in
    let old : List Posting = c.loop-device.yielded in
    let device : Posting = c.in-Some.device in
    let running = c.loop-device.posting.items in
    let i = c.loop-device.invariant in
    let e = c.in_ok-poster.ensures.ok in
    let n : length running ≡ length old = omega (arith, i.len) in
    let m : c.len.result ≡ length running = omega (arith, c.len.ensures) in
    let steps : into_iter_items c.loop-device.device-iterator ≡ device ∷ into_iter_items c.next.new.self = c.in-Some.ensures.steps.0 in
    let whole : old ++ device ∷ into_iter_items c.next.new.self ≡ new_devices latch bench =
    ap (λ l. old ++ l) (sym steps) ∙ (i.rest ∙ (c.into_iter-device-iterator.ensures.into_iter_gives.0 ∙ c.requires.devices)) in
    let inside : length running < length bench.devices =
    omega (arith, n, ap length whole, length-append old (device ∷ into_iter_items c.next.new.self), length-map bench.devices (λ d. new_device latch d.1)) in
    let here : IsPosts latch bench (length running) c.in_ok-poster.poster.promise.latch.now c.in_ok-poster.poster.promise.planned = record {
      latch_is = ap (λ p. p.latch.now) e;
      planned_is = λ d. ap (λ p. p.planned) e ∙ ((λ j. get_or (c.devices.ensures.value j) (m j) (Timer, 0)) ∙ get_or_default bench.devices (length running) (Timer, 0) d inside);
    } in
    record {
      rest = append_assoc old (device ∷ []) _ ∙ rw (← steps) i.rest;
      left_over = omega (arith, i.left_over, c.in-Some.ensures.steps.1, ap length steps);
      len = omega (arith, length_push old device, n, c.in_ok-push.ensures.len);
      each = λ k d below. rw c.in_ok-push.ensures.items (each_push (λ j h. IsPosts latch bench j h.promise.latch.now h.promise.planned) running c.in_ok-poster.poster (λ j h l. i.each j h (omega (arith, n, l))) here k d (omega (arith, n, length_push old device, below)));
    }

pub returns-clause-len : goal.returns-clause-len
returns-clause-len g c =
    let bench = c.args.hall.now.bench.now in
    let i = c.loop-device.invariant in
    let over : into_iter_items c.loop-device.device-iterator ≡ [] = nothing_left _ (sym i.left_over ∙ c.in-None.ensures.steps.0) in
    let all : c.loop-device.yielded ≡ new_devices c.args.hall.now.latch.now bench =
    sym (append-nil c.loop-device.yielded) ∙ (rw over at i.rest ∙ (c.into_iter-device-iterator.ensures.into_iter_gives.0 ∙ c.requires.devices)) in
    omega (arith, i.len, ap length all, length-map bench.devices (λ d. new_device c.args.hall.now.latch.now d.1))
