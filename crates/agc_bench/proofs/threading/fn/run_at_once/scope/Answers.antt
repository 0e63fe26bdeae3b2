use Rattle.std.proofs.Common.{◌≡◌, List, length, arith, sym, subst, ◌∙◌}
use Rattle.std.proofs.lemmas.List.{ext_get_or, length-map}
use Rattle.agc_latch.specs.Ends.{Posting, new_device}
use Rattle.agc_latch.specs.Holders.{no_latch}
use Rattle.agc_bench.specs.Sharing.{IsPosts, spent_device, spent_devices}
use Rattle.agc_bench.proofs.Pledges.{spent_at}
use Rattle.agc_bench.proofs.threading.fn.run_at_once.scope.Goals as goal

pub returns-in-Ok : goal.returns-in-Ok
returns-in-Ok g c =
    let latch = c.captures.hall.now.latch.now in
    let bench = c.captures.hall.now.bench.now in
    let posting = c.in_ok-posting.ensures in
    let back : List Posting = c.in-Ok.devices.items in
    let none : Posting = new_device no_latch 0 in
    let many : length back ≡ length bench.devices = omega (arith, c.in-Ok.ensures.len, posting.len) in
    record {
      asked = c.in_ok-back.ensures.asked;
      devices =
          ext_get_or none back (spent_devices latch bench) (many ∙ sym (length-map bench.devices (spent_device latch))) (λ k below.
          let kept = (c.in-Ok.ensures.each k none (omega (arith, c.in-Ok.ensures.len, below))).1 in
          let posts : IsPosts latch bench k kept.handle.promise.latch.now kept.handle.promise.planned =
          subst (λ h. IsPosts latch bench k h.promise.latch.now h.promise.planned) (sym kept.handle_is) (posting.each k kept.handle (omega (arith, c.in-Ok.ensures.len, below))) in
          spent_at latch bench back k none kept.handle.promise.latch.now kept.handle.promise.planned (omega (arith, many, below)) posts kept.kept);
      early = tt;
    }
