use Rattle.std.proofs.Common.{◌≡◌, ℕ, List, Some, slice_get, ap, ◌∙◌, refl, arith}
use Rattle.std.proofs.lemmas.Option.{slice_get_read}
use Rattle.agc_plan.specs.Tasks.{Waiting}
use Rattle.agc_run.specs.declared.listings.Listing.{Listing}
use Rattle.agc_run.specs.Reading.{is_old, listing_of}
use Rattle.agc_run.proofs.Steps.{near_on, one_listed}
use Rattle.agc_run.proofs.listings.listings_after.Goals as goal

pub loop-wait-preserved : goal.loop-wait-preserved
loop-wait-preserved c =
    let same : c.wait.inside.distance ≡ c.wait-item.result.distance = ap (λ (w : Waiting). w.distance) c.wait.view_is in
    let there : slice_get c.waits-wait-items.result.now c.loop-wait.wait-index ≡ Some c.wait-item.result = slice_get_read c.waits-wait-items.result.now _ c.loop-wait.wait-index c.wait-item.result refl (omega arith) c.wait-item.is in
    record {
      rest = one_listed c.args.now c.args.were.now c.loop-wait.place c.old_count_after-place.result c.waits-wait-items.result.now c.loop-wait.wait-index c.wait-item.result c.at-old.result c.loop-wait.found c.push.new.self _ c.listing_of.result c.is_old.result there
          (c.at-old.ensures ∙ ap (λ (l : List Listing). slice_get l c.loop-wait.place) c.as_slice.ensures.value)
          (c.listing_of.ensures ∙ ap (λ (n : ℕ). listing_of c.args.now c.at-old.result n) same)
          (c.is_old.ensures ∙ ap (λ (n : ℕ). is_old c.at-old.result n) same)
          c.old_count_after-place.ensures c.push.ensures.items c.loop-wait.invariant.rest;
      len = omega (arith, c.push.ensures.len, c.loop-wait.invariant.len);
      near = near_on c.loop-wait.place c.old_count_after-place.result c.loop-wait.wait-index c.is_old.result c.old_count_after-place.ensures c.loop-wait.invariant.near;
    }
